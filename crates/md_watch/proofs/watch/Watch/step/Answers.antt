use Rattle.std.proofs.Common.{◌≡◌, ap, subst, ◌∙◌, length}
use Rattle.md_law.specs.History.{History, next}
use Rattle.md_watch.specs.declared.presences.InFolders.{InFolders}
use Rattle.md_watch.specs.declared.watch.Watch.{Watch}
use Rattle.md_kept.specs.Changes.{Turn, turn_of, turn_by, file_in}
use Rattle.md_watch.specs.Found.{before_of, after_of}
use Rattle.md_watch.specs.Memory as memories
use Rattle.md_watch.specs.Presences.{in_folders}
use Rattle.md_watch.specs.Watches.{Holds, Touches, Finds}
use Rattle.md_watch.proofs.Breaking.{step-finds}
use Rattle.md_watch.proofs.watch.Watch.step.Goals as goal

abbrev new : goal.After-after → Watch
new c = record c.follow.new.self { memory = c.follow-2.new.self }

all : (c : goal.After-after) (h : History) → Holds h c.args.self.now
    → Holds (next h c.args.step.now) (new c) × Finds c.after.result (next h c.args.step.now)
all c h holds =
    let w = c.args.self.now in
    let x = c.args.step.now in
    let t : Turn = turn_of c.change-change.result in
    let heard = c.in_ok-heard.heard in
    let is : t ≡ turn_by (file_in w.paths) (length w.files.all.items) x.call =
    c.change-change.ensures ∙ ap (λ n. turn_by (file_in w.paths) n x.call) c.count.ensures in
    let touched = c.in_ok-touch.ensures in
    let plain : Touches x (record w { clock = c.max-self.result; memory = c.hear.new.self }) c.touch.new.self = record {
      clock = touched.clock;
      folders = touched.folders;
      paths = touched.paths;
      files = touched.files;
      messages = touched.messages;
      drafts = touched.drafts;
      memory = touched.memory;
    } in
    let touches = (subst (λ k. Touches x (record w { clock = k; memory = c.hear.new.self }) c.touch.new.self) c.max-self.ensures plain) in
    let goes = (subst (λ (b : InFolders). memories.Follows x t (in_folders w.messages t) b c.follow.new.self.memory c.follow-2.new.self)
    c.in_folders-are.ensures
    (subst (λ (b : InFolders). memories.Follows x t b c.in_folders-are.result c.follow.new.self.memory c.follow-2.new.self)
    c.in_folders-were.ensures c.in_ok-follow-2.ensures)) in
    let found = (c.after.ensures ∙ ap (λ b. after_of (new c) t b heard)
    (c.before-before.ensures ∙ ap (λ k. before_of (record w { clock = k }) t x) c.max-self.ensures)) in
    step-finds h x w holds t is c.hear.new.self c.touch.new.self c.follow.new.self touches c.in_ok-follow.ensures
    heard c.in_ok-heard.ensures c.follow-2.new.self goes c.after.result found

pub returns-clause-holds : goal.returns-clause-holds
returns-clause-holds c = λ h holds. (all c h holds).0

pub returns-clause-found : goal.returns-clause-found
returns-clause-found c = λ h holds. (all c h holds).1

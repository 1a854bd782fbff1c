-- What a watch finds is what the monitor finds.
use Rattle.std.proofs.Common.{ℕ, ◌≡◌, ◌||◌, refl, sym, ap, subst, ◌∙◌, length}
use Rattle.std.specs.Prelude.{max}
use Rattle.md_log.specs.declared.clause.Clause.{Clause}
use Rattle.md_log.specs.declared.clause.Clause.TheVariants as clause
use Rattle.md_log.specs.declared.line.Step.{Step}
use Rattle.md_law.specs.History.{History, next, at, now, moment, after_call}
use Rattle.md_monitor.specs.Changes.{change_of}
use Rattle.md_monitor.specs.Files.{is_seen, files_kept}
use Rattle.md_monitor.specs.Messages.{messages_kept}
use Rattle.md_monitor.specs.Readings.{readings_kept}
use Rattle.md_monitor.specs.Judged.{kept_of, finds}
use Rattle.md_monitor.proofs.Judging.{breaks-is}
use Rattle.md_watch.specs.declared.broken.Broken.{Broken}
use Rattle.md_watch.specs.declared.memory.Heard.{Heard}
use Rattle.md_watch.specs.declared.memory.Memory.{Memory}
use Rattle.md_watch.specs.declared.watch.Watch.{Watch}
use Rattle.md_kept.specs.Changes.{Turn, turn_by, file_in}
use Rattle.md_watch.specs.Found.{breaks}
use Rattle.md_kept.specs.Replies.{is_wrong}
use Rattle.md_watch.specs.Found as found
use Rattle.md_watch.specs.Memory as memories
use Rattle.md_watch.specs.Presences.{in_folders}
use Rattle.md_watch.specs.Watches.{Holds, Keeps, Touches, Follows, Finds}
use Rattle.md_watch.proofs.Going.{same-paths, same-turn, stepped}
use Rattle.md_watch.proofs.Hearing.{IsHeard, heard-is}
use Rattle.md_watch.proofs.Noticing as noticing
use Rattle.md_watch.proofs.Remembering.{remembers}
use Rattle.md_watch.proofs.Replying.{wrong-is}
use Rattle.md_watch.proofs.Turning.{turn}

-- the watch before a step, at the clock of the step
abbrev pub clocked : Watch → Step → Watch
clocked w x = record w { clock = max w.clock x.moment }

module _ (h : History) (x : Step) (w new : Watch) (holds : Holds h w) (after : Holds (next h x) new) (heard : Heard)
    (hears : IsHeard h x heard) where
  abbrev t : Turn
  t = turn (at h) (change_of (at h) x.call)

  abbrev clock : ℕ
  clock = max (now h) x.moment

  before : Keeps (at h) clock (files_kept h) (messages_kept h) (clocked w x)
  before = record {
    clock = ap (λ n. max n x.moment) holds.keeps.clock;
    folders = holds.keeps.folders;
    paths = holds.keeps.paths;
    filed = holds.keeps.filed;
    files = holds.keeps.files;
    messages = holds.keeps.messages;
    drafts = holds.keeps.drafts;
  }

  is-found : (c : Clause) → breaks (found.after_of new t (found.before_of (clocked w x) t x) heard) c
      ≡ finds (at h) (now (next h x)) (kept_of h) x c
  unfolding moment
  is-found clause.NotADirectory =
      (λ i. is_wrong (same-paths (clocked w x) before i) (holds.keeps.folders i) x.call || heard.read.misread)
      ∙ wrong-is (at h) clock (readings_kept h) x.actor x.call heard.read.misread hears.misread
  is-found clause.Overwritten = refl
  is-found clause.SeenBeforeWhole =
      ap (λ f. found.shows_too_early (clocked w x) x.call (found.written_by f x.call) t.named) (same-paths (clocked w x) before)
      ∙ noticing.seen_before_whole (at h) (files_kept h) (clocked w x) holds.keeps.files clock x
  is-found clause.Mixed = ap (λ f. found.is_mixed (clocked w x) x.actor (found.written_by f x.call)) (same-paths (clocked w x) before)
      ∙ noticing.mixed (at h) (files_kept h) (clocked w x) holds.keeps.files clock x
  is-found clause.NotFlushed = noticing.not_flushed (at h) (files_kept h) (clocked w x) holds.keeps.files clock x
  is-found clause.TwoNames = noticing.two_names (at h) clock (messages_kept h) x (messages_kept (next h x)) new after.keeps.messages
  is-found clause.Gone = noticing.gone (at h) clock (messages_kept h) x (messages_kept (next h x)) new after.keeps.messages
  is-found clause.UsedAgain = noticing.back (at h) (messages_kept h) (clocked w x) holds.keeps.messages clock x
  is-found clause.MovedBack = noticing.moved_back (at h) (files_kept h) (clocked w x) holds.keeps.files clock x
  is-found clause.CleanedEarly = noticing.cleaned_early (at h) (files_kept h) (clocked w x) holds.keeps.files holds.keeps.filed x new
      (λ n. noticing.seen-is (after_call x.call clock (at h)) (files_kept (next h x)) new after.keeps.files n
      ∙ ap (λ k. is_seen (after_call x.call k (at h)) n) (sym before.clock))
      ∙ ap (λ k. finds (at h) k (kept_of h) x clause.CleanedEarly) before.clock
  is-found clause.Unlisted = hears.unlisted
  is-found clause.GaveUp = hears.gave_up
  is-found clause.AnsweredFalsely = hears.falsely
  is-found clause.InTwoFolders =
      noticing.in_two_folders (at h) clock (messages_kept h) x (messages_kept (next h x)) new after.keeps.messages
  is-found clause.NamedByAnother = noticing.named_by_another (at h) (files_kept h) (clocked w x) holds.keeps.files clock x
  is-found clause.Rewritten = ap (λ f. found.is_rewritten (clocked w x) (found.written_by f x.call)) (same-paths (clocked w x) before)
      ∙ noticing.rewritten (at h) (files_kept h) (clocked w x) holds.keeps.files clock x
  is-found clause.UsedTwice = noticing.used_twice (at h) (messages_kept h) (clocked w x) holds.keeps.messages clock x
  is-found clause.MadeAgain = noticing.made_again (at h) (messages_kept h) (clocked w x) holds.keeps.drafts clock x
  is-found clause.WrittenLate = ap (λ f. found.is_late (clocked w x) (found.written_by f x.call)) (same-paths (clocked w x) before)
      ∙ noticing.written_late (at h) (files_kept h) (clocked w x) holds.keeps.files holds.keeps.filed x
      ∙ ap (λ k. finds (at h) k (kept_of h) x clause.WrittenLate) before.clock

  all-found : (u : Turn) → u ≡ turn_by (file_in w.paths) (length w.files.all.items) x.call
      → Finds (found.after_of new u (found.before_of (clocked w x) u x) heard) (next h x)
  all-found u is c =
      let same : u ≡ t = same-turn (at h) w holds.keeps x u is in
      let found = ap (λ v. breaks (found.after_of new v (found.before_of (clocked w x) v x) heard) c) same ∙ is-found c in
      let decides = breaks-is h x c in
      (λ broken. decides.0 (sym found ∙ broken), λ broken. found ∙ decides.1 broken)

-- A step of a history: what is heard of it before its change, what it touches, and what follows.
module _ (h : History) (x : Step) (w : Watch) (holds : Holds h w) (t : Turn)
    (is : t ≡ turn_by (file_in w.paths) (length w.files.all.items) x.call)
    (memory : Memory) (mid followed : Watch) (touches : Touches x (record w { clock = max w.clock x.moment; memory = memory }) mid)
    (follows : Follows t mid followed) (heard : Heard) (hears : memories.Hears x w.paths w.messages w.memory memory heard) (new : Memory)
    (goes : memories.Follows x t (in_folders w.messages t) (in_folders followed.messages t) followed.memory new) where
  abbrev after : Watch
  after = record followed { memory = new }

  pub step-finds : (broken : Broken) → broken ≡ found.after_of after t (found.before_of (clocked w x) t x) heard
      → Holds (next h x) after × Finds broken (next h x)
  step-finds broken is-it = (held, subst (λ b. Finds b (next h x)) (sym is-it) (all-found h x w after holds held heard hears-it t is))
    where
      held : Holds (next h x) after
      held = stepped h x w holds t is memory mid followed touches follows heard hears new goes

      hears-it : IsHeard h x heard
      hears-it = heard-is h x w.paths holds.keeps.paths w.messages holds.keeps.messages w.memory memory heard hears
          (remembers h w.memory holds.recalls)

-- What a watch keeps follows a step.
use Rattle.std.proofs.Common.{ℕ, ◌≡◌, ◌&&◌, ◌||◌, not, cond, List, Option, Some, None, slice_get, refl, sym, ap, subst, ◌∙◌, length}
use Rattle.std.specs.Prelude.{max}
use Rattle.md_dirs.specs.State.{State, file_at}
use Rattle.md_log.specs.declared.line.Step.{Step}
use Rattle.md_law.specs.History.{History, next, at, now, moment, after_call}
use Rattle.md_monitor.specs.Changes.{change_of, is_file}
use Rattle.md_monitor.specs.Files.{FileKept, is_some_and, is_ok, is_fault, is_write, written_by, flushed_by, made_by, files_kept, kept_after}
use Rattle.md_monitor.specs.Messages.{MessagesKept, no_path, path_after, messages_kept, messages_after}
use Rattle.md_monitor.proofs.Changing.{led}
use Rattle.md_monitor.proofs.Recounting.{recount}
use Rattle.md_watch.specs.Stored.{HasFiles}
use Rattle.md_watch.proofs.Stored.{has-call}
use Rattle.md_kept.specs.declared.files.FileKept.{FileKept as Kept}
use Rattle.md_watch.specs.declared.memory.Heard.{Heard}
use Rattle.md_watch.specs.declared.memory.Memory.{Memory}
use Rattle.md_watch.specs.declared.watch.Watch.{Watch}
use Rattle.md_kept.specs.Changes.{Turn, turn_by, file_in}
use Rattle.md_kept.specs.Files.{made_by as made, written, cut, flushed, times_of}
use Rattle.md_watch.specs.Memory as memories
use Rattle.md_watch.specs.Presences.{in_folders}
use Rattle.md_watch.specs.Watches.{AreFiles, AreMessages, AreDrafts, Keeps, Holds, Touches, Follows, touching}
use Rattle.md_watch.proofs.Turning.{turn, turn-is, paths-after}
use Rattle.md_watch.proofs.Afters.{call-folders}
use Rattle.md_watch.proofs.Touching.{touched, touched-maker, touched-count, touched-unflushed, touched-cut, touched-stamps}
use Rattle.md_watch.proofs.Keeping.{Leads, AreTouched, turned}
use Rattle.md_watch.proofs.Remembering.{remembers, goes-on}

module _ (s : State) (now : ℕ) (x : Step) (kept : ℕ → FileKept) (told : MessagesKept) (filed : HasFiles s) where
  step-leads : Leads (turn s (change_of s x.call)) s (after_call x.call now s) kept (kept_after s x kept) told (messages_after s x told)
  step-leads = record {
    folders = call-folders x.call now s;
    paths = paths-after s x.call now;
    counts = λ test. recount test s x.call now;
    named = λ p n is. (((led s x.call now).named p n).0 is).0;
    filed = has-call x.call now s filed;
    was_cur = λ n. refl;
    was_seen = λ n. refl;
    was_there = λ f u. refl;
    was_file = λ f u n. refl;
    was_any = λ u. refl;
    was_any_file = λ u n. refl;
    drafts = λ p tmp. ap (λ b. cond b (path_after (change_of s x.call).named p (told.paths p)) no_path) tmp;
  }

  step-touched : (old new : List Kept) → AreFiles s kept old → touching (file_at s) now x.actor x.call old new
      → AreTouched s (after_call x.call now s) kept (kept_after s x kept) new
  step-touched old new are does = record {
    count = touched-count now x.actor old new s are.count x.call does;
    maker = λ n. touched-maker now x.actor old new s are.count x.call does n
        ∙ ap (λ (m : Option (List ℕ)). cond (is_file (made_by s x.call) n) (Some x.actor) m) (are.maker n);
    unflushed = λ n. touched-unflushed now x.actor old new s are.count filed x.call does n
        ∙ ap (λ b. is_write (written_by s x.call) is_ok n || (not (is_file (flushed_by s x.call) n) && b)) (are.unflushed n);
    cut = λ n. touched-cut now x.actor old new s are.count filed x.call does n
        ∙ ap (λ b. is_write (written_by s x.call) is_fault n || (not (is_write (written_by s x.call) is_ok n) && b)) (are.cut n);
    was_cur = λ n. same (λ o. is_some_and o (λ f. f.was_cur)) refl (λ f. refl) (λ f. refl) (λ f. refl) n ∙ are.was_cur n;
    was_seen = λ n. same (λ o. is_some_and o (λ f. f.was_seen)) refl (λ f. refl) (λ f. refl) (λ f. refl) n ∙ are.was_seen n;
    times = λ n. same times_of refl (λ f. refl) (λ f. refl) (λ f. refl) n ∙ are.times n;
    stamp = touched-stamps now x.actor old new s are.count filed x.call does are.stamp;
  }
    where
      same : {A : Type 0} (part : Option Kept → A) → part (Some (made (Some x.actor) now)) ≡ part None
          → ((f : Kept) → part (Some (written now f)) ≡ part (Some f)) → ((f : Kept) → part (Some (cut f)) ≡ part (Some f))
          → ((f : Kept) → part (Some (flushed f)) ≡ part (Some f))
          → (n : ℕ) → part (slice_get new n) ≡ part (slice_get old n)
      same part makes writes cuts flushes n = touched now x.actor old new part makes writes cuts flushes (file_at s) x.call does n

-- the paths that are kept, as one function
pub same-paths : {s : State} {now : ℕ} {kept : ℕ → FileKept} {told : MessagesKept} (w : Watch) → Keeps s now kept told w
    → file_in w.paths ≡ file_at s
same-paths w keeps = λ i p. keeps.paths p i

-- the turn that is found is that of the step
pub same-turn : (s : State) {now : ℕ} {kept : ℕ → FileKept} {told : MessagesKept} (w : Watch) → Keeps s now kept told w
    → (x : Step) (t : Turn)
    → t ≡ turn_by (file_in w.paths) (length w.files.all.items) x.call → t ≡ turn s (change_of s x.call)
same-turn s w keeps x t is = is ∙ (λ i. turn_by (same-paths w keeps i) (keeps.files.count i) x.call) ∙ turn-is s x.call

-- what is kept of files and messages says nothing of what is remembered
pub with-memory : {s : State} {now : ℕ} {kept : ℕ → FileKept} {told : MessagesKept} (w : Watch) (memory : Memory) → Keeps s now kept told w
    → Keeps s now kept told (record w { memory = memory })
with-memory w memory keeps = record {
  clock = keeps.clock;
  folders = keeps.folders;
  paths = keeps.paths;
  filed = keeps.filed;
  files = keeps.files;
  messages = keeps.messages;
  drafts = keeps.drafts;
}

module _ (h : History) (x : Step) (w : Watch) (holds : Holds h w) (t : Turn)
    (is : t ≡ turn_by (file_in w.paths) (length w.files.all.items) x.call)
    (memory : Memory) (mid followed : Watch) (touches : Touches x (record w { clock = max w.clock x.moment; memory = memory }) mid)
    (follows : Follows t mid followed) where
  turn-of : t ≡ turn (at h) (change_of (at h) x.call)
  turn-of = same-turn (at h) w holds.keeps x t is

  keeps-next : Keeps (at (next h x)) (now (next h x)) (files_kept (next h x)) (messages_kept (next h x)) followed
  unfolding moment files_kept messages_kept
  keeps-next =
      let s = at h in
      let clock = max (now h) x.moment in
      let keeps = holds.keeps in
      let clock-is : max w.clock x.moment ≡ clock = ap (λ n. max n x.moment) keeps.clock in
      let follows-it = subst (λ u. Follows u mid followed) turn-of follows in
      let does = (subst (λ f. touching f clock x.actor x.call w.files.all.items mid.files.all.items) (same-paths w keeps)
      (subst (λ n. touching (file_in w.paths) n x.actor x.call w.files.all.items mid.files.all.items) clock-is touches.files)) in
      turned (turn s (change_of s x.call)) s (after_call x.call clock s) (files_kept h) (files_kept (next h x)) (messages_kept h)
      (messages_kept (next h x))
      (step-leads s clock x (files_kept h) (messages_kept h) keeps.filed)
      clock mid followed (touches.clock ∙ clock-is) (touches.folders ∙ keeps.folders)
      (λ p. ap (λ (ps : _). file_in ps p) touches.paths ∙ keeps.paths p)
      (step-touched s clock x (files_kept h) (messages_kept h) keeps.filed w.files.all.items mid.files.all.items keeps.files does)
      (subst (λ m. AreMessages s (messages_kept h) m) (sym touches.messages) keeps.messages)
      (subst (λ d. AreDrafts (messages_kept h) d) (sym touches.drafts) keeps.drafts)
      follows-it

  pub stepped : (heard : Heard) → memories.Hears x w.paths w.messages w.memory memory heard → (new : Memory)
      → memories.Follows x t (in_folders w.messages t) (in_folders followed.messages t) followed.memory new
      → Holds (next h x) (record followed { memory = new })
  stepped heard hears new goes = record {
    keeps = with-memory followed new keeps-next;
    recalls = goes-on h x w.paths w.messages followed.messages holds.keeps.messages keeps-next.messages w.memory memory new heard hears t
        turn-of
        (subst (λ m. memories.Follows x t (in_folders w.messages t) (in_folders followed.messages t) m new)
        (follows.memory ∙ touches.memory) goes)
        (remembers h w.memory holds.recalls);
  }

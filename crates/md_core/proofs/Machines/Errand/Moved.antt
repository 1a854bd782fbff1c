-- What a rename does that is the effect of a move: the message is in the other folder.
use Rattle.std.proofs.Common.{ℕ, ◌≡◌, ◌≢◌, List, Some, None, true, cond, refl, sym, ap, subst, ◌∙◌, not}
use Rattle.std.proofs.lemmas.Bool.{and_from, eq-eqb}
use Rattle.std.specs.FinMap as finmap
use Rattle.md_core.proofs.Values.{State, IsSound, file_at, path_of, Path, Place, Row, Call, Effect, Errand, unique_of, mailbox_of, entry_of, is_message, HasOnePath, alone, move_alone, entry_if, is_in_folder, names_of, names_after_change, as_listed, rename, AsAlone, is_effect_at, get, done_by}
use Rattle.md_dirs.specs.Calls as dirs
use Rattle.md_jobs.specs.declared.answer.Answer.TheVariants as answer
use Rattle.md_jobs.specs.Tasks.Errand.{Errand as ErrandOf, Act}
use Rattle.md_jobs.specs.Tasks.Deed as deed
use Rattle.md_jobs.specs.declared.purpose.Purpose.TheVariants as purpose
use Rattle.md_jobs.specs.declared.step.DirReply.TheVariants as reply
use Rattle.md_core.proofs.Induction.Good.{HasNoMessage, ErrandFits, Does}
use Rattle.md_core.proofs.Mailbox.Changes.{Puts, one-puts, mailbox-puts}
use Rattle.md_core.proofs.Mailbox.Naming.{names-insert}
use Rattle.md_core.proofs.Mailbox.Renamed.{put-again, listed-entry, listed-there, size-there}
use Rattle.md_core.proofs.Mailbox.Shown.{shows-mailbox}
use Rattle.md_core.proofs.Directories.Frames.{task-stays}
use Rattle.md_core.proofs.Directories.Calls.Rename.{shifted, moved-is, rename-puts, rename-frame, rename-sound, rename-spares}
use Rattle.md_jobs.proofs.Replies.{errand-left}
use Rattle.md_core.proofs.Machines.Errand.Table.Rows.{not-tmp}

module _ (s : State) (number : ℕ) (asked : Call) (folder : ℕ) (v : List ℕ) (to : ℕ) (place : Place) (row : Row) (tries k : ℕ) (sound : IsSound s)
    (one : HasOnePath s)
    (fits : ErrandFits s asked (record { folder = folder; unique = v; purpose = purpose.Move to; stage = Act place row tries }))
    (at : file_at s (path_of folder place row.name) ≡ Some k) where
  abbrev x : ErrandOf
  x = record { folder = folder; unique = v; purpose = purpose.Move to; stage = Act place row tries }

  abbrev o : Path
  o = path_of folder place row.name

  abbrev n : Path
  n = path_of to place row.name

  abbrev s' : State
  s' = shifted o n s k

  abbrev u : List ℕ
  u = unique_of row.name

  abbrev effect : Effect
  effect = done_by number (deed.Rename o n) answer.Moved row.size

  message : is_message o ≡ true
  message = and_from _ _ (ap not (not-tmp (purpose.Move to) place fits.stage.at)) fits.stage.named

  -- the other folder is another
  differ : o ≢ n
  differ is = fits.is_for (ap (λ (p : Path). p.folder) is)

  puts : Puts s s' n k
  puts = rename-puts s o n k one message message refl differ at

  -- a message has the name
  some : HasNoMessage s u → ⊥
  some none = let gone = none o message refl in cc

  before : get (mailbox_of s) u ≡ Some (entry_of s o k)
  before = shows-mailbox s u (entry_of s o k) one (record { path = o; file = k; there = at; message = message; unique = refl; entry = refl })

  after : mailbox_of s' ≡ finmap.insert (mailbox_of s) u (entry_of s' n k)
  after = mailbox-puts s s' n k one puts

  in_folder : entry_if (is_in_folder folder) (get (mailbox_of s) u) ≡ Some (entry_of s o k)
  in_folder =
      ap (entry_if (is_in_folder folder)) before
      ∙ ap (λ b. cond b (Some (entry_of s o k)) None) (eq-eqb folder folder refl)

  effect-alone : AsAlone asked (Some effect) (mailbox_of s) (mailbox_of s')
  effect-alone =
      ap (λ (c : Call). alone c (mailbox_of s)) fits.of
      ∙ (λ i. move_alone (mailbox_of s) (sym fits.stage.unique i) to (entry_if (is_in_folder folder) (get (mailbox_of s) (sym fits.stage.unique i))))
      ∙ ap (move_alone (mailbox_of s) u to) in_folder
      ∙ sym (λ i. record { answer = answer.Moved; after = after i })

  changes : names_of (mailbox_of s') ≡ names_after_change (names_of (mailbox_of s)) effect.change
  changes =
      ap names_of after ∙ names-insert (mailbox_of s) u (entry_of s' n k) ∙ put-again (names_of (mailbox_of s)) u (as_listed u (entry_of s' n k))
      ∙ ap (finmap.insert (finmap.remove (names_of (mailbox_of s)) u) u) (listed-entry s' n k)
      ∙ ap (λ size. finmap.insert (finmap.remove (names_of (mailbox_of s)) u) u (record { folder = to; place = place; name = row.name; size = size }))
      (sym (size-there (mailbox_of s) s o k before))

  shifted-does : Does s s' number asked (Errand x) (rename o n) reply.Ok
      (record { task = Errand x; answer = Some answer.Moved; effect = Some effect })
  shifted-does = record {
    sound = rename-sound s o n k one message message refl differ at fits.to_folder sound;
    one_path = one-puts s s' n k one puts;
    folders = refl;
    fits = λ is. cc;
    others = λ asked' task' apart. task-stays s s' u (rename-frame s o n k one message message refl differ at) refl some asked' task';
    none_overwritten = (rename-spares s o n k one message message refl differ at).none_overwritten;
    no_messages = (rename-spares s o n k one message message refl differ at).no_messages;
    as_alone = effect-alone;
    is_effect = sym (ap (λ (c : Call). is_effect_at c (rename o n) reply.Ok (Some answer.Moved)) fits.of);
    first = refl;
    found = λ u size unanswered its. cc;
    effect = record {
      of = refl;
      changes = changes;
      allowed = (fits.in_folder, fits.to_folder, fits.is_for, refl, refl, listed-there (mailbox_of s) s o k before);
    };
    settles = (effect, refl, refl);
    nearer = errand-left true x.stage;
    fixed = λ is a b. refl;
  }

  pub rename-does : Does s (dirs.after_rename o n s) number asked (Errand x) (rename o n) reply.Ok
      (record { task = Errand x; answer = Some answer.Moved; effect = Some effect })
  rename-does = subst (λ (t : State). Does s t number asked (Errand x) (rename o n) reply.Ok
      (record { task = Errand x; answer = Some answer.Moved; effect = Some effect }))
      (sym (moved-is s o n k one message message refl differ at)) shifted-does

-- What an unlink does that is the effect of an errand: the message is gone.
use Rattle.std.proofs.Common.{ℕ, ◌≡◌, List, Some, true, cond, refl, sym, ap, ◌∙◌, not, MatchBool, subst, None}
use Rattle.std.proofs.lemmas.Bool.{and_from}
use Rattle.std.specs.FinMap as finmap
use Rattle.std.specs.FinSet as set
use Rattle.md_core.proofs.Values.{State, IsSound, file_at, path_of, Path, Place, Cur, Row, Set, Call, Answer, Effect, Errand, unique_of, mailbox_of, entry_of, is_message, HasOnePath, Mailbox, Entry, alone, expunge_alone, expunge_by, refuse, flags_in, names_of, IsAllowed, IsThere, unlink, is_effect_at, is_success, MakesMessage, get, after_unlink, searches, done_by, Purpose}
use Rattle.md_jobs.specs.declared.answer.Answer.TheVariants as answer
use Rattle.md_jobs.specs.declared.call.Call.TheVariants as call
use Rattle.md_jobs.specs.Tasks.Errand.{Errand as ErrandOf, Act}
use Rattle.md_jobs.specs.Tasks.Deed as deed
use Rattle.md_jobs.specs.declared.step.DirReply.TheVariants as reply
use Rattle.md_core.proofs.Induction.Good.{HasNoMessage, ErrandFits, Does}
use Rattle.md_core.proofs.Mailbox.Changes.{one-drops, mailbox-drops}
use Rattle.md_core.proofs.Mailbox.Naming.{names-remove}
use Rattle.md_core.proofs.Mailbox.Renamed.{listed-there}
use Rattle.md_core.proofs.Mailbox.Shown.{shows-mailbox}
use Rattle.md_core.proofs.Directories.Frames.{task-stays}
use Rattle.md_core.proofs.Directories.Calls.Remove.{remove-drops, remove-frame, remove-sound, remove-spares}
use Rattle.md_jobs.proofs.Replies.{errand-left}
use Rattle.md_core.proofs.Machines.Errand.Table.Rows.{not-tmp}
use Rattle.md_core.proofs.Machines.Errand.Marked.{such-there}
use Rattle.md_core.proofs.Machines.Errand.Table.Calls.{on}

-- what an expunge does alone with a message of cur that has the flag T
pub alone-expunges : (box : Mailbox) (folder : ℕ) (u : List ℕ) (e : Entry) (had : Set) (tries : ℕ) → get box u ≡ Some e → e.folder ≡ folder → e.place ≡ Cur →
    flags_in e ≡ Some had → set.contains had 84 ≡ true →
    alone (call.Expunge folder u tries) box ≡ record { answer = answer.Expunged; after = finmap.remove box u }
alone-expunges box folder u e had tries there inside cur shows trashed =
    ap (expunge_alone box u) (such-there Cur folder (get box u) e there inside cur)
    ∙ ap (expunge_by box u) shows
    ∙ ap (λ b. cond b (record { answer = answer.Expunged; after = finmap.remove box u }) (refuse answer.NotTrashed box)) trashed

-- the unlink of a message's name, where its call does alone what this leaves, with an answer that allows it
module _ (s : State) (number : ℕ) (asked : Call) (folder : ℕ) (u : List ℕ) (place : Place) (row : Row) (tries k : ℕ) (sound : IsSound s) (one : HasOnePath s)
    (p : Purpose) (fits : ErrandFits s asked (on folder u p (Act place row tries))) (at : file_at s (path_of folder place row.name) ≡ Some k) (a : Answer)
    (success : is_success a ≡ true) where
  abbrev x : ErrandOf
  x = on folder u p (Act place row tries)

  abbrev o : Path
  o = path_of folder place row.name

  abbrev v : List ℕ
  v = unique_of row.name

  abbrev s' : State
  s' = after_unlink o s

  abbrev effect : Effect
  effect = done_by number (deed.Unlink o) a row.size

  message : is_message o ≡ true
  message = and_from _ _ (ap not (not-tmp p place fits.stage.at)) fits.stage.named

  -- a message has the name
  some : HasNoMessage s v → ⊥
  some none = let gone = none o message refl in cc

  before : get (mailbox_of s) v ≡ Some (entry_of s o k)
  before = shows-mailbox s v (entry_of s o k) one (record { path = o; file = k; there = at; message = message; unique = refl; entry = refl })

  after : mailbox_of s' ≡ finmap.remove (mailbox_of s) v
  after = mailbox-drops s s' v one (remove-drops s o k one message at)

  pub is_there : IsThere (names_of (mailbox_of s)) folder place row.name
  is_there = listed-there (mailbox_of s) s o k before

  pub unlink-does : alone asked (mailbox_of s) ≡ record { answer = a; after = finmap.remove (mailbox_of s) u } →
      is_effect_at asked (unlink o) reply.Ok (Some a) ≡ true →
      IsAllowed s.folders (names_of (mailbox_of s)) (MakesMessage asked) a effect.change →
      Does s s' number asked (Errand x) (unlink o) reply.Ok (record { task = Errand x; answer = Some a; effect = Some effect })
  unlink-does as_alone is_effect allowed = record {
    sound = remove-sound s o k one message at sound;
    one_path = one-drops s s' v one (remove-drops s o k one message at);
    folders = (remove-spares s o k one message at).folders;
    fits = λ is. cc;
    others = λ asked' task' apart. task-stays s s' v (remove-frame s o k one message at) (remove-spares s o k one message at).folders some asked' task';
    none_overwritten = (remove-spares s o k one message at).none_overwritten;
    no_messages = (remove-spares s o k one message at).no_messages;
    as_alone = as_alone ∙ (λ i. record { answer = a; after = (ap (finmap.remove (mailbox_of s)) (sym fits.stage.unique) ∙ sym after) i });
    is_effect = sym is_effect;
    first = refl;
    found = λ v size unanswered its. cc;
    effect = record {
      of = refl;
      changes = ap names_of after ∙ names-remove (mailbox_of s) v;
      allowed = allowed;
    };
    settles = subst (λ b. MatchBool b ((e : Effect) × (Some effect ≡ Some e) × (e.answer ≡ a)) (Some effect ≡ None)) (sym success) (effect, refl, refl);
    nearer = errand-left (searches p) x.stage;
    fixed = λ is a b. refl;
  }

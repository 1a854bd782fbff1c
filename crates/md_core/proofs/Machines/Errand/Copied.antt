-- What a link does that is the effect of a copy: a message of the fresh name is there, and shares the file of the message.
use Rattle.std.proofs.Common.{ℕ, ◌≡◌, ◌≢◌, inr, List, Option, Some, None, true, false, cond, is_some, refl, sym, ap, subst, ◌∙◌, not}
use Rattle.std.proofs.lemmas.Bool.{and_from, eq-eqb}
use Rattle.std.specs.FinMap as finmap
use Rattle.md_core.proofs.Values.{State, IsSound, file_at, path_of, Path, Place, Tmp, Row, Set, Call, Effect, Errand, unique_of, flags_of, Entry, Mailbox, mailbox_of, entry_of, is_message, is_tmp, HasOnePath, alone, copy_alone, copy_by, entry_if, is_in_folder, info_copied, names_of, names_after_change, link, AsAlone, is_effect_at, MakesMessage, get, info_in, name_copied, done_by}
use Rattle.md_dirs.specs.Calls as dirs
use Rattle.md_jobs.specs.declared.answer.Answer.TheVariants as answer
use Rattle.md_jobs.specs.Tasks.Errand.{Errand as ErrandOf, Act}
use Rattle.md_jobs.specs.Tasks.Deed as deed
use Rattle.md_jobs.specs.declared.purpose.Purpose.TheVariants as purpose
use Rattle.md_jobs.specs.declared.step.DirReply.TheVariants as reply
use Rattle.md_core.proofs.Induction.Good.{bytes_at, HasSize, HasNoMessage, ErrandFits, Does}
use Rattle.md_core.proofs.Mailbox.Changes.{one-puts, mailbox-puts}
use Rattle.md_core.proofs.Mailbox.Naming.{names-insert}
use Rattle.md_core.proofs.Mailbox.Renamed.{listed-entry}
use Rattle.md_core.proofs.Mailbox.Shown.{mailbox-shows, shows-mailbox}
use Rattle.md_core.proofs.Directories.Frames.{task-frame}
use Rattle.md_core.proofs.Directories.Calls.Link.{Lands, link-lands}
use Rattle.md_core.proofs.Machines.Errand.Names.{IsCopyName, copy-name}
use Rattle.md_jobs.proofs.Replies.{errand-left}
use Rattle.md_core.proofs.Machines.Errand.Table.Rows.{not-tmp, acts-flags}

no-tmp : (place : Place) → is_tmp place ≡ false → place ≢ Tmp
no-tmp place new_or_cur is = let yes : is_tmp place ≡ true = ap is_tmp is in cc

module _ (s : State) (asked : Call) (folder : ℕ) (v : List ℕ) (to : ℕ) (fresh : List ℕ) (place : Place) (row : Row) (tries : ℕ)
    (fits : ErrandFits s asked (record { folder = folder; unique = v; purpose = purpose.Copy to fresh; stage = Act place row tries })) where
  -- the call makes the fresh name, and no message has it
  pub makes-copy : MakesMessage asked fresh
  makes-copy = subst (λ (x : Call). MakesMessage x fresh) (sym fits.of) refl

  pub no-message : HasNoMessage s fresh
  no-message = fits.none fresh makes-copy

  -- the name of the copy
  pub copy-named : IsCopyName fresh row.name
  copy-named = copy-name fresh row.name fits.is_for fits.stage.named (ap (λ (o : Option Set). is_some o) (acts-flags (flags_of (info_in row.name)) fits.stage.acts))

  pub new_or_cur : is_tmp place ≡ false
  new_or_cur = not-tmp (purpose.Copy to fresh) place fits.stage.at

  pub unused : file_at s (path_of to place (name_copied fresh (info_in row.name))) ≡ None
  unused = no-message (path_of to place (name_copied fresh (info_in row.name))) (and_from _ _ (ap not new_or_cur) copy-named.message) copy-named.unique

module _ (s : State) (number : ℕ) (asked : Call) (folder : ℕ) (v : List ℕ) (to : ℕ) (fresh : List ℕ) (place : Place) (row : Row) (tries k : ℕ)
    (sound : IsSound s) (one : HasOnePath s)
    (fits : ErrandFits s asked (record { folder = folder; unique = v; purpose = purpose.Copy to fresh; stage = Act place row tries }))
    (sized : HasSize (mailbox_of s) v row.size)
    (at : file_at s (path_of folder place row.name) ≡ Some k) where
  abbrev x : ErrandOf
  x = record { folder = folder; unique = v; purpose = purpose.Copy to fresh; stage = Act place row tries }

  abbrev o : Path
  o = path_of folder place row.name

  abbrev n : Path
  n = path_of to place (name_copied fresh (info_in row.name))

  abbrev s' : State
  s' = dirs.with_path n s (Some k)

  abbrev m : Mailbox
  m = mailbox_of s

  abbrev effect : Effect
  effect = done_by number (deed.Link o n) answer.Copied row.size

  name : IsCopyName fresh row.name
  name = copy-named s asked folder v to fresh place row tries fits

  not_tmp : is_tmp place ≡ false
  not_tmp = new_or_cur s asked folder v to fresh place row tries fits

  none : HasNoMessage s fresh
  none = no-message s asked folder v to fresh place row tries fits

  makes : MakesMessage asked fresh
  makes = makes-copy s asked folder v to fresh place row tries fits

  message : is_message o ≡ true
  message = and_from _ _ (ap not not_tmp) fits.stage.named

  lands : Lands s s' fresh n k (bytes_at s k)
  lands = link-lands s o n fresh (bytes_at s k) k (inr message) sound fits.to_folder at refl none
      (and_from _ _ (ap not not_tmp) name.message) name.unique

  before : get m v ≡ Some (entry_of s o k)
  before = shows-mailbox s v (entry_of s o k) one (record { path = o; file = k; there = at; message = message; unique = fits.stage.unique; entry = refl })

  no_copy : (e : Option Entry) → get m fresh ≡ e → get m fresh ≡ None
  no_copy None is = is
  no_copy (Some e) is = let h = mailbox-shows s fresh e is in let gone = none h.path h.message h.unique in let there = h.there in cc

  in_folder : entry_if (is_in_folder folder) (get m v) ≡ Some (entry_of s o k)
  in_folder = ap (entry_if (is_in_folder folder)) before ∙ ap (λ b. cond b (Some (entry_of s o k)) None) (eq-eqb folder folder refl)

  -- the message of the copy
  abbrev copy : Entry
  copy = record { folder = to; place = place; info = info_copied (entry_of s o k).info name.flags; bytes = bytes_at s k }

  after : mailbox_of s' ≡ finmap.insert m fresh copy
  after = mailbox-puts s s' n k one lands.puts
      ∙ (λ i. finmap.insert m (name.unique i) (record { folder = to; place = place; info = name.info i; bytes = bytes_at s k }))

  effect-alone : AsAlone asked (Some effect) m (mailbox_of s')
  effect-alone =
      ap (λ (a : Call). alone a m) fits.of
      ∙ ap (copy_alone m to fresh) in_folder
      ∙ (λ i. copy_by m to fresh (entry_of s o k) (name.had i) (no_copy (get m fresh) refl i))
      ∙ sym (λ i. record { answer = answer.Copied; after = after i })

  changes : names_of (mailbox_of s') ≡ names_after_change (names_of m) effect.change
  changes =
      ap names_of (mailbox-puts s s' n k one lands.puts) ∙ names-insert m (unique_of n.name) (entry_of s' n k)
      ∙ ap (finmap.insert (names_of m) (unique_of n.name)) (listed-entry s' n k)
      ∙ ap (λ size. finmap.insert (names_of m) (unique_of n.name) (record { folder = to; place = place; name = n.name; size = size }))
      (sized (entry_of s o k) before)

  named-does : Does s s' number asked (Errand x) (link o n) reply.Ok
      (record { task = Errand x; answer = Some answer.Copied; effect = Some effect })
  named-does = record {
    sound = lands.sound;
    one_path = one-puts s s' n k one lands.puts;
    folders = lands.spares.folders;
    fits = λ is. cc;
    others = λ asked' task' apart. task-frame s s' fresh lands.frame lands.spares.folders asked' task' (apart fresh makes);
    none_overwritten = lands.spares.none_overwritten;
    no_messages = lands.spares.no_messages;
    as_alone = effect-alone;
    is_effect = sym (ap (λ (a : Call). is_effect_at a (link o n) reply.Ok (Some answer.Copied)) fits.of);
    first = refl;
    found = λ u size unanswered its. cc;
    effect = record {
      of = refl;
      changes = changes;
      allowed = (
        fits.to_folder,
        no-tmp place not_tmp,
        name.message,
        (name.shown, name.shows),
        subst (MakesMessage asked) (sym name.unique) makes,
      );
    };
    settles = (effect, refl, refl);
    nearer = errand-left true x.stage;
    fixed = λ is a b. refl;
  }

  pub link-does : Does s (dirs.with_path n s (file_at s o)) number asked (Errand x) (link o n) reply.Ok
      (record { task = Errand x; answer = Some answer.Copied; effect = Some effect })
  link-does = subst (λ (f : Option ℕ). Does s (dirs.with_path n s f) number asked (Errand x) (link o n) reply.Ok
      (record { task = Errand x; answer = Some answer.Copied; effect = Some effect })) (sym at) named-does

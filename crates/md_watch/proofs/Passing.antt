-- When names were in directories and messages in folders goes on with a step.
use Rattle.std.proofs.Common.{ℕ, ◌≡◌, ◌+◌, ◌==◌, ◌&&◌, ◌⊎◌, inl, inr, cond, nat_lt, List, Option, Some, None, Bool, true, false, is_some, refl, sym, ap, subst, ◌∙◌, arith}
use Rattle.std.specs.Str.{bytes_eq}
use Rattle.std.proofs.lemmas.Bool.{false_from_ne_true}
use Rattle.md_dirs.specs.Index.{directory_number}
use Rattle.md_dirs.specs.Path.{path_cmp}
use Rattle.std.specs.Ordering.{eq_by_cmp}
use Rattle.md_dirs.specs.State.{State, file_at}
use Rattle.md_dirs.specs.declared.paths.Path.{Path}
use Rattle.md_log.specs.declared.line.Call.{Call}
use Rattle.md_log.specs.declared.line.Step.{Step}
use Rattle.md_name.specs.Names.{unique_of}
use Rattle.md_law.specs.History.{History, next, at, now, moment, after_call}
use Rattle.md_law.specs.Messages.{is_message}
use Rattle.md_monitor.specs.Changes.{change_of, turned_by, with_file}
use Rattle.md_monitor.specs.Files.{is_some_and}
use Rattle.md_monitor.specs.Messages.{MessagesKept, is_of, is_there, paths_of}
use Rattle.md_monitor.proofs.Changing.{led}
use Rattle.md_monitor.proofs.Recounting.{recount}
use Rattle.md_monitor.proofs.Seeing.{some-where}
use Rattle.md_kept.specs.declared.messages.Messages.{Messages}
use Rattle.md_watch.specs.declared.presences.Presences.{Presences}
use Rattle.md_watch.specs.declared.spells.Spell.{Spell}
use Rattle.md_watch.specs.declared.spells.Spells.{Spells}
use Rattle.md_kept.specs.Changes.{Turn, message_of}
use Rattle.md_kept.specs.Messages.{count_in_folder}
use Rattle.md_watch.specs.Presences.{ArePresences, KeepsNone, is_in_folder, in_folders, NotesPath, NotesUnique, NotesMessage, Follows}
use Rattle.md_watch.specs.Spells.{Passes, IsTimely, Notes, spell_at}
use Rattle.md_watch.specs.Watches.{AreMessages}
use Rattle.md_watch.proofs.Counting.{one}
use Rattle.md_kept.proofs.Keys.{key-is, path-is, spot-is}
use Rattle.md_watch.proofs.Spelling.{timely-none, timely-next, passes-none}
use Rattle.md_watch.proofs.Turning.{turn, stays}

-- A step of a number leads from directories to others.
pub record PassesAll (s s' : State) (n : ℕ) (old new : Presences) : Type 0 where
  pub names : (p : Path) → Passes (is_some (file_at s p)) (is_some (file_at s' p)) n
      (spell_at old.names (directory_number p.folder p.place) p.name) (spell_at new.names (directory_number p.folder p.place) p.name)
  pub messages : (folder : ℕ) (unique : List ℕ) → Passes (is_there s folder unique) (is_there s' folder unique) n
      (spell_at old.messages folder unique) (spell_at new.messages folder unique)

-- ---- what passes, by other names

passes-as : (was was' is is' : Bool) (n : ℕ) (o p o' p' : Option Spell) → was ≡ was' → is ≡ is' → o ≡ p → o' ≡ p'
    → Passes was is n o o' → Passes was' is' n p p'
passes-as was was' is is' n o p o' p' sameWas sameIs old new passes = subst (λ (b : Bool). Passes b is' n p p') sameWas
    (subst (λ (b : Bool). Passes was b n p p') sameIs (subst (λ (q : Option Spell). Passes was is n q p') old
    (subst (λ (q : Option Spell). Passes was is n o q) new passes)))

-- what is there all the while passes twice
passes-twice : (n : ℕ) (o mid o' : Option Spell) → Passes true true n o mid → Passes true true n mid o' → Passes true true n o o'
passes-twice n o mid o' first second = record { since = second.since ∙ first.since; ended = second.ended ∙ first.ended }

-- ---- a path

-- it is the path that is noted, or it is not
names-it : (o : Option (Path × ℕ)) (q : Path) → ((k : ℕ) × (o ≡ Some (q, k))) ⊎ ((k : ℕ) → o ≡ Some (q, k) → ⊥)
names-it None q = inr (λ k is. cc)
names-it (Some e) q = by (eq_by_cmp path_cmp q e.0) refl
  where
    by : (b : Bool) → eq_by_cmp path_cmp q e.0 ≡ b → ((k : ℕ) × (Some e ≡ Some (q, k))) ⊎ ((k : ℕ) → Some e ≡ Some (q, k) → ⊥)
    by true same = inl (e.1, λ i. Some ((sym ((path-is q e.0).0 same)) i, e.1))
    by false other = inr (λ k is. let path : q ≡ e.0 = cc is in let t = (path-is q e.0).1 path in cc)

abbrev spot : Spells → Path → Option Spell
spot w q = spell_at w (directory_number q.folder q.place) q.name

module _ (was is : Bool) (n : ℕ) (old new : Spells) where
  path-here : (o : Option (Path × ℕ)) (q : Path) (k : ℕ) → o ≡ Some (q, k) → NotesPath o was is n old new
      → Passes was is n (spot old q) (spot new q)
  path-here o q k same notes =
      let there : Notes (directory_number q.folder q.place) q.name was is n old new =
      subst (λ o. NotesPath o was is n old new) same notes in
      there.here

  path-beside : (o : Option (Path × ℕ)) (q : Path) → ((k : ℕ) → o ≡ Some (q, k) → ⊥) → NotesPath o was is n old new
      → spot new q ≡ spot old q
  path-beside None q other same = ap (λ (w : Spells). spot w q) same
  path-beside (Some e) q other notes = notes.others (directory_number q.folder q.place) q.name (spot-is e.0 q
      ∙ false_from_ne_true (eq_by_cmp path_cmp q e.0) (λ t. other e.1 (λ i. Some ((sym ((path-is q e.0).0 t)) i, e.1))))

-- a path's file before a turn is the one that was turned
turned-there : (q : Path) (file : Option ℕ) → is_some (with_file q file) ≡ is_some file
turned-there q None = refl
turned-there q (Some n) = refl

module _ (s : State) (c : Call) (clock n : ℕ) where
  abbrev after : State
  after = after_call c clock s

  abbrev t : Turn
  t = turn s (change_of s c)

  names-pass : (old mid new : Spells) → NotesPath t.named (is_some t.turned) true n old mid → NotesPath t.taken true false n mid new
      → (q : Path) → Passes (is_some (file_at s q)) (is_some (file_at after q)) n (spot old q) (spot new q)
  names-pass old mid new first second q = elim (names-it t.named q) [
    | inl (k, is) ↦
        let here = ((led s c clock).named q k).0 is in
        let untaken : (m : ℕ) → t.taken ≡ Some (q, m) → ⊥ =
        λ m gone. let none = (((led s c clock).taken q m).0 gone).1 in let some = here.0 in cc in
        let turned : is_some t.turned ≡ is_some (file_at s q) =
        ap (λ (o : Option (Path × ℕ)). is_some (turned_by s o)) is ∙ turned-there q (file_at s q) in
        passes-as _ _ _ _ n _ _ _ _ turned (sym (ap is_some here.0)) refl
        (sym (path-beside true false n mid new t.taken q untaken second))
        (path-here (is_some t.turned) true n old mid t.named q k is first)
    | inr unnamed ↦
        let beside = path-beside (is_some t.turned) true n old mid t.named q unnamed first in
        elim (names-it t.taken q) [
          | inl (m, is) ↦
              let gone = ((led s c clock).taken q m).0 is in
              passes-as _ _ _ _ n _ _ _ _ (sym (ap is_some gone.0)) (sym (ap is_some gone.1)) beside refl
              (path-here true false n mid new t.taken q m is second)
          | inr untaken ↦
              let same = stays (change_of s c) (file_at s) (file_at after) (led s c clock) q unnamed untaken in
              passes-as _ _ _ _ n _ _ _ _ refl (sym (ap is_some same)) refl
              (sym (path-beside true false n mid new t.taken q untaken second ∙ beside))
              (passes-none (is_some (file_at s q)) n (spot old q))
        ]
  ]

-- ---- a message

module _ (folder : ℕ) (unique : List ℕ) where
  abbrev pub has : Option (Path × ℕ) → Bool
  has o = is_some_and o (λ e. is_of folder unique e.0)

  -- a path of it that is there shows that it is
  there-by : (s : State) (p : Path) (k : ℕ) → file_at s p ≡ Some k → is_of folder unique p ≡ true → is_there s folder unique ≡ true
  there-by s p k at is =
      (some-where (λ e. is_of folder unique e.0) (λ q m. is_of folder unique q ≡ true) (λ e. (λ x. x, λ x. x)) s).1 (p, k, at, is)

  there-named : (s : State) (o : Option (Path × ℕ)) → has o ≡ true → ((p : Path) (k : ℕ) → o ≡ Some (p, k) → file_at s p ≡ Some k)
      → is_there s folder unique ≡ true
  there-named s None is at = absurd (cc is)
  there-named s (Some e) is at = there-by s e.0 e.1 (at e.0 e.1 refl) is

  -- a path of it has this folder and this unique name
  key-of : (p : Path) → is_of folder unique p ≡ true
      → (message_of p ≡ Some (unique_of p.name)) × (p.folder ≡ folder) × (unique_of p.name ≡ unique)
  key-of p = by (is_message p)
    where
      by : (b : Bool) → ((b && p.folder == folder) && bytes_eq (unique_of p.name) unique) ≡ true
          → (cond b (Some (unique_of p.name)) None ≡ Some (unique_of p.name)) × (p.folder ≡ folder) × (unique_of p.name ≡ unique)
      by true is = let both = (key-is (p.folder, unique_of p.name) (folder, unique)).0 is in (refl, both.0, both.1)
      by false is = absurd (cc is)

  pub in-folder : (m : Messages) (o : Option (Path × ℕ)) → has o ≡ true → is_in_folder m o ≡ nat_lt 0 (count_in_folder m folder unique)
  in-folder m None is = absurd (cc is)
  in-folder m (Some e) is = let key = key-of e.0 is in
      ap (λ (o : Option (List ℕ)). is_some_and o (λ u. nat_lt 0 (count_in_folder m e.0.folder u))) key.0
      ∙ (λ i. nat_lt 0 (count_in_folder m (key.1 i) (key.2 i)))

  module _ (was is : Bool) (n : ℕ) (old new : Spells) where
    unique-here : (p : Path) → is_of folder unique p ≡ true → NotesUnique p.folder (message_of p) was is n old new
        → Passes was is n (spell_at old folder unique) (spell_at new folder unique)
    unique-here p of notes =
        let key = key-of p of in
        let there : Notes folder unique was is n old new = subst (λ (u : List ℕ). Notes folder u was is n old new) key.2
        (subst (λ (f : ℕ). Notes f (unique_of p.name) was is n old new) key.1
        (subst (λ (o : Option (List ℕ)). NotesUnique p.folder o was is n old new) key.0 notes)) in
        there.here

    unique-beside : (p : Path) → is_of folder unique p ≡ false → NotesUnique p.folder (message_of p) was is n old new
        → spell_at new folder unique ≡ spell_at old folder unique
    unique-beside p = by (is_message p)
      where
        by : (b : Bool) → ((b && p.folder == folder) && bytes_eq (unique_of p.name) unique) ≡ false
            → NotesUnique p.folder (cond b (Some (unique_of p.name)) None) was is n old new
            → spell_at new folder unique ≡ spell_at old folder unique
        by true other notes = notes.others folder unique other
        by false other same = ap (λ (w : Spells). spell_at w folder unique) same

    message-here : (o : Option (Path × ℕ)) → has o ≡ true → NotesMessage o was is n old new
        → Passes was is n (spell_at old folder unique) (spell_at new folder unique)
    message-here None of notes = absurd (cc of)
    message-here (Some e) of notes = unique-here e.0 of notes

    message-beside : (o : Option (Path × ℕ)) → has o ≡ false → NotesMessage o was is n old new
        → spell_at new folder unique ≡ spell_at old folder unique
    message-beside None other same = ap (λ (w : Spells). spell_at w folder unique) same
    message-beside (Some e) other notes = unique-beside e.0 other notes

  -- a path that is turned is the one that is named
  pub turned-not : (s : State) (named : Option (Path × ℕ)) → has named ≡ false → has (turned_by s named) ≡ false
  turned-not s None not = refl
  turned-not s (Some e) not = by (file_at s e.0)
    where
      by : (file : Option ℕ) → has (with_file e.0 file) ≡ false
      by None = refl
      by (Some n) = not

module _ (s : State) (c : Call) (clock n : ℕ) (m m' : Messages) (folder : ℕ) (unique : List ℕ)
    (was : count_in_folder m folder unique ≡ paths_of s folder unique)
    (is : count_in_folder m' folder unique ≡ paths_of (after_call c clock s) folder unique) where
  abbrev left : State
  left = after_call c clock s

  abbrev by : Turn
  by = turn s (change_of s c)

  abbrev here : Spells → Option Spell
  here w = spell_at w folder unique

  -- a message of a path is noted as it is there
  noted : (o : Option (Path × ℕ)) (old new : Spells) → has folder unique o ≡ true
      → NotesMessage o (is_in_folder m o) (is_in_folder m' o) n old new
      → Passes (is_there s folder unique) (is_there left folder unique) n (here old) (here new)
  noted o old new of notes = passes-as _ _ _ _ n _ _ _ _
      (in-folder folder unique m o of ∙ ap (nat_lt 0) was) (in-folder folder unique m' o of ∙ ap (nat_lt 0) is) refl refl
      (message-here folder unique (is_in_folder m o) (is_in_folder m' o) n old new o of notes)

  messages-pass : (old mid new : Spells) → NotesMessage by.named (is_in_folder m by.named) (is_in_folder m' by.named) n old mid
      → NotesMessage by.taken (is_in_folder m by.taken) (is_in_folder m' by.taken) n mid new
      → Passes (is_there s folder unique) (is_there left folder unique) n (here old) (here new)
  messages-pass old mid new first second = which (has folder unique by.named) refl (has folder unique by.taken) refl
    where
      which : (a : Bool) → has folder unique by.named ≡ a → (b : Bool) → has folder unique by.taken ≡ b
          → Passes (is_there s folder unique) (is_there left folder unique) n (here old) (here new)
      which true named true taken =
          let was-there = there-named folder unique s by.taken taken (λ p k o. (((led s c clock).taken p k).0 o).0) in
          let is-there = there-named folder unique left by.named named (λ p k o. (((led s c clock).named p k).0 o).0) in
          passes-as _ _ _ _ n _ _ _ _ (sym was-there) (sym is-there) refl refl (passes-twice n (here old) (here mid) (here new)
          (passes-as _ _ _ _ n _ _ _ _ was-there is-there refl refl (noted by.named old mid named first))
          (passes-as _ _ _ _ n _ _ _ _ was-there is-there refl refl (noted by.taken mid new taken second)))
      which true named false untaken = passes-as _ _ _ _ n _ _ _ _ refl refl refl
          (sym (message-beside folder unique (is_in_folder m by.taken) (is_in_folder m' by.taken) n mid new by.taken untaken second))
          (noted by.named old mid named first)
      which false unnamed true taken = passes-as _ _ _ _ n _ _ _ _ refl refl
          (message-beside folder unique (is_in_folder m by.named) (is_in_folder m' by.named) n old mid by.named unnamed first) refl
          (noted by.taken mid new taken second)
      which false unnamed false untaken =
          let counts = recount (λ e. is_of folder unique e.0) s c clock in
          let unturned = ap one (turned-not folder unique s by.named unnamed) in
          let none = ap one unnamed in
          let gone = ap one untaken in
          let same : paths_of s folder unique ≡ paths_of left folder unique = omega (arith, counts, unturned, none, gone) in
          passes-as _ _ _ _ n _ _ _ _ refl (ap (nat_lt 0) same) refl
          (sym (message-beside folder unique (is_in_folder m by.taken) (is_in_folder m' by.taken) n mid new by.taken untaken second
          ∙ message-beside folder unique (is_in_folder m by.named) (is_in_folder m' by.named) n old mid by.named unnamed first))
          (passes-none (is_there s folder unique) n (here old))

-- ---- all of them

-- a call leads from directories to others, where messages are counted before it and after it
pub passes-all : (s : State) (c : Call) (clock n : ℕ) (m m' : Messages) (old new : Presences)
    → ((folder : ℕ) (unique : List ℕ) → count_in_folder m folder unique ≡ paths_of s folder unique)
    → ((folder : ℕ) (unique : List ℕ) → count_in_folder m' folder unique ≡ paths_of (after_call c clock s) folder unique)
    → Follows (turn s (change_of s c)) (in_folders m (turn s (change_of s c))) (in_folders m' (turn s (change_of s c))) n old new
    → PassesAll s (after_call c clock s) n old new
passes-all s c clock n m m' old new was is follows = record {
  names = names-pass s c clock n old.names follows.names.0 new.names follows.names.1 follows.names.2;
  messages = λ folder unique. messages-pass s c clock n m m' folder unique (was folder unique) (is folder unique)
      old.messages follows.messages.0 new.messages follows.messages.1 follows.messages.2;
}

-- and so a step of a history, by what is kept of messages
pub step-passes : (h : History) (x : Step) (n : ℕ) (t : Turn) → t ≡ turn (at h) (change_of (at h) x.call)
    → (told told' : MessagesKept) (m m' : Messages) (old new : Presences) → AreMessages (at h) told m → AreMessages (at (next h x)) told' m'
    → Follows t (in_folders m t) (in_folders m' t) n old new → PassesAll (at h) (at (next h x)) n old new
unfolding moment
step-passes h x n t is told told' m m' old new before after follows =
    passes-all (at h) x.call (now (next h x)) n m m' old new before.in_folder after.in_folder
    (subst (λ (u : Turn). Follows u (in_folders m u) (in_folders m' u) n old new) is follows)

-- nothing passes while the directories stay
pub passes-still : (s : State) (n : ℕ) (w : Presences) → PassesAll s s n w w
passes-still s n w = record {
  names = λ p. passes-none (is_some (file_at s p)) n (spot w.names p);
  messages = λ folder unique. passes-none (is_there s folder unique) n (spell_at w.messages folder unique);
}

-- ---- what is kept goes on

pub presences-next : (n : ℕ) (s s' : State) (old new : Presences) → ArePresences n s old → PassesAll s s' n old new
    → ArePresences (n + 1) s' new
presences-next n s s' old new are passes = record {
  names = λ p. timely-next n (is_some (file_at s p)) (is_some (file_at s' p)) (spot old.names p) (spot new.names p)
      (are.names p) (passes.names p);
  messages = λ folder unique. timely-next n (is_there s folder unique) (is_there s' folder unique)
      (spell_at old.messages folder unique) (spell_at new.messages folder unique)
      (are.messages folder unique) (passes.messages folder unique);
}

-- at the beginning nothing is kept
pub presences-none : (n : ℕ) (s : State) (w : Presences) → KeepsNone w → ArePresences n s w
presences-none n s w none = record {
  names = λ p. subst (λ (o : Option Spell). IsTimely n (is_some (file_at s p)) o)
      (sym (none.names (directory_number p.folder p.place) p.name)) (timely-none n (is_some (file_at s p)));
  messages = λ folder unique. subst (λ (o : Option Spell). IsTimely n (is_there s folder unique) o) (sym (none.messages folder unique))
      (timely-none n (is_there s folder unique));
}

-- Which names directories use up, before a turn of a job and after it.
use Rattle.std.proofs.Common.{ℕ, ◌≡◌, ◌≢◌, ◌<◌, ◌⊎◌, ◌&&◌, ◌||◌, inl, inr, List, [], ◌∷◌, Option, Some, None, Bool, true, false, cond, not}
use Rattle.std.proofs.Common.{is_some, length, map, filter, refl, sym, ap, ◌∙◌}
use Rattle.std.proofs.lemmas.Bool.{and_parts, and_from}
use Rattle.std.proofs.lemmas.Slice.Eq.{bytes_eq-Decides}
use Rattle.std.specs.List.Sorted.{IsPermutation}
use Rattle.std.proofs.lemmas.List.Sorted.{list_any-IsPermutation}
use Rattle.md_dirs.proofs.PathOrder.{path_total, path_exact}
use Rattle.lists.proofs.Maps as maps
use Rattle.lists.proofs.Members.{get-has, has-get}
use Rattle.md_jobs.proofs.Cases.{by-delivery}
use Rattle.md_name.proofs.Flagged.{unique_of-flagged}
use Rattle.md_jobs.specs.Machines.Errand.{asked_of, stage_turn}
use Rattle.md_jobs.specs.Machines.Clean as cleaned_by
use Rattle.md_jobs.specs.Tasks.Cleaning as cleaning
use Rattle.md_jobs.specs.Tasks.Deed as deed
use Rattle.md_jobs.specs.Tasks.Errand.{Errand as ErrandOf, Stage, Look, Act}
use Rattle.md_jobs.specs.declared.call.Call.TheVariants as call
use Rattle.md_jobs.specs.declared.purpose.Purpose.TheVariants.{Seen, Flag, Move, Copy, Expunge}
use Rattle.md_jobs.specs.declared.step.DirReply.TheVariants as reply
use Rattle.md_core.proofs.Values.{State, IsSound, file_at, file_by, Path, path_of, Place, Tmp, Cur, Row, Call, DirReply, Moment, is_in, row_of, rows_of, unique_of, flagged, is_message_name, Asked, append, create, link, list, rename, unlink, ask_of, state_by, reply_of, Task, Deliver, Errand, Clean, Delivery, name_used, MakesMessage, turn_of, is_tmp, is_message, HasOnePath, is_among, entries, bytes_eq, list_any, after_append, after_rename, with_path, deed_by, info_in, name_copied, shown, wanted, Cleaning, Purpose, CoversBy, holds, makes, may_change, may_take, uses}
use Rattle.md_core.proofs.Answers.Files.Asking.{asked_at, asks-fair, creates}
use Rattle.md_core.proofs.Answers.Files.Tmp.{touches}
use Rattle.md_core.proofs.Directories.Frames.{makes-delivery, message-key, other_key, tmp-key}
use Rattle.md_core.proofs.Induction.Good.{DeliveryFits, ErrandFits, TaskFits}
use Rattle.md_core.proofs.Looking.LookUps.{unique-part, message-name, in-path, name-row, path-in}
use Rattle.md_core.proofs.Machines.Errand.Copied.{copy-named, makes-copy, new_or_cur}
use Rattle.md_core.proofs.Machines.Errand.Moves.{Moves, moves}
use Rattle.md_core.proofs.Machines.Errand.Table.Calls.{on}
use Rattle.md_core.proofs.Machines.Errand.Table.Checks.{makes-true}
use Rattle.md_core.proofs.Machines.Errand.Table.Deeds.{deed-fits}
use Rattle.md_core.proofs.Machines.Errand.Table.Rows.{not-tmp}
use Rattle.md_core.proofs.Machines.Errand.Turns.{deed-there}
use Rattle.md_core.proofs.Mailbox.Changes.{by_name}
use Rattle.md_core.proofs.Worlds.Held.{has-any, any-none, never}
use Rattle.md_core.proofs.Worlds.Loading.Loaded.{none-has}

same-none : (a b : Bool) → (a ≡ false → b ≡ false) → (b ≡ false → a ≡ false) → a ≡ b
same-none true true h k = refl
same-none true false h k = k refl
same-none false b h k = sym (h refl)

-- a path that uses a name up is by that name
used-key : (u : List ℕ) (p : Path) → uses u p ≡ true → name_used p ≡ u
used-key u p = by (is_tmp p.place)
  where
    by : (b : Bool) → cond b (bytes_eq p.name u) (is_message p && bytes_eq (unique_of p.name) u) ≡ true →
        cond b p.name (unique_of p.name) ≡ u
    by true is = (bytes_eq-Decides p.name u).0 is
    by false is = (bytes_eq-Decides (unique_of p.name) u).0 (and_parts (is_message p) (bytes_eq (unique_of p.name) u) is).1

-- a message uses its unique part up
message-uses : (p : Path) (u : List ℕ) → is_message p ≡ true → unique_of p.name ≡ u → uses u p ≡ true
message-uses p u m is = by (is_tmp p.place) refl
  where
    by : (b : Bool) → is_tmp p.place ≡ b → cond b (bytes_eq p.name u) (is_message p && bytes_eq (unique_of p.name) u) ≡ true
    by true tmp = let no : is_message p ≡ false = ap (λ b. not b && is_message_name p.name) tmp in cc
    by false tmp = and_from (is_message p) (bytes_eq (unique_of p.name) u) m ((bytes_eq-Decides (unique_of p.name) u).1 is)

-- a message is there
message-holds : (s : State) (p : Path) (n : ℕ) (u : List ℕ) → file_at s p ≡ Some n → is_message p ≡ true → unique_of p.name ≡ u →
    holds s u ≡ true
message-holds s p n u there m is =
    has-any (λ e. uses u e.0) (entries s.names) (p, n) (get-has path_total path_exact s.names p n there) (message-uses p u m is)

module _ (s s' : State) (v : List ℕ) (names : (q : Path) → name_used q ≢ v → file_at s' q ≡ file_at s q) (u : List ℕ) (differ : u ≢ v) where
  beside : (p : Path) → uses u p ≡ true → file_at s' p ≡ file_at s p
  beside p is = names p (λ same. differ (sym (used-key u p is) ∙ same))

  none-more : (a b : State) → ((p : Path) → uses u p ≡ true → file_at b p ≡ file_at a p) → holds a u ≡ false → holds b u ≡ false
  none-more a b same none = any-none (λ e. uses u e.0) (entries b.names) (λ x has.
      never (uses u x.0) (λ is.
      let there : file_at a x.0 ≡ Some x.1 = sym (same x.0 is) ∙ has-get path_total path_exact b.names x has in
      let no = none-has (λ e. uses u e.0) (entries a.names) (x.0, x.1) none (get-has path_total path_exact a.names x.0 x.1 there) in
      cc))

  -- a call that acts on the paths of one name leaves what is so of the others
  pub holds-beside : holds s' u ≡ holds s u
  holds-beside = sym (same-none (holds s u) (holds s' u) (none-more s s' beside) (none-more s' s (λ p is. sym (beside p is))))

-- ---- a message that is renamed to a path of its unique part

module _ (s : State) (o n : Path) (k : ℕ) (sound : IsSound s) (one : HasOnePath s) (mo : is_message o ≡ true) (mn : is_message n ≡ true)
    (same : unique_of o.name ≡ unique_of n.name) (within : n.folder < s.folders) (at : file_at s o ≡ Some k) where
  moved : Moves s (after_rename o n s) n k
  moved = moves s o n k sound one mo mn same within at

  pub holds-moved : (u : List ℕ) → holds (after_rename o n s) u ≡ holds s u
  holds-moved u = by_name u (unique_of n.name)
      (λ is. message-holds (after_rename o n s) n k u moved.puts.there mn (sym is) ∙ sym (message-holds s o k u at mo (same ∙ sym is)))
      (λ differ. holds-beside s (after_rename o n s) (unique_of n.name) moved.frame.names u differ)

-- ---- a call that acts on paths of one name

-- a call acts on paths of the name alone, and renames none
abbrev IsOn : List ℕ → Asked → Type 0
IsOn v (create p) = name_used p ≡ v
IsOn v (append p bytes) = Unit {0}
IsOn v (link old new) = name_used new ≡ v
IsOn v (rename old new) = ⊥
IsOn v (unlink p) = name_used p ≡ v
IsOn v (list folder place) = Unit {0}

module _ (s : State) (clock : ℕ) (v : List ℕ) (q : Path) (not : name_used q ≢ v) where
  appended : (bytes : List ℕ) (o : Option ℕ) → file_at (after_append bytes clock s o) q ≡ file_at s q
  appended bytes None = refl
  appended bytes (Some n) = refl

  linked : (new : Path) → name_used new ≡ v → (o : Option ℕ) → file_at (with_path new s o) q ≡ file_at s q
  linked new is None = refl
  linked new is (Some n) = maps.beside_put path_total path_exact s.names new q n (other_key q new v is not)

  -- other paths stay
  on-beside : (made : Asked) → IsOn v made → (r : DirReply) → file_at (state_by (ask_of made clock) s r) q ≡ file_at s q
  on-beside (create p) is reply.Ok = maps.beside_put path_total path_exact s.names p q (length s.files) (other_key q p v is not)
  on-beside (append p bytes) is reply.Ok = appended bytes (file_at s p)
  on-beside (link old new) is reply.Ok = linked new is (file_at s old)
  on-beside (rename old new) is reply.Ok = absurd is
  on-beside (unlink p) is reply.Ok = maps.beside_drop path_total path_exact s.names p q (other_key q p v is not)
  on-beside (list folder place) is reply.Ok = refl
  on-beside made is r = refl

-- whether the directories use the name up is as it was, or it is one that the call may change
abbrev pub Changes : State → Call → State → List ℕ → Type 0
Changes s asked later u = (holds later u ≡ holds s u) ⊎ (may_change s asked u ≡ true)

module _ (s : State) (asked : Call) (clock : ℕ) (v : List ℕ) (may : may_change s asked v ≡ true) (made : Asked) (on : IsOn v made) where
  on-changes : (r : DirReply) (u : List ℕ) → Changes s asked (state_by (ask_of made clock) s r) u
  on-changes r u = by_name u v
      (λ same. inr (ap (may_change s asked) same ∙ may))
      (λ differ. inl (holds-beside s (state_by (ask_of made clock) s r) v (λ q not. on-beside s clock v q not made on r) u differ))

-- ---- which names a call may change

itself : (u : List ℕ) → bytes_eq u u ≡ true
itself u = (bytes_eq-Decides u u).1 refl

made-changes : (s : State) (asked : Call) (u : List ℕ) → MakesMessage asked u → may_change s asked u ≡ true
made-changes s asked u is = ap (λ b. b || may_take s asked u) (makes-true asked u is)

-- a file in tmp uses its name up
pub tmp-holds : (s : State) (folder : ℕ) (u : List ℕ) → is_some (file_at s (path_of folder Tmp u)) ≡ true → holds s u ≡ true
tmp-holds s folder u = by (file_at s (path_of folder Tmp u)) refl
  where
    by : (o : Option ℕ) → file_at s (path_of folder Tmp u) ≡ o → is_some o ≡ true → holds s u ≡ true
    by None there is = cc
    by (Some n) there is =
        has-any (λ e. uses u e.0) (entries s.names) (path_of folder Tmp u, n)
        (get-has path_total path_exact s.names (path_of folder Tmp u) n there) (itself u)

-- a name that a call may take away is used up
pub take-holds : (s : State) (asked : Call) (u : List ℕ) → may_take s asked u ≡ true → holds s u ≡ true
take-holds s (call.Expunge folder v tries) u may = (and_parts (bytes_eq v u) (holds s u) may).1
take-holds s (call.Clean folder) u may = tmp-holds s folder u may
take-holds s other u may = cc

-- ---- a turn of a delivery

module _ (s : State) (asked : Call) (clock : ℕ) (number : ℕ) (d : Delivery) (at : Moment) (fits : DeliveryFits s asked d) where
  delivery-on : IsOn d.tmp.name (asked_at number d at d.stage)
  delivery-on =
      let key = tmp-key d.tmp fits.in_tmp in
      by-delivery number d at (λ stage turn. IsOn d.tmp.name turn.asked)
      key (λ start k more. tt) (λ start k all. fits.name.plain) (λ start k. key) key (λ x. key) d.stage

  delivery-changes : (r : DirReply) (u : List ℕ) → Changes s asked (state_by (ask_of (asked_at number d at d.stage) clock) s r) u
  delivery-changes = on-changes s asked clock d.tmp.name (made-changes s asked d.tmp.name (makes-delivery s asked d fits))
      (asked_at number d at d.stage) delivery-on

-- ---- a turn of an errand

module _ (s : State) (asked : Call) (sound : IsSound s) (one : HasOnePath s) (clock : ℕ) (faulted : Bool) where
  abbrev TurnChanges : Asked → Type 0
  TurnChanges made = (r : DirReply) → r ≡ reply_of (ask_of made clock) s faulted → (u : List ℕ) →
      Changes s asked (state_by (ask_of made clock) s r) u

  module _ (folder : ℕ) (v : List ℕ) (place : Place) (row : Row) (tries : ℕ) where
    abbrev acting : Purpose → ErrandOf
    acting p = on folder v p (Act place row tries)

    abbrev made : Purpose → Asked
    made p = asked_of (deed_by p folder v place row.name (info_in row.name))

    abbrev o : Path
    o = path_of folder place row.name

    module _ (p : Purpose) (fits : ErrandFits s asked (acting p)) where
      message : is_message o ≡ true
      message = and_from _ _ (ap not (not-tmp p place fits.stage.at)) fits.stage.named

      there : reply.Ok ≡ reply_of (ask_of (made p) clock) s faulted → (k : ℕ) × (file_at s o ≡ Some k)
      there = deed-there s clock faulted o (deed_by p folder v place row.name (info_in row.name))
          (deed-fits s asked folder v place row tries p fits)

    -- a mark gives its message another name of the unique part
    marked : (p : Purpose) (fits : ErrandFits s asked (acting p)) (k : ℕ) → file_at s o ≡ Some k → (u : List ℕ) →
        holds (after_rename o (path_of folder Cur (flagged v (wanted p (shown (info_in row.name))))) s) u ≡ holds s u
    marked p fits k at u =
        let name : List ℕ = flagged v (wanted p (shown (info_in row.name))) in
        let part = unique-part v fits.valid in
        let unique : unique_of name ≡ v = unique_of-flagged v (wanted p (shown (info_in row.name))) part.colonless in
        holds-moved s o (path_of folder Cur name) k sound one (message p fits) (message-name v name part unique)
        (fits.stage.unique ∙ sym unique) fits.in_folder at u

    -- a copy makes its fresh name
    copied : (to : ℕ) (fresh : List ℕ) (fits : ErrandFits s asked (acting (Copy to fresh))) (u : List ℕ) →
        Changes s asked (state_by (ask_of (made (Copy to fresh)) clock) s reply.Ok) u
    copied to fresh fits =
        let n : Path = path_of to place (name_copied fresh (info_in row.name)) in
        let named = copy-named s asked folder v to fresh place row tries fits in
        let not_tmp = new_or_cur s asked folder v to fresh place row tries fits in
        let key : name_used n ≡ fresh = message-key n (and_from _ _ (ap not not_tmp) named.message) ∙ named.unique in
        on-changes s asked clock fresh (made-changes s asked fresh (makes-copy s asked folder v to fresh place row tries fits))
        (made (Copy to fresh)) key reply.Ok

    -- an expunge takes the name of its message away
    expunged : (fits : ErrandFits s asked (acting Expunge)) (k : ℕ) → file_at s o ≡ Some k → (u : List ℕ) →
        Changes s asked (state_by (ask_of (made Expunge) clock) s reply.Ok) u
    expunged fits k at =
        let m = message Expunge fits in
        let held : holds s v ≡ true = message-holds s o k v at m fits.stage.unique in
        let may : may_change s asked v ≡ true =
        ap (λ (c : Call). may_change s c v) fits.of ∙ and_from (bytes_eq v v) (holds s v) (itself v) held in
        on-changes s asked clock v may (made Expunge) (message-key o m ∙ fits.stage.unique) reply.Ok

    done : (p : Purpose) (fits : ErrandFits s asked (acting p)) (k : ℕ) → file_at s o ≡ Some k → (u : List ℕ) →
        Changes s asked (state_by (ask_of (made p) clock) s reply.Ok) u
    done (Seen given) fits k at u = inl (marked (Seen given) fits k at u)
    done (Flag add remove) fits k at u = inl (marked (Flag add remove) fits k at u)
    done (Move to) fits k at u =
        inl (holds-moved s o (path_of to place row.name) k sound one (message (Move to) fits) (message (Move to) fits) refl fits.to_folder at u)
    done (Copy to fresh) fits k at u = copied to fresh fits u
    done Expunge fits k at u = expunged fits k at u

    act-changes : (p : Purpose) → ErrandFits s asked (acting p) → TurnChanges (made p)
    act-changes p fits reply.Ok replied u = let at = there p fits replied in done p fits at.0 at.1 u
    act-changes p fits r replied u = inl refl

  stage-changes : (number folder : ℕ) (v : List ℕ) (p : Purpose) (stage : Stage) → ErrandFits s asked (on folder v p stage) →
      TurnChanges (stage_turn number (on folder v p stage) stage).asked
  stage-changes number folder v p (Look place tries) fits reply.Ok replied u = inl refl
  stage-changes number folder v p (Look place tries) fits r replied u = inl refl
  stage-changes number folder v p (Act place row tries) fits r replied u = act-changes folder v place row tries p fits r replied u

  -- ---- a turn of a clean

  -- a name of tmp that is taken away
  removed : (folder : ℕ) (name : List ℕ) → asked ≡ call.Clean folder → TurnChanges (unlink (path_of folder Tmp name))
  removed folder name of reply.Ok replied =
      let p : Path = path_of folder Tmp name in
      let there = deed-there s clock faulted p (deed.Unlink p) refl replied in
      let may : may_change s asked name ≡ true = ap (λ (c : Call). may_change s c name) of ∙ ap is_some there.1 in
      on-changes s asked clock name may (unlink p) refl reply.Ok
  removed folder name of r replied = λ u. inl refl

  clean-changes : (c : Cleaning) (own : ℕ) (stage : cleaning.Stage) → asked ≡ call.Clean c.folder →
      TurnChanges (cleaned_by.stage_turn c own stage).asked
  clean-changes c own cleaning.Look of reply.Ok replied u = inl refl
  clean-changes c own cleaning.Look of r replied u = inl refl
  clean-changes c own (cleaning.Remove name rest files) of r replied u = removed c.folder name of r replied u

  -- ---- any turn

  pub turn-changes : (number : ℕ) (task : Task) (at : Moment) → TaskFits s asked task → TurnChanges (turn_of number task at).asked
  turn-changes number (Deliver d) at fits r replied u = delivery-changes s asked clock number d at fits r u
  turn-changes number (Errand e) at fits r replied u = stage-changes number e.folder e.unique e.purpose e.stage fits r replied u
  turn-changes number (Clean c) at fits r replied u = clean-changes c at.own c.stage fits r replied u

-- ---- what a world keeps of names, after a turn

module _ (s later : State) (asked : Call) (changes : (u : List ℕ) → Changes s asked later u) where
  -- the same names are used up, where those that the call may change are among those since
  pub same-used : (since : List (List ℕ)) (u : List ℕ) → (may_change s asked u ≡ true → is_among u since ≡ true) →
      (is_among u since || holds later u) ≡ (is_among u since || holds s u)
  same-used since u marked = elim (changes u) [
    | inl same ↦ ap (λ b. is_among u since || b) same
    | inr may ↦ let kept = marked may in ap (λ b. b || holds later u) kept ∙ sym (ap (λ b. b || holds s u) kept)
  ]

  -- the names that are kept have all that are used up then
  pub still-covers : (since : List (List ℕ)) (were : Option (List (List ℕ))) →
      ((u : List ℕ) → may_change s asked u ≡ true → is_among u since ≡ true) → CoversBy s since were → CoversBy later since were
  still-covers since None marked covers = tt
  still-covers since (Some names) marked covers = λ u is. elim (changes u) [
    | inl same ↦ covers u (sym same ∙ is)
    | inr may ↦ ap (λ b. b || is_among u names) (marked u may)
  ]

-- a name that another call may change then, it could before, or the call of the turn could
module _ (s : State) (asked : Call) (sound : IsSound s) (number : ℕ) (task : Task) (at : Moment) (fits : TaskFits s asked task) (r : DirReply)
  where
    abbrev asks : Asked
    asks = (turn_of number task at).asked

    abbrev later : State
    later = state_by (ask_of asks at.clock) s r

    pub may-still : ((u : List ℕ) → Changes s asked later u) → (c : Call) (u : List ℕ) → may_change later c u ≡ true →
        (may_change s c u ≡ true) ⊎ (may_change s asked u ≡ true)
    may-still changes (call.Clean folder) u may = elim
        (touches s (path_of folder Tmp u) refl sound at.clock asks r (asks-fair s asked number task at fits)) [
          | inl keeps ↦ inl (ap is_some (sym keeps.names) ∙ may)
          | inr changed ↦ elim changed [
            | inl makes ↦ inr (made-changes s asked u (creates s asked number at (path_of folder Tmp u) refl task fits makes.call).0)
            | inr takes ↦ let gone : is_some (file_at later (path_of folder Tmp u)) ≡ false = ap is_some takes.gone in cc
          ]
        ]
    may-still changes (call.Expunge folder v tries) u may = elim (changes u) [
      | inl same ↦ inl (ap (λ b. bytes_eq v u && b) (sym same) ∙ may)
      | inr mine ↦ inr mine
    ]
    may-still changes other u may = inl may

-- ---- the rows of tmp

module _ (s : State) (folder : ℕ) (u : List ℕ) where
  abbrev is_named : Row → Bool
  is_named r = bytes_eq r.name u

  abbrev is_there : Path × ℕ → Bool
  is_there e = is_in folder Tmp e.0 && bytes_eq e.0.name u

  rows-named : (es : List (Path × ℕ)) →
      list_any is_named (map (row_of s.files) (filter (λ e. is_in folder Tmp e.0) es)) ≡ list_any is_there es
  rows-named [] = refl
  rows-named (e ∷ es) = by (is_in folder Tmp e.0) (rows-named es)
    where
      by : (b : Bool) → list_any is_named (map (row_of s.files) (filter (λ x. is_in folder Tmp x.0) es)) ≡ list_any is_there es →
          list_any is_named (map (row_of s.files) (cond b (e ∷ filter (λ x. is_in folder Tmp x.0) es) (filter (λ x. is_in folder Tmp x.0) es)))
          ≡ ((b && bytes_eq e.0.name u) || list_any is_there es)
      by true rest = (λ i. bytes_eq (name-row e.0.name (file_by s.files e.1) i) u || rest i)
      by false rest = rest

  named-there : list_any is_there (entries s.names) ≡ is_some (file_at s (path_of folder Tmp u))
  named-there = by (file_at s (path_of folder Tmp u)) refl
    where
      by : (o : Option ℕ) → file_at s (path_of folder Tmp u) ≡ o → list_any is_there (entries s.names) ≡ is_some o
      by (Some n) there =
          has-any is_there (entries s.names) (path_of folder Tmp u, n)
          (get-has path_total path_exact s.names (path_of folder Tmp u) n there)
          (and_from _ _ (in-path folder Tmp u) ((bytes_eq-Decides u u).1 refl))
      by None there = any-none is_there (entries s.names) (λ x has.
          never (is_there x) (λ is.
          let parts = and_parts (is_in folder Tmp x.0) (bytes_eq x.0.name u) is in
          let same = (bytes_eq-Decides x.0.name u).0 parts.1 in
          let here : x.0 ≡ path_of folder Tmp u = path-in folder Tmp x.0 parts.0 ∙ ap (path_of folder Tmp) same in
          let some : file_at s (path_of folder Tmp u) ≡ Some x.1 =
          ap (file_at s) (sym here) ∙ has-get path_total path_exact s.names x has in
          cc))

  -- rows of tmp, in whatever order, have the names that are there
  pub rows-there : (rows : List Row) → IsPermutation (rows_of s folder Tmp) rows →
      list_any is_named rows ≡ is_some (file_at s (path_of folder Tmp u))
  rows-there rows lies = sym (list_any-IsPermutation is_named (rows_of s folder Tmp) rows lies) ∙ rows-named (entries s.names) ∙ named-there

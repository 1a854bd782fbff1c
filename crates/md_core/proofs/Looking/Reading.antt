-- What looks for a message in each directory tell of the mailbox.
use Rattle.std.proofs.Common.{ℕ, ◌≡◌, ◌+◌, ◌≤◌, inl, inr, List, Option, Some, None, Bool, true, false, cond, not, ◌&&◌, ◌==◌, IsSome, refl, sym, ap, subst, ◌∙◌, arith}
use Rattle.std.proofs.lemmas.Bool.{cases_lt, eq-eqb, and_from}
use Rattle.std.proofs.lemmas.Slice.Eq.{bytes_eq-Decides}
use Rattle.md_core.proofs.Values.{Place, Row, Info, path_of, place_index, State, IsSound, file_by, bytes_at_path, rows_of, row_named, Tmp, New, Cur, unique_of, is_message_name, entry_if, is_in_place, Entry, mailbox_of, entry_of, bytes_of, is_tmp, HasOnePath, option_map, option_and_then, get, bytes_eq, File, is_of}
use Rattle.md_name.proofs.Digits.{and_first, and_second}
use Rattle.md_name.proofs.Flagged.{IsUniquePart, IsUniquePart-unique_of, split_of-bare}
use Rattle.md_core.proofs.Mailbox.Shown.{mailbox-shows}
use Rattle.md_core.proofs.Looking.LookUps.{row-of_part, row-entry, no-entry}

-- the bytes of an entry
abbrev pub bytes : Option Entry → Option (List ℕ)
bytes = option_map (λ (e : Entry). e.bytes)

-- ---- unique parts

part-of : (u : List ℕ) → is_of u u ≡ true → IsUniquePart u
part-of u is =
    let same : unique_of u ≡ u = (bytes_eq-Decides (unique_of u) u).0 (and_second (is_message_name u) _ is) in
    subst IsUniquePart same (IsUniquePart-unique_of u (and_first _ (bytes_eq (unique_of u) u) is))

some_parts : (b : Bool) (x y : List ℕ) → cond {A = Option (List ℕ)} b (Some x) None ≡ Some y → (b ≡ true) × (x ≡ y)
some_parts true x y is = let same : x ≡ y = cc in (refl, same)
some_parts false x y is = cc

-- the unique name of a message is itself a message's name with that unique name
of-unique : (name : List ℕ) → is_message_name name ≡ true → is_of (unique_of name) (unique_of name) ≡ true
of-unique name message =
    let u = unique_of name in
    let bare = split_of-bare u (IsUniquePart-unique_of name message) in
    let parts = some_parts (is_message_name u) (unique_of u) u (firsts (is_message_name u) _ _ (ap (option_map (λ (x : List ℕ × Info). x.0)) bare)) in
    (λ i. parts.0 i && (bytes_eq-Decides (unique_of u) u).1 parts.1 i)
  where
    firsts : (b : Bool) (x : List ℕ × Info) (y : Option (List ℕ)) → option_map (λ (x : List ℕ × Info). x.0) (cond b (Some x) None) ≡ y →
        cond b (Some x.0) None ≡ y
    firsts true x y is = is
    firsts false x y is = is

module _ (s : State) (u : List ℕ) where
  none-if : ((e : Entry) → get (mailbox_of s) u ≡ Some e → ⊥) → None ≡ bytes (get (mailbox_of s) u)
  none-if none = by (get (mailbox_of s) u) refl
    where
      by : (o : Option Entry) → get (mailbox_of s) u ≡ o → None ≡ bytes o
      by None is = refl
      by (Some e) is = absurd (none e is)

  -- no message has a name that is no unique part
  pub no-part : is_of u u ≡ false → None ≡ bytes (get (mailbox_of s) u)
  no-part none = none-if (λ e is.
      let h = mailbox-shows s u e is in
      let yes : is_of u u ≡ true = ap (λ v. is_of v v) (sym h.unique) ∙ of-unique h.path.name (and_second (not (is_tmp h.path.place)) _ h.message) in
      cc)

  -- ---- one directory

  -- a row can be read
  pub row-bytes : (folder : ℕ) (place : Place) (row : Row) → IsSound s → HasOnePath s → is_tmp place ≡ false → is_of u u ≡ true →
      row_named u (rows_of s folder place) ≡ Some row
      → bytes_at_path s (path_of folder place row.name) ≡ bytes (entry_if (is_in_place place folder) (get (mailbox_of s) u))
  row-bytes folder place row sound one no_tmp part is =
      let h = row-of_part s folder place u row (part-of u part) is in
      let e = entry_of s (path_of folder place row.name) h.file in
      let inside : is_in_place place folder e ≡ true =
      and_from (place_index place == place_index place) (folder == folder) (eq-eqb (place_index place) (place_index place) refl) (eq-eqb folder folder refl) in
      ap (λ o. option_map (λ (f : File). f.bytes) (option_and_then (file_by s.files) o)) h.there
      ∙ held (file_by s.files h.file) (sound.filed (path_of folder place row.name) h.file h.there)
      ∙ sym (ap (λ o. bytes (entry_if (is_in_place place folder) o)) (row-entry s folder place u row no_tmp one h) ∙ ap (λ b. bytes (cond b (Some e) None)) inside)
    where
      held : (o : Option File) → IsSome o → option_map (λ (f : File). f.bytes) o ≡ Some (bytes_of o)
      held None some = cc
      held (Some f) some = refl

  pub none-bytes : (folder : ℕ) (place : Place) → row_named u (rows_of s folder place) ≡ None →
      None ≡ bytes (entry_if (is_in_place place folder) (get (mailbox_of s) u))
  none-bytes folder place none = ap bytes (sym (no-entry s folder place u none))

  -- ---- all directories

  -- what one directory has, the mailbox has
  pub such-bytes : (test : Entry → Bool) (b : List ℕ) → Some b ≡ bytes (entry_if test (get (mailbox_of s) u)) → Some b ≡ bytes (get (mailbox_of s) u)
  such-bytes test b = by (get (mailbox_of s) u)
    where
      by : (o : Option Entry) → Some b ≡ bytes (entry_if test o) → Some b ≡ bytes o
      by None is = is
      by (Some e) is = at (test e) is
        where
          at : (t : Bool) → Some b ≡ bytes (cond t (Some e) None) → Some b ≡ Some e.bytes
          at true is = is
          at false is = cc

  -- the message is in no folder before that one
  abbrev pub IsPast : ℕ → Type 0
  IsPast folder = (e : Entry) → get (mailbox_of s) u ≡ Some e → folder ≤ e.folder

  -- one folder more
  pub one-past : (folder : ℕ) → IsPast folder → None ≡ bytes (entry_if (is_in_place New folder) (get (mailbox_of s) u)) →
      None ≡ bytes (entry_if (is_in_place Cur folder) (get (mailbox_of s) u)) → IsPast (folder + 1)
  one-past folder past in_new in_cur e is = elim (cases_lt folder e.folder) [
    | inl later ↦ omega arith
    | inr here ↦
        let from = past e is in
        let same : e.folder ≡ folder = omega arith in
        let h = mailbox-shows s u e is in
        let place : not (is_tmp e.place) ≡ true = ap (λ (x : Entry). not (is_tmp x.place)) (sym h.entry) ∙ and_first _ _ h.message in
        absurd (by same e.place refl place)
  ]
    where
      there : (place : Place) → e.place ≡ place → e.folder ≡ folder → None ≡ bytes (entry_if (is_in_place place folder) (get (mailbox_of s) u)) → ⊥
      there place at same none =
          let inside : is_in_place place folder e ≡ true =
          and_from (place_index e.place == place_index place) (e.folder == folder) (eq-eqb _ _ (ap place_index at)) (eq-eqb _ _ same) in
          let some : None ≡ Some e.bytes = none ∙ ap (λ o. bytes (entry_if (is_in_place place folder) o)) is ∙ ap (λ b. bytes (cond b (Some e) None)) inside in
          cc

      by : e.folder ≡ folder → (place : Place) → e.place ≡ place → not (is_tmp e.place) ≡ true → ⊥
      by same Tmp at message = let no : not (is_tmp e.place) ≡ false = ap (λ (x : Place). not (is_tmp x)) at in cc
      by same New at _ = there New at same in_new
      by same Cur at _ = there Cur at same in_cur

  -- all folders
  pub none-past : IsSound s → IsPast s.folders → None ≡ bytes (get (mailbox_of s) u)
  none-past sound past = none-if (λ e is.
      let h = mailbox-shows s u e is in
      let low = sound.housed h.path h.file h.there in
      let same : h.path.folder ≡ e.folder = ap (λ (x : Entry). x.folder) h.entry in
      let from = past e is in
      omega arith)

-- The rows of a directory, as entries in their order.
use Rattle.std.proofs.Common.{ℕ, ◌≡◌, ◌+◌, List, [], ◌∷◌, ◌++◌, Option, Some, None, Bool, true, false, cond, not, ◌||◌, zero, suc, max, filter, take, drop, slice_get, refl, sym, ap, ◌∙◌, subst}
use Rattle.std.proofs.Common.{append_assoc}
use Rattle.std.proofs.lemmas.List.{take-append-drop}
use Rattle.md_core.proofs.Values.{State, file_by, Path, Place, Row, CoreError, path_of, place_index, is_in, row_of, rows_of, stamp_of, is_among, option_map, entries, Seen, first_fault, load_refusal, IsLookOf, fault_after, is_message_of, is_tmp_of, is_before, entries_before}
use Rattle.md_dirs.proofs.Rowed.{get-map}
use Rattle.md_core.proofs.Worlds.Loading.Order.{entries_in, before-more, before-first}
use Rattle.md_core.proofs.Lists.Places.{take-one_more}
use Rattle.md_core.proofs.Worlds.Loading.Faults.{look-more, first-fault}
use Rattle.md_core.proofs.Looking.LookUps.{name-row, row-stamp, path-in}

-- ---- the rows of a directory

-- the entry of a row that a directory shows at a position
pub record IsRowAt (s : State) (f : ℕ) (p : Place) (at : ℕ) (r : Row) : Type 0 where
  pub entry : Path × ℕ
  pub there : slice_get (entries_in s f p) at ≡ Some entry
  pub path : entry.0 ≡ path_of f p r.name
  pub stamp : stamp_of (file_by s.files entry.1) ≡ r.stamp

pub passes : {X : Type 0} (q : X → Bool) (xs : List X) (at : ℕ) (x : X) → slice_get (filter q xs) at ≡ Some x → q x ≡ true
passes q [] at x is = cc
passes q (y ∷ xs) at x is = by (passes q xs) (q y) refl at is
  where
    by : ((at : ℕ) (x : _) → slice_get (filter q xs) at ≡ Some x → q x ≡ true) → (b : Bool) → q y ≡ b → (at : ℕ) →
        slice_get (cond b (y ∷ filter q xs) (filter q xs)) at ≡ Some x → q x ≡ true
    by rest true h zero is = let same : y ≡ x = cc in ap q (sym same) ∙ h
    by rest true h (suc at) is = rest at x is
    by rest false h at is = rest at x is

pub mapped : {X Y : Type 0} (g : X → Y) (o : Option X) (y : Y) → option_map g o ≡ Some y → (x : X) × (o ≡ Some x) × (g x ≡ y)
mapped g None y is = cc
mapped g (Some x) y is = (x, refl, cc)

module _ (s : State) (f : ℕ) (p : Place) where
  -- a row's entry has its path and its file's stamp
  pub shown-path : (e : Path × ℕ) (r : Row) → is_in f p e.0 ≡ true → row_of s.files e ≡ r → e.0 ≡ path_of f p r.name
  shown-path e r inside shows =
      path-in f p e.0 inside ∙ ap (path_of f p) (sym (name-row e.0.name (file_by s.files e.1)) ∙ ap (λ (x : Row). x.name) shows)

  pub shown-stamp : (e : Path × ℕ) (r : Row) → row_of s.files e ≡ r → stamp_of (file_by s.files e.1) ≡ r.stamp
  shown-stamp e r shows = sym (row-stamp e.0.name (file_by s.files e.1)) ∙ ap (λ (x : Row). x.stamp) shows

  -- one more row, which has no fault
  pub look-row : (es : List (Path × ℕ)) (seen : Seen) → IsLookOf s es seen → (e : Path × ℕ) (r : Row) → e.0 ≡ path_of f p r.name →
      stamp_of (file_by s.files e.1) ≡ r.stamp → (seen' : Seen) → fault_after seen.messages (path_of 0 p r.name) ≡ None
      → ((u : List ℕ) → is_among u seen'.messages ≡ (is_message_of u (path_of 0 p r.name) || is_among u seen.messages)) →
      ((u : List ℕ) → is_among u seen'.tmp ≡ (is_tmp_of u (path_of 0 p r.name) || is_among u seen.tmp))
      → seen'.clock ≡ max seen.clock r.stamp → IsLookOf s (es ++ e ∷ []) seen'
  look-row es seen look e r path stamp seen' fault messages tmp clock =
      look-more s es seen look e seen'
      (ap (fault_after seen.messages) path ∙ fault)
      (λ u. messages u ∙ ap (λ q. is_message_of u q || is_among u seen.messages) (sym path))
      (λ u. tmp u ∙ ap (λ q. is_tmp_of u q || is_among u seen.tmp) (sym path))
      (clock ∙ ap (max seen.clock) (sym stamp))

  pub row-at : (at : ℕ) (r : Row) → slice_get (rows_of s f p) at ≡ Some r → IsRowAt s f p at r
  row-at at r is =
      let found = mapped (row_of s.files) (slice_get (entries_in s f p) at) r (sym (get-map (row_of s.files) (entries_in s f p) at) ∙ is) in
      let e = found.0 in
      record {
        entry = e;
        there = found.1;
        path = shown-path e r (passes (λ x. is_in f p x.0) (entries s.names) at e found.1) found.2;
        stamp = shown-stamp e r found.2;
      }

  -- the entries before a position of a directory
  abbrev pub entries_until : ℕ → List (Path × ℕ)
  entries_until at = entries_before s f (place_index p) ++ take at (entries_in s f p)

  pub until-more : (at : ℕ) (e : Path × ℕ) → slice_get (entries_in s f p) at ≡ Some e → entries_until (at + 1) ≡ entries_until at ++ e ∷ []
  until-more at e is = ap (λ xs. entries_before s f (place_index p) ++ xs) (take-one_more (entries_in s f p) at e is) ∙
      sym (append_assoc (entries_before s f (place_index p)) (take at (entries_in s f p)) (e ∷ []))

  all_taken : {X : Type 0} (xs : List X) (at : ℕ) → slice_get xs at ≡ None → take at xs ≡ xs
  all_taken [] zero past = refl
  all_taken [] (suc at) past = refl
  all_taken (x ∷ xs) zero past = cc
  all_taken (x ∷ xs) (suc at) past = ap (λ ys. x ∷ ys) (all_taken xs at past)

  no_more : {X Y : Type 0} (g : X → Y) (o : Option X) → option_map g o ≡ None → o ≡ None
  no_more g None is = refl
  no_more g (Some x) is = cc

  -- behind the last row of a directory are those of the next
  pub until-all : (at : ℕ) → slice_get (rows_of s f p) at ≡ None → entries_until at ≡ entries_before s f (place_index p + 1)
  until-all at past =
      ap (λ xs. entries_before s f (place_index p) ++ xs)
      (all_taken (entries_in s f p) at (no_more (row_of s.files) _ (sym (get-map (row_of s.files) (entries_in s f p) at) ∙ past)))
      ∙ sym (before-more s f p)

  module _ (at : ℕ) (r : Row) (seen : Seen) (look : IsLookOf s (entries_until at) seen) (is : slice_get (rows_of s f p) at ≡ Some r) where
    row : IsRowAt s f p at r
    row = row-at at r is

    -- one more row, which has no fault
    pub until-row : (seen' : Seen) → fault_after seen.messages (path_of 0 p r.name) ≡ None
        → ((u : List ℕ) → is_among u seen'.messages ≡ (is_message_of u (path_of 0 p r.name) || is_among u seen.messages)) →
        ((u : List ℕ) → is_among u seen'.tmp ≡ (is_tmp_of u (path_of 0 p r.name) || is_among u seen.tmp))
        → seen'.clock ≡ max seen.clock r.stamp → IsLookOf s (entries_until (at + 1)) seen'
    unfolding row
    until-row seen' fault messages tmp stamp =
        let e = row.entry in
        subst (λ es. IsLookOf s es seen') (sym (until-more at e row.there))
        (look-row (entries_until at) seen look e r row.path row.stamp seen' fault messages tmp stamp)

    -- a row with a fault
    pub refused-row : (error : CoreError) → fault_after seen.messages (path_of 0 p r.name) ≡ Some error → load_refusal s ≡ Some error
    unfolding row
    refused-row error fault =
        let e = row.entry in
        let others = filter (λ x. not (is_before f (place_index p + 1) x.0)) (entries s.names) in
        let rest = drop (at + 1) (entries_in s f p) ++ others in
        let cut : entries s.names ≡ entries_until at ++ e ∷ rest =
        before-first s f (place_index p + 1) ∙ ap (λ xs. xs ++ others) (before-more s f p)
        ∙ ap (λ xs. (entries_before s f (place_index p) ++ xs) ++ others) (sym (take-append-drop (at + 1) (entries_in s f p)) ∙
        ap (λ xs. xs ++ drop (at + 1) (entries_in s f p)) (take-one_more (entries_in s f p) at e row.there))
        ∙ simp append_assoc in
        ap (first_fault []) cut ∙ first-fault s (entries_until at) seen look e rest error (ap (fault_after seen.messages) row.path ∙ fault)

-- Flags that stand in a name as they print.
use Rattle.std.proofs.Common.{ℕ, zero, suc, ◌≡◌, ◌+◌, ◌-◌, ◌<◌, ◌≤◌, Bool, true, false, cond, T, not, ◌&&◌, List, [], ◌∷◌, Option, Some, None, is_some, map, filter, length, get_or, take, drop, refl, sym, ap, subst, ◌∙◌, arith, lt-ltb, below_more, length-take-le}
use Rattle.std.proofs.lemmas.List.{take_rest}
use Rattle.std.specs.Prelude.{nat_eq, codes, position}
use Rattle.std.specs.List.{list_any, list_all, starts_with}
use Rattle.std.specs.Ordering.{nat_cmp, eq_by_cmp}
use Rattle.std.specs.Cmp.{nat_cmp_total}
use Rattle.std.specs.FinSet as set
use Rattle.std.specs.FinMap.Entries.{find, where_key, below_all, is_sorted, is_sorted-where_key, is_some-find, same_entries}
use Rattle.std.specs.declared.cmp.Ordering.TheVariants.{Less, Equal, Greater}
use Rattle.md_name.specs.declared.info.Info.{Info}
use Rattle.md_name.specs.declared.info.Info.TheVariants.{Two, Opaque}
use Rattle.md_name.specs.Letters.{is_letter, letters, Set, spelling}
use Rattle.md_name.specs.Names.{is_colon, begins_with_dot, unique_of, info_of, info_by, flags_of, split_of, is_message_name}
use Rattle.md_name.proofs.Colons.{unique_of-found, info_of-found, unique_of-not_found, info_of-not_found}
use Rattle.md_name.proofs.Flagged.{from_list-spelling}
use Rattle.md_name.proofs.Sets.{IsOfLetters-from_list}
use Rattle.md_listing.proofs.Keyed.{both, first, second, less, is_less}
use Rattle.md_script.specs.Texts.{letters_text, flags_text, flags_by}
use Rattle.md_script.proofs.Spelled.{spelled_none}

-- each number is above the one before it
abbrev pub Rises : List ℕ → Type 0
Rises xs = (k : ℕ) → suc k < length xs → get_or xs k 0 < get_or xs (suc k) 0

-- numbers as the entries of a set
abbrev marks : List ℕ → List (ℕ × Unit {0})
marks xs = map (λ x. (x, tt)) xs

abbrev unmarked : List (ℕ × Unit {0}) → List ℕ
unmarked es = map (λ e. e.0) es

unmarked-marks : (xs : List ℕ) → unmarked (marks xs) ≡ xs
unmarked-marks [] = refl
unmarked-marks (x ∷ xs) = ap (λ (rest : List ℕ). x ∷ rest) (unmarked-marks xs)

marks-filter : (p : ℕ → Bool) (xs : List ℕ) → marks (filter p xs) ≡ where_key nat_cmp p (marks xs)
marks-filter p [] = refl
marks-filter p (x ∷ xs) =
    elim (p x) as (λ b. marks (cond b (x ∷ filter p xs) (filter p xs)) ≡ cond b ((x, tt) ∷ where_key nat_cmp p (marks xs)) (where_key nat_cmp p (marks xs))) [
      | true ↦ ap (λ (rest : List (ℕ × Unit {0})). (x, tt) ∷ rest) (marks-filter p xs)
      | false ↦ marks-filter p xs
    ]

abbrev IsSorted : List ℕ → Type 0
IsSorted xs = T (is_sorted nat_cmp (marks xs))

letters-sorted : IsSorted letters
unfolding letters
letters-sorted = tt

spelling-sorted : (s : Set) → IsSorted (spelling s)
unfolding spelling
spelling-sorted s =
    subst (λ es. T (is_sorted nat_cmp es)) (sym (marks-filter (λ c. set.contains s c) letters))
    (is_sorted-where_key nat_cmp (λ c. set.contains s c) (marks letters) letters-sorted)

found : (q : ℕ) (xs : List ℕ) → is_some (find nat_cmp q (marks xs)) ≡ set.contains (set.from_list {R = nat_cmp} xs) q
found q xs =
    is_some-find nat_cmp q (marks xs) ∙ ap (λ ks. list_any (eq_by_cmp nat_cmp q) ks) (unmarked-marks xs) ∙ sym (set.contains-from_list nat_cmp_total xs q)

same_mark : (a b : Option (Unit {0})) → is_some a ≡ is_some b → a ≡ b
same_mark None None is = refl
same_mark None (Some y) is = cc
same_mark (Some x) None is = cc
same_mark (Some x) (Some y) is = refl

spelled-sorted : (xs : List ℕ) → list_all is_letter xs ≡ true → IsSorted xs → spelling (set.from_list xs) ≡ xs
spelled-sorted xs all sorted =
    let s : Set = set.from_list xs in
    let back : set.from_list (spelling s) ≡ s = from_list-spelling s (IsOfLetters-from_list xs all) in
    let entries : marks (spelling s) ≡ marks xs =
    same_entries nat_cmp nat_cmp_total set.nat_cmp-IsAntisymmetric (marks (spelling s)) (marks xs) (spelling-sorted s) sorted
    (λ q. same_mark _ _ (found q (spelling s) ∙ ap (λ (t : Set). set.contains t q) back ∙ sym (found q xs))) in
    sym (unmarked-marks (spelling s)) ∙ ap unmarked entries ∙ unmarked-marks xs

below-less : (x y : ℕ) (es : List (ℕ × Unit {0})) → nat_cmp x y ≡ Less → T (below_all nat_cmp y es) → T (below_all nat_cmp x es)
below-less x y [] p h = tt
below-less x y (e ∷ es) p h =
    both _ _ (is_less _ (nat_cmp_total.trans x y e.0 p (less _ (first _ _ h)))) (below-less x y es p (second _ _ h))

under : (x y : ℕ) → x < y → nat_cmp x y ≡ Less
under x y h = ap (λ b. cond b Less (cond (nat_eq x y) Equal Greater)) (lt-ltb x y h)

rises-sorted : (xs : List ℕ) → Rises xs → IsSorted xs
rises-sorted [] rises = tt
rises-sorted (x ∷ []) rises = tt
rises-sorted (x ∷ y ∷ ys) rises =
    let rest : IsSorted (y ∷ ys) = rises-sorted (y ∷ ys) (λ k within. rises (suc k) (omega (arith, within))) in
    let here : nat_cmp x y ≡ Less = under x y (rises 0 (omega arith)) in
    both _ _ (both _ _ (is_less _ here) (below-less x y (marks ys) here (first _ _ rest))) rest

-- letters that rise are what their set is spelled as
pub spelled : (xs : List ℕ) → list_all is_letter xs ≡ true → Rises xs → spelling (set.from_list xs) ≡ xs
spelled xs all rises = spelled-sorted xs all (rises-sorted xs rises)

-- one number more that is above the one before it
pub one_more : (xs : List ℕ) (at : ℕ) → 1 ≤ at → ((k : ℕ) → suc k < at → get_or xs k 0 < get_or xs (suc k) 0) → get_or xs (at - 1) 0 < get_or xs at 0
    → (k : ℕ) → suc k < at + 1 → get_or xs k 0 < get_or xs (suc k) 0
one_more xs zero low so_far last = absurd (omega arith)
one_more xs (suc j) low so_far last =
    let before : suc j - 1 ≡ j = omega arith in
    let here : get_or xs j 0 < get_or xs (suc j) 0 = subst (λ n. get_or xs n 0 < get_or xs (suc j) 0) before last in
    λ k within. below_more (λ k. get_or xs k 0 < get_or xs (suc k) 0) j (λ k h. so_far k (omega (arith, h))) here k (omega (arith, within))

-- letters that rise, after what flags begin with, print as they stand
pub written : (text letters : List ℕ) → starts_with nat_eq text (codes "2,") ≡ true → letters ≡ drop 2 text → list_all is_letter letters ≡ true
    → Rises letters → flags_text (flags_of (info_by (Some text))) ≡ letters_text letters
unfolding info_by
written text letters starts is all rises =
    let each : list_all is_letter (drop 2 text) ≡ true = ap (list_all is_letter) (sym is) ∙ all in
    ap (λ b. flags_text (flags_of (cond b (Two (set.from_list (drop 2 text))) Opaque))) (λ i. starts i && each i)
    ∙ ap letters_text (ap (λ (xs : List ℕ). spelling (set.from_list xs)) (sym is) ∙ spelled letters all rises)

-- a name that a colon stands in, at the first place where a search finds it, and one where it finds none
message : (name : List ℕ) → begins_with_dot name ≡ false → 0 < length (unique_of name) → is_message_name name ≡ true
unfolding is_message_name
message name dotless some = λ i. not (dotless i) && lt-ltb 0 (length (unique_of name)) some i

by_parts : (name : List ℕ) → is_message_name name ≡ true → flags_text (flags_by (split_of name)) ≡ flags_text (flags_of (info_of name))
by_parts name is = ap (λ b. flags_text (flags_by (cond b (Some (unique_of name, info_of name)) None))) is

pub bare : (name : List ℕ) → 0 < length name → begins_with_dot name ≡ false → None ≡ position is_colon name
    → flags_text (flags_by (split_of name)) ≡ letters_text []
bare name some dotless none =
    by_parts name (message name dotless (subst (λ (u : List ℕ). 0 < length u) (unique_of-not_found name (sym none)) some))
    ∙ ap (λ (x : Info). flags_text (flags_of x)) (sym (info_of-not_found name (sym none))) ∙ ap letters_text spelled_none

pub after_colon : (name : List ℕ) (at : ℕ) → 0 < at → begins_with_dot name ≡ false → at < length name → Some at ≡ position is_colon name
    → flags_text (flags_by (split_of name)) ≡ flags_text (flags_of (info_by (Some (take (length name - (at + 1)) (drop (at + 1) name)))))
after_colon name at some dotless within is =
    let long : length (take at name) ≡ at = length-take-le at name (omega (arith, within)) in
    let front : 0 < length (take at name) = omega (arith, long, some) in
    by_parts name (message name dotless (subst (λ (u : List ℕ). 0 < length u) (unique_of-found name at (sym is)) front))
    ∙ ap (λ (x : Info). flags_text (flags_of x)) (sym (info_of-found name at (sym is)))
    ∙ ap (λ (t : List ℕ). flags_text (flags_of (info_by (Some t)))) (sym (take_rest name (at + 1)))

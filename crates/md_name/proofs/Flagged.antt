-- The parts of a name that was made of a unique name and flags, and the one spelling of a set.
use Rattle.std.proofs.Common.{◌≡◌, ℕ, zero, suc, ◌+◌, Bool, true, false, not, cond, ◌||◌, ◌&&◌, List, [], ◌∷◌, ◌++◌, length, take, drop, None, Some, refl, sym, ap, ◌∙◌, ◌≤◌, arith, append_assoc, length-append}
use Rattle.std.specs.Prelude.{nat_lt, nat_eq, codes, filter}
use Rattle.std.specs.List.{All, list_any, list_all, position_or_len, before_first, after_first}
use Rattle.std.specs.Cmp.{nat_cmp_total}
use Rattle.std.specs.FinSet as set
use Rattle.std.proofs.lemmas.Bool.{not-true, eqb-true, and_parts, or_parts, or_from}
use Rattle.std.proofs.lemmas.Bool.Decides.{nat_tests}
use Rattle.std.proofs.lemmas.List.{take_all, take_at, drop_at, drop-drop}
use Rattle.std.proofs.lemmas.Grind.{common_steps}
use Rattle.std.proofs.lemmas.List.Folds.{list_any-append, list_any_none}
use Rattle.std.proofs.lemmas.List.Sums.{length-filter, count_by-le-length, fails_before_first}
use Rattle.std.proofs.lemmas.Map.Views.{any-filter_same}
use Rattle.std.proofs.Math.Bool.{or-false}
use Rattle.md_name.specs.declared.info.Info.TheVariants.{Bare, Two, Opaque}
use Rattle.md_name.specs.Letters.{is_letter, letters, Set, IsOfLetters, spelling}
use Rattle.md_name.specs.WordSets.{list_any-letters}
use Rattle.md_name.specs.Names.{is_colon, is_terminator, is_slash, begins_with_dot, unique_of, info_text, info_by, info_of, is_message_name, split_of, flagged, is_maildir_unique}
use Rattle.md_name.proofs.Digits.{and_first, and_second}
use Rattle.md_name.proofs.Firsts.{any_by_place}

-- ---- the spelling of a set

all_of_filter : (p q : ℕ → Bool) (xs : List ℕ) → list_all p xs ≡ true → list_all p (filter q xs) ≡ true
all_of_filter p q [] h = refl
all_of_filter p q (x ∷ xs) h =
    let rest = all_of_filter p q xs (and_second (p x) (list_all p xs) h) in
    elim (q x) as (λ b. list_all p (cond b (x ∷ filter q xs) (filter q xs)) ≡ true) [
      | true ↦ ap (λ b. b && list_all p (filter q xs)) (and_first (p x) (list_all p xs) h) ∙ rest
      | false ↦ rest
    ]

all_letters : list_all is_letter letters ≡ true
unfolding letters
all_letters = refl

pub list_all-spelling : (s : Set) → list_all is_letter (spelling s) ≡ true
unfolding spelling
list_all-spelling s = all_of_filter is_letter (λ c. set.contains s c) letters all_letters

any_of_filter : (q : ℕ → Bool) (c : ℕ) (xs : List ℕ) → list_any (λ y. nat_eq y c) (filter q xs) ≡ (q c && list_any (λ y. nat_eq y c) xs)
any_of_filter q c = any-filter_same (λ y. nat_eq y c) q (q c) (λ k is. ap q (eqb-true k c is))

kept : (a b : Bool) → (a ≡ true → b ≡ true) → (a && b) ≡ a
kept true b h = h refl
kept false b h = refl

-- the letters of a set's spelling are the set
pub from_list-spelling : (s : Set) → IsOfLetters s → set.from_list (spelling s) ≡ s
unfolding spelling
from_list-spelling s h = set.same_set nat_cmp_total set.nat_cmp-IsAntisymmetric _ _ (λ c.
    set.contains-from_list_nat (spelling s) c ∙ any_of_filter (λ x. set.contains s x) c letters
    ∙ ap (λ b. set.contains s c && b) (list_any-letters c) ∙ kept (set.contains s c) (is_letter c) (h.each c))

pub spelling_tells : (s t : Set) → IsOfLetters s → IsOfLetters t → spelling s ≡ spelling t → s ≡ t
spelling_tells s t hs ht same = sym (from_list-spelling s hs) ∙ ap set.from_list same ∙ from_list-spelling t ht

-- ---- a name that goes on with a colon

place_after : (u rest : List ℕ) → list_any is_colon u ≡ false → position_or_len is_colon (u ++ 58 ∷ rest) ≡ length u
place_after [] rest h = refl
place_after (b ∷ u) rest h =
    let parts = or_parts (is_colon b) (list_any is_colon u) h in
    let place = place_after u rest parts.1 in
    ap (λ t. cond (not t) (1 + position_or_len is_colon (u ++ 58 ∷ rest)) 0) parts.0 ∙ omega arith

before_colon : (u rest : List ℕ) → list_any is_colon u ≡ false → before_first is_colon (u ++ 58 ∷ rest) ≡ u
before_colon u rest h = ap (λ n. take n (u ++ 58 ∷ rest)) (place_after u rest h) ∙ take_at u (58 ∷ rest) (length u) refl

after_colon : (u rest : List ℕ) → list_any is_colon u ≡ false → after_first is_colon (u ++ 58 ∷ rest) ≡ rest
after_colon u rest h =
    ap (λ n. drop (n + 1) (u ++ 58 ∷ rest)) (place_after u rest h)
    ∙ sym (drop-drop 1 (length u) (u ++ 58 ∷ rest)) ∙ ap (drop 1) (drop_at u (58 ∷ rest) (length u) refl)

any_colon : (u rest : List ℕ) → list_any is_colon u ≡ false → list_any is_colon (u ++ 58 ∷ rest) ≡ true
any_colon u rest h = list_any-append is_colon u (58 ∷ rest) ∙ ap (λ b. b || true) h

info_after : (u rest : List ℕ) → list_any is_colon u ≡ false → info_text (u ++ 58 ∷ rest) ≡ Some rest
unfolding info_text
info_after u rest h =
    ap (λ b. cond b (Some (after_first is_colon (u ++ 58 ∷ rest))) None) (any_colon u rest h) ∙ ap Some (after_colon u rest h)

unique_before : (u rest : List ℕ) → list_any is_colon u ≡ false → unique_of (u ++ 58 ∷ rest) ≡ u
unfolding unique_of
unique_before u rest h = before_colon u rest h

-- ---- a name with flags

flags_text : (s : Set) → IsOfLetters s → info_by (Some (50 ∷ 44 ∷ spelling s)) ≡ Two s
unfolding info_by
flags_text s h =
    ap (λ b. cond b (Two (set.from_list (spelling s))) Opaque) (list_all-spelling s) ∙ ap Two (from_list-spelling s h)

colon_first : (u : List ℕ) (s : Set) → flagged u s ≡ u ++ 58 ∷ 50 ∷ 44 ∷ spelling s
unfolding flagged
colon_first u s = append_assoc u (codes ":2,") (spelling s)

pub unique_of-flagged : (u : List ℕ) (s : Set) → list_any is_colon u ≡ false → unique_of (flagged u s) ≡ u
unique_of-flagged u s h = ap unique_of (colon_first u s) ∙ unique_before u (50 ∷ 44 ∷ spelling s) h

pub info_of-flagged : (u : List ℕ) (s : Set) → list_any is_colon u ≡ false → IsOfLetters s → info_of (flagged u s) ≡ Two s
info_of-flagged u s h of_letters =
    ap info_of (colon_first u s) ∙ ap info_by (info_after u (50 ∷ 44 ∷ spelling s) h) ∙ flags_text s of_letters

no_dot : (u rest : List ℕ) → nat_lt 0 (length u) ≡ true → begins_with_dot u ≡ false → begins_with_dot (u ++ rest) ≡ false
no_dot [] rest some h = cc
no_dot (b ∷ u) rest some h = h

message_name : (dot some : Bool) → dot ≡ false → some ≡ true → (not dot && some) ≡ true
message_name dot some hd hs = ap (λ t. not t && some) hd ∙ hs

-- what a unique part has, of which a message's name can be made
pub record IsUniquePart (u : List ℕ) : Type 0 where
  pub some : nat_lt 0 (length u) ≡ true
  pub dotless : begins_with_dot u ≡ false
  pub colonless : list_any is_colon u ≡ false

pub IsUniquePart-maildir : (u : List ℕ) → is_maildir_unique u ≡ true → IsUniquePart u
unfolding is_maildir_unique
IsUniquePart-maildir u h =
    let clean = and_first _ _ h in
    let shown = and_first _ _ clean in
    record { some = and_first _ _ shown; dotless = not-true _ (and_second _ _ shown); colonless = not-true _ (and_second _ _ clean) }

colonless_before : (name : List ℕ) → list_any is_colon (before_first is_colon name) ≡ false
colonless_before name =
    let front : All (λ b. is_colon b ≡ false) (before_first is_colon name) = λ k d within.
    let before = fails_before_first is_colon name k d (grind (arith, common_steps)) in grind (arith, common_steps) in
    list_any_none is_colon (before_first is_colon name) front

-- a unique part has no colon
pub colonless-unique_of : (name : List ℕ) → list_any is_colon (unique_of name) ≡ false
unfolding unique_of
colonless-unique_of name = colonless_before name

dotless_front : (n : ℕ) (name : List ℕ) → begins_with_dot name ≡ false → begins_with_dot (take n name) ≡ false
dotless_front zero name h = refl
dotless_front (suc n) [] h = refl
dotless_front (suc n) (b ∷ name) h = h

-- the unique part of a message's name
pub IsUniquePart-unique_of : (name : List ℕ) → is_message_name name ≡ true → IsUniquePart (unique_of name)
unfolding is_message_name unique_of
IsUniquePart-unique_of name h = record {
  some = and_second _ _ h;
  dotless = dotless_front _ name (not-true _ (and_first _ _ h));
  colonless = colonless_before name;
}

pub is_message_name-flagged : (u : List ℕ) (s : Set) → IsUniquePart u → is_message_name (flagged u s) ≡ true
unfolding is_message_name
is_message_name-flagged u s h =
    message_name _ _ (ap begins_with_dot (colon_first u s) ∙ no_dot u _ h.some h.dotless)
    (ap (λ t. nat_lt 0 (length t)) (unique_of-flagged u s h.colonless) ∙ h.some)

pub split_of-flagged : (u : List ℕ) (s : Set) → IsUniquePart u → IsOfLetters s → split_of (flagged u s) ≡ Some (u, Two s)
split_of-flagged u s h of_letters =
    ap (λ b. cond b (Some (unique_of (flagged u s), info_of (flagged u s))) None) (is_message_name-flagged u s h)
    ∙ (λ i. Some (unique_of-flagged u s h.colonless i, info_of-flagged u s h.colonless of_letters i))

-- ---- a name without info

unique_of-bare : (u : List ℕ) → list_any is_colon u ≡ false → unique_of u ≡ u
unfolding unique_of
unique_of-bare u h = take_all (position_or_len is_colon u) u (let place = any_by_place is_colon u in grind (arith, nat_tests))

info_of-bare : (u : List ℕ) → list_any is_colon u ≡ false → info_of u ≡ Bare
unfolding info_text info_by
info_of-bare u h = ap (λ b. info_by (cond b (Some (after_first is_colon u)) None)) h

pub split_of-bare : (u : List ℕ) → IsUniquePart u → split_of u ≡ Some (u, Bare)
unfolding is_message_name
split_of-bare u h =
    ap (λ b. cond b (Some (unique_of u, info_of u)) None)
    (message_name _ _ h.dotless (ap (λ t. nat_lt 0 (length t)) (unique_of-bare u h.colonless) ∙ h.some))
    ∙ (λ i. Some (unique_of-bare u h.colonless i, info_of-bare u h.colonless i))

-- ---- how long a name is

length-letters : length letters ≡ 52
unfolding letters
length-letters = refl

pub length-spelling-le : (s : Set) → length (spelling s) ≤ 52
unfolding spelling
length-spelling-le s =
    let among : ℕ → Bool = λ c. set.contains s c in
    omega (arith, length-filter among letters, count_by-le-length among letters, length-letters)

pub length-flagged-le : (u : List ℕ) (s : Set) → length (flagged u s) ≤ length u + 55
length-flagged-le u s =
    rw (colon_first u s) (omega (arith, length-append u (58 ∷ 50 ∷ 44 ∷ spelling s), length-spelling-le s))

-- ---- which bytes a name has

pub none_of_letters : (p : ℕ → Bool) → ((c : ℕ) → is_letter c ≡ true → p c ≡ false) → (xs : List ℕ) → list_all is_letter xs ≡ true → list_any p xs ≡ false
none_of_letters p none [] h = refl
none_of_letters p none (x ∷ xs) h =
    let parts = and_parts (is_letter x) (list_all is_letter xs) h in or_from _ _ (none x parts.0) (none_of_letters p none xs parts.1)

-- a byte that flags never bring is in the name just where it's in the unique name
pub list_any-flagged : (p : ℕ → Bool) → ((c : ℕ) → is_letter c ≡ true → p c ≡ false) → (p 58 || (p 50 || p 44)) ≡ false
    → (u : List ℕ) (s : Set) → list_any p (flagged u s) ≡ list_any p u
list_any-flagged p none marks u s =
    let colon = or_parts (p 58) (p 50 || p 44) marks in
    let two = or_parts (p 50) (p 44) colon.1 in
    let behind : list_any p (58 ∷ 50 ∷ 44 ∷ spelling s) ≡ false =
    or_from _ _ colon.0 (or_from _ _ two.0 (or_from _ _ two.1 (none_of_letters p none (spelling s) (list_all-spelling s)))) in
    ap (list_any p) (colon_first u s) ∙ list_any-append p u (58 ∷ 50 ∷ 44 ∷ spelling s) ∙ ap (λ b. list_any p u || b) behind ∙ or-false (list_any p u)

pub slash-flagged : (u : List ℕ) (s : Set) → list_any is_slash (flagged u s) ≡ list_any is_slash u
slash-flagged = list_any-flagged is_slash (λ c letter. grind (arith, nat_tests)) refl

pub terminator-flagged : (u : List ℕ) (s : Set) → list_any is_terminator (flagged u s) ≡ list_any is_terminator u
terminator-flagged = list_any-flagged is_terminator (λ c letter. grind (arith, nat_tests)) refl

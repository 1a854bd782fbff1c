-- Unique parts of names, and that names of one unique part, each with a colon, compare alike with any other name.
use Rattle.std.proofs.Common.{ℕ, zero, suc, ◌≡◌, ◌≢◌, ◌+◌, ◌==◌, ◌<◌, ◌≤◌, min, ◌++◌, ◌||◌, List, [], ◌∷◌, Bool, true, false, cond, not, length, take, nat_lt, refl, sym, ap, subst, ◌∙◌, arith}
use Rattle.std.proofs.lemmas.Bool.Decides.{Decides-eqb, Decides-ltb}
use Rattle.std.proofs.lemmas.List.{length-take}
use Rattle.std.specs.List.{list_any, position_or_len}
use Rattle.std.specs.declared.cmp.Ordering.{Ordering}
use Rattle.std.specs.declared.cmp.Ordering.TheVariants.{Less, Equal, Greater}
use Rattle.std.specs.Ordering.{nat_cmp, ordering_then, ordering_reverse}
use Rattle.md_name.specs.Names.{unique_of, is_colon}
use Rattle.md_name.proofs.Flagged.{colonless-unique_of}
use Rattle.md_dirs.specs.Index.{name_cmp}
use Rattle.md_dirs.proofs.NameRows.{name_total}

take-length : (n : ℕ) (xs : List ℕ) → take (length (take n xs)) xs ≡ take n xs
take-length zero [] = refl
take-length zero (x ∷ xs) = refl
take-length (suc n) [] = refl
take-length (suc n) (x ∷ xs) = ap (λ ys. x ∷ ys) (take-length n xs)

-- the unique part is the front of a name
pub take-unique : (name : List ℕ) → take (length (unique_of name)) name ≡ unique_of name
unfolding unique_of
take-unique name = take-length (position_or_len is_colon name) name

-- so it is no longer than that
pub unique-le : (name : List ℕ) → length (unique_of name) ≤ length name
unique-le name =
    let n = length (unique_of name) in
    let short : n ≡ min n (length name) = ap length (sym (take-unique name)) ∙ length-take n name in
    grind (arith, short)

one_of : (n : ℕ) → 1 + n ≡ suc n
one_of n = omega arith

pub unique-cons : (c : ℕ) (w : List ℕ) → is_colon c ≡ false → unique_of (c ∷ w) ≡ c ∷ unique_of w
unfolding unique_of
unique-cons c w h =
    ap (λ t. take (cond (not t) (1 + position_or_len is_colon w) 0) (c ∷ w)) h ∙ ap (λ n. take n (c ∷ w)) (one_of (position_or_len is_colon w))

pub unique-stop : (c : ℕ) (w : List ℕ) → is_colon c ≡ true → unique_of (c ∷ w) ≡ []
unfolding unique_of
unique-stop c w h = ap (λ t. take (cond (not t) (1 + position_or_len is_colon w) 0) (c ∷ w)) h

pub unique-none : unique_of [] ≡ []
unfolding unique_of
unique-none = refl

-- a name without a colon is its unique part
pub bare : (a : List ℕ) → list_any is_colon a ≡ false → unique_of a ≡ a
bare [] h = unique-none
bare (c ∷ a) h = elim (is_colon c) as (λ b. is_colon c ≡ b → (b || list_any is_colon a) ≡ false → unique_of (c ∷ a) ≡ c ∷ a) [
  | true ↦ λ t is. cc
  | false ↦ λ t is. unique-cons c a t ∙ ap (λ ys. c ∷ ys) (bare a is)
] refl h

-- a name with a colon is its unique part, the colon and more
parted : (a : List ℕ) → list_any is_colon a ≡ true → (r : List ℕ) × (a ≡ unique_of a ++ 58 ∷ r)
parted [] h = cc
parted (c ∷ a) h = elim (is_colon c) as (λ b. is_colon c ≡ b → (b || list_any is_colon a) ≡ true → (r : List ℕ) × (c ∷ a ≡ unique_of (c ∷ a) ++ 58 ∷ r)) [
  | true ↦ λ t is. (a, (λ i. (Decides-eqb c 58).0 t i ∷ a) ∙ ap (λ u. u ++ 58 ∷ a) (sym (unique-stop c a t)))
  | false ↦ λ t is.
      let rest = parted a is in
      (rest.0, ap (λ ys. c ∷ ys) rest.1 ∙ ap (λ u. u ++ 58 ∷ rest.0) (sym (unique-cons c a t)))
] refl h

decided : (c x : ℕ) (p q : Ordering) → (c == x) ≡ false → ordering_then (nat_cmp c x) p ≡ ordering_then (nat_cmp c x) q
decided c x p q h = by (nat_lt c x) (c == x) h
  where
    by : (s t : Bool) → t ≡ false → ordering_then (cond s Less (cond t Equal Greater)) p ≡ ordering_then (cond s Less (cond t Equal Greater)) q
    by true t e = refl
    by false true e = cc
    by false false e = refl

beside : (w u r s : List ℕ) → list_any is_colon u ≡ false → unique_of w ≢ u → name_cmp w (u ++ 58 ∷ r) ≡ name_cmp w (u ++ 58 ∷ s)
beside [] [] r s h differs = refl
beside [] (x ∷ u) r s h differs = refl
beside (c ∷ w) [] r s h differs = elim (is_colon c) as (λ b. is_colon c ≡ b → name_cmp (c ∷ w) (58 ∷ r) ≡ name_cmp (c ∷ w) (58 ∷ s)) [
  | true ↦ λ t. absurd (differs (unique-stop c w t))
  | false ↦ λ t. decided c 58 (name_cmp w r) (name_cmp w s) t
] refl
beside (c ∷ w) (x ∷ u) r s h differs =
    elim (c == x) as (λ b. (c == x) ≡ b → name_cmp (c ∷ w) (x ∷ u ++ 58 ∷ r) ≡ name_cmp (c ∷ w) (x ∷ u ++ 58 ∷ s)) [
      | true ↦ λ t.
          let one : c ≡ x = (Decides-eqb c x).0 t in
          let parts = none-of (is_colon x) (list_any is_colon u) h in
          ap (ordering_then (nat_cmp c x)) (beside w u r s parts.1
          (λ rest. differs (unique-cons c w (ap is_colon one ∙ parts.0) ∙ (λ i. one i ∷ rest i))))
      | false ↦ λ t. decided c x (name_cmp w (u ++ 58 ∷ r)) (name_cmp w (u ++ 58 ∷ s)) t
    ] refl
  where
    none-of : (a b : Bool) → (a || b) ≡ false → (a ≡ false) × (b ≡ false)
    none-of true b e = cc
    none-of false b e = (refl, e)

pub compared : (w a b : List ℕ) → unique_of a ≡ unique_of b → list_any is_colon a ≡ true → list_any is_colon b ≡ true → unique_of w ≢ unique_of a →
    (name_cmp w a ≡ name_cmp w b) × (name_cmp a w ≡ name_cmp b w)
compared w a b alike has has' differs =
    let p = parted a has in
    let q = parted b has' in
    let up : name_cmp w a ≡ name_cmp w b =
    ap (name_cmp w) p.1 ∙ beside w (unique_of a) p.0 q.0 (colonless-unique_of a) differs
    ∙ sym (ap (name_cmp w) (q.1 ∙ ap (λ u. u ++ 58 ∷ q.0) (sym alike))) in
    (up, name_total.antisymm a w ∙ ap ordering_reverse up ∙ sym (name_total.antisymm b w))

longer : (u r : List ℕ) → length u < length (u ++ 58 ∷ r)
longer [] r = omega arith
longer (x ∷ u) r = let rest = longer u r in omega (arith, rest)

-- a name is longer than its unique part where it has a colon
pub told : (name : List ℕ) → nat_lt (length (unique_of name)) (length name) ≡ list_any is_colon name
told name = elim (list_any is_colon name) as (λ b. list_any is_colon name ≡ b → nat_lt (length (unique_of name)) (length name) ≡ b) [
  | true ↦ λ t.
      let p = parted name t in
      (Decides-ltb (length (unique_of name)) (length name)).1
      (subst (λ (ys : List ℕ). length (unique_of name) < length ys) (sym p.1) (longer (unique_of name) p.0))
  | false ↦ λ t. ap (λ (ys : List ℕ). nat_lt (length ys) (length name)) (bare name t) ∙ itself (length name)
] refl
  where
    itself : (n : ℕ) → nat_lt n n ≡ false
    itself n = elim (nat_lt n n) as (λ b. nat_lt n n ≡ b → b ≡ false) [
      | true ↦ λ t. absurd (let lt = (Decides-ltb n n).0 t in omega (arith, lt))
      | false ↦ λ t. refl
    ] refl

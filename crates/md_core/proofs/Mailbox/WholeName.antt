-- A file name is its unique part and its info again.
use Rattle.std.proofs.Common.{ℕ, suc, ◌≡◌, ◌+◌, ◌++◌, ◌||◌, List, [], ◌∷◌, Some, None, Bool, true, false, cond, not, take, drop, refl, ap, ◌∙◌, arith}
use Rattle.std.proofs.lemmas.Bool.Decides.{nat_tests}
use Rattle.md_core.proofs.Values.{before_first, after_first, list_any, position_or_len, name_of}
use Rattle.md_name.specs.Names.{is_colon, unique_of, info_text}

colon : (c : ℕ) → is_colon c ≡ true → 58 ≡ c
colon c is = grind (arith, nat_tests)

-- how far the first colon is, and the lists before and after it
module _ (c : ℕ) (cs : List ℕ) where
  first : (b : Bool) → is_colon c ≡ b → position_or_len is_colon (c ∷ cs) ≡ cond b 0 (suc (position_or_len is_colon cs))
  first true t = ap (λ b. cond (not b) (1 + position_or_len is_colon cs) 0) t
  first false t = let e : 1 + position_or_len is_colon cs ≡ suc (position_or_len is_colon cs) =
      omega arith in ap (λ b. cond (not b) (1 + position_or_len is_colon cs) 0) t ∙ e

  pub before : (b : Bool) → is_colon c ≡ b → before_first is_colon (c ∷ cs) ≡ cond b [] (c ∷ before_first is_colon cs)
  before true t = ap (λ n. take n (c ∷ cs)) (first true t)
  before false t = ap (λ n. take n (c ∷ cs)) (first false t)

  pub after : (b : Bool) → is_colon c ≡ b → after_first is_colon (c ∷ cs) ≡ cond b cs (after_first is_colon cs)
  after true t = ap (λ n. drop (n + 1) (c ∷ cs)) (first true t)
  after false t =
      let n = position_or_len is_colon cs in
      let e : suc n + 1 ≡ suc (n + 1) = omega arith in
      ap (λ m. drop (m + 1) (c ∷ cs)) (first false t) ∙ ap (λ m. drop m (c ∷ cs)) e

without : (name : List ℕ) → list_any is_colon name ≡ false → before_first is_colon name ≡ name
without [] is = refl
without (c ∷ cs) is = by (is_colon c) refl is (without cs)
  where
    by : (b : Bool) → is_colon c ≡ b → (b || list_any is_colon cs) ≡ false → (list_any is_colon cs ≡ false → before_first is_colon cs ≡ cs) →
        before_first is_colon (c ∷ cs) ≡ c ∷ cs
    by true t h later = cc
    by false t h later = before c cs false t ∙ ap (λ xs. c ∷ xs) (later h)

with : (name : List ℕ) → list_any is_colon name ≡ true → before_first is_colon name ++ 58 ∷ after_first is_colon name ≡ name
with [] is = cc
with (c ∷ cs) is = by (is_colon c) refl is (with cs)
  where
    by : (b : Bool) → is_colon c ≡ b → (b || list_any is_colon cs) ≡ true →
        (list_any is_colon cs ≡ true → before_first is_colon cs ++ 58 ∷ after_first is_colon cs ≡ cs) →
        before_first is_colon (c ∷ cs) ++ 58 ∷ after_first is_colon (c ∷ cs) ≡ c ∷ cs
    by true t h later = (λ i. before c cs true t i ++ 58 ∷ after c cs true t i) ∙ ap (λ x. x ∷ cs) (colon c t)
    by false t h later = (λ i. before c cs false t i ++ 58 ∷ after c cs false t i) ∙ ap (λ xs. c ∷ xs) (later h)

pub whole-name : (name : List ℕ) → name_of (unique_of name) (info_text name) ≡ name
unfolding unique_of info_text
whole-name name = by (list_any is_colon name) refl
  where
    by : (b : Bool) → list_any is_colon name ≡ b → name_of (unique_of name) (cond b (Some (after_first is_colon name)) None) ≡ name
    by true is = with name is
    by false is = without name is

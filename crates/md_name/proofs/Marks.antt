-- From the marks of a block to the places of the bytes that are looked for.
use Rattle.std.proofs.Common.{◌≡◌, ◌∙◌, ℕ, ◌+◌, ◌*◌, ◌%◌, ◌^◌, ◌<◌, ◌≤◌, Bool, true, false, not, cond, List, [], ◌∷◌, map, length, Option, None, Some, refl, sym, ap, ap₂, inl, inr, arith, w8, Fits}
use Rattle.std.proofs.lemmas.Bool.{false_from_ne_true, agree_below, agree_below_at, cases_lt}
use Rattle.std.proofs.lemmas.List.{length-map}
use Rattle.std.proofs.lemmas.List.Elements.{All-from_get_or}
use Rattle.std.proofs.lemmas.List.Folds.{list_any_none, list_any_at}
use Rattle.std.proofs.lemmas.List.Sums.{prefix_len-le-length}
use Rattle.std.proofs.lemmas.Simd.{map-map, mask_l-mod, length-chunk, none_from_empty_mask, run_in_chunk_fails, run_in_chunk_stops, trailing_mask_l}
use Rattle.std.specs.List.{list_any, prefix_len}
use Rattle.std.specs.Option.{is_some}
use lib.Count.{count_trailing_zeros}
use lib.Lanes.{Each1, chunk, mask_l, top}
use Rattle.memchr.specs.Find.{IsFirstByte, Nowhere, NoneBefore, Passes}

-- a mask that is computed lane by lane, held to a test at each of the 256 bytes
module _ (f : ℕ → ℕ) (p : ℕ → Bool) (all : agree_below (λ x. top 7 (f x)) p 256 ≡ true) where
  each_byte : (v : List ℕ) → Each1 (Fits w8) v → map (λ x. top 7 (f x)) v ≡ map p v
  each_byte [] fit = refl
  each_byte (x ∷ v) fit = ap₂ (λ b bs. b ∷ bs) (agree_below_at (λ x. top 7 (f x)) p 256 x all fit.0.fits) (each_byte v fit.1)

  pub masked : (v z : List ℕ) → (length v ≡ 16) × Each1 (Fits w8) v → z ≡ map f v
      → mask_l (map (top 7) z) % 2 ^ 64 ≡ mask_l (map p v)
  masked v z fit is =
      ap (λ bs. mask_l bs % 2 ^ 64) (ap (map (top 7)) is ∙ map-map (top 7) f v ∙ each_byte v fit.1)
      ∙ mask_l-mod (map p v) 64 (omega (arith, length-map v p, fit.0))

-- no mark, and the lowest
none_fails : (b : Bool) (n most m : ℕ) → n ≤ most → cond (not b) (1 + n) 0 ≡ 1 + most → (n ≡ most → m ≡ 0) → cond b 1 0 + 2 * m ≡ 0
none_fails true n most m le is rest = let no : ⊥ = omega arith in absurd no
none_fails false n most m le is rest = let none = rest (omega arith) in omega arith

module _ (p : ℕ → Bool) where
  unmarked : (v : List ℕ) → prefix_len (λ x. not (p x)) v ≡ length v → mask_l (map p v) ≡ 0
  unmarked [] is = refl
  unmarked (x ∷ v) is = none_fails (p x) _ (length v) _ (prefix_len-le-length (λ y. not (p y)) v) (omega arith) (unmarked v)

  pub none_marked : (bytes : List ℕ) (at : ℕ) → at + 16 ≤ length bytes → mask_l (map p (chunk at 16 bytes)) ≡ 0
      → Nowhere (Passes p bytes) at (at + 16)
  none_marked bytes at room none k low high passes = let not_here = none_from_empty_mask p bytes at 16 0 room none k low high in cc

  pub first_marked : (bytes : List ℕ) (at low : ℕ) → at + 16 ≤ length bytes → 0 < mask_l (map p (chunk at 16 bytes))
      → low ≡ count_trailing_zeros 64 (mask_l (map p (chunk at 16 bytes)))
      → NoneBefore (Passes p bytes) at (at + 16) (at + low) × Passes p bytes (at + low)
  first_marked bytes at low room some is =
      let v = chunk at 16 bytes in
      let long : length v ≡ 16 = length-chunk at 16 bytes room in
      let counted : low ≡ prefix_len (λ x. not (p x)) v = is ∙ trailing_mask_l p 64 v (omega (arith, long)) some in
      let most = prefix_len-le-length (λ x. not (p x)) v in
      let within : low < 16 = elim (cases_lt low 16) [
        | inl l ↦ l
        | inr ge ↦ let none = unmarked v (omega (arith, counted, long, most, ge)) in absurd (omega (arith, some, none))
      ] in (
        record {
          low = omega arith;
          high = omega (arith, within);
          before = λ k from to passes. let not_here = run_in_chunk_fails p bytes at 16 low 0 room counted k from to in cc;
        },
        run_in_chunk_stops p bytes at 16 low 0 room counted within,
      )

-- whether there is a first
pub told : (p : ℕ → Bool) (bytes : List ℕ) (place : Option ℕ) → IsFirstByte p bytes place → is_some place ≡ list_any p bytes
told p bytes None none =
    sym (list_any_none p bytes (All-from_get_or (λ x. p x ≡ false) bytes 0 (λ k within. false_from_ne_true _ (none k (omega arith) within))))
told p bytes (Some at) found = sym (list_any_at p bytes at 0 found.0.high found.1)

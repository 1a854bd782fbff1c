-- Marks of a text, the bytes that pass a test, as an iterator gives their places one after another.
use Rattle.std.proofs.Common.{◌≡◌, ◌≢◌, ℕ, zero, suc, ◌+◌, ◌-◌, ◌<◌, ◌≤◌, Bool, true, false, cond, List, [], ◌∷◌, length, get_or, drop, refl, sym, ap, subst, ◌∙◌, eqb, arith}
use Rattle.std.proofs.lemmas.Bool.{eq-eqb, eqb-true}
use Rattle.std.proofs.lemmas.List.{get_or-drop, length-drop}
use Rattle.memchr.specs.Find.{Nowhere, NoneBefore, Passes, places_from}

pub split : (b n : ℕ) (P : Type 0) → (b ≡ n → P) → (b ≢ n → P) → P
split b n P same other =
    let cases : (t : Bool) → eqb b n ≡ t → P =
    λ t. elim t as (λ t. eqb b n ≡ t → P) [ true ↦ λ e. same (eqb-true b n e) | false ↦ λ e. other (λ is. let t = eq-eqb b n is in cc) ] in
    cases (eqb b n) refl

-- the next mark of a text from a place on, and the places of those behind it
pub record Next (test : ℕ → Bool) (text : List ℕ) (i at : ℕ) (rest : List ℕ) : Type 0 where
  pub low : i ≤ at
  pub high : at < length text
  pub passes : Passes test text at
  pub before : Nowhere (Passes test text) i at
  pub marks : rest ≡ places_from test text (at + 1) (length text - (at + 1))

module _ (test : ℕ → Bool) (text : List ℕ) where
  none_first : (i n : ℕ) → test (get_or text i 0) ≡ false → Nowhere (Passes test text) (i + 1) n → Nowhere (Passes test text) i n
  none_first i n other later k low high =
      split k i (¬ Passes test text k) (λ e. subst (λ j. ¬ Passes test text j) (sym e) (λ p. cc)) (λ ne. later k (omega (arith, low, ne)) high)

  pub next_mark : (i n at : ℕ) (rest : List ℕ) → i + n ≡ length text → places_from test text i n ≡ at ∷ rest → Next test text i at rest
  unfolding places_from
  next_mark i zero at rest whole is = cc
  next_mark i (suc n) at rest whole is =
      let left : n ≡ length text - (i + 1) = omega (arith, whole) in
      elim (test (get_or text i 0)) as (λ b. test (get_or text i 0) ≡ b
      → cond b (i ∷ places_from test text (i + 1) n) (places_from test text (i + 1) n) ≡ at ∷ rest → Next test text i at rest) [
        | true ↦ λ passes same.
            let here : i ≡ at = ap (λ xs. get_or xs 0 0) same in
            subst (λ k. Next test text i k rest) here (record {
              low = omega arith;
              high = omega (arith, whole);
              passes = passes;
              before = λ k low high. absurd (omega (arith, low, high));
              marks = sym (ap (drop 1) same) ∙ ap (places_from test text (i + 1)) left;
            })
        | false ↦ λ other same.
            let next = next_mark (i + 1) n at rest (omega (arith, whole)) same in record {
              low = omega (arith, next.low);
              high = next.high;
              passes = next.passes;
              before = none_first i at other next.before;
              marks = next.marks;
            }
      ] refl is

  no_mark : (i n : ℕ) → i + n ≡ length text → places_from test text i n ≡ [] → Nowhere (Passes test text) i (length text)
  unfolding places_from
  no_mark i zero whole is = λ k low high. absurd (omega (arith, whole, low, high))
  no_mark i (suc n) whole is =
      elim (test (get_or text i 0)) as (λ b. test (get_or text i 0) ≡ b
      → cond b (i ∷ places_from test text (i + 1) n) (places_from test text (i + 1) n) ≡ [] → Nowhere (Passes test text) i (length text)) [
        | true ↦ λ passes same. cc
        | false ↦ λ other same. none_first i (length text) other (no_mark (i + 1) n (omega (arith, whole)) same)
      ] refl is

  -- the same of what is left of the text from a later place on
  pub found_in : (i done at : ℕ) (rest : List ℕ) → Next test text i at rest → i ≤ done → done ≤ at
      → NoneBefore (Passes test (drop done text)) 0 (length (drop done text)) (at - done) × Passes test (drop done text) (at - done)
  found_in i done at rest next low from =
      let long = length-drop done text in
      let place : done + (at - done) ≡ at = omega (arith, from) in (
        record {
          low = omega arith;
          high = omega (arith, long, from, next.high);
          before = λ k start end p. next.before (done + k) (omega (arith, low)) (omega (arith, end)) (ap test (sym (get_or-drop done text k 0)) ∙ p);
        },
        ap test (get_or-drop done text (at - done) 0 ∙ ap (λ k. get_or text k 0) place) ∙ next.passes,
      )

  pub none_in : (i n done : ℕ) → i + n ≡ length text → places_from test text i n ≡ [] → i ≤ done → done ≤ length text
      → Nowhere (Passes test (drop done text)) 0 (length (drop done text))
  none_in i n done whole is low within =
      let none = no_mark i n whole is in
      let long = length-drop done text in
      λ k start end p. none (done + k) (omega (arith, low)) (omega (arith, long, end, within)) (ap test (sym (get_or-drop done text k 0)) ∙ p)

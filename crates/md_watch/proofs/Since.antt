-- What was so since a moment, after one step more.
use Rattle.std.proofs.Common.{ℕ, ◌≡◌, ◌+◌, ◌≤◌, ◌&&◌, ◌||◌, cond, List, [], ◌∷◌, Option, Some, None, Bool, true, false, not, nat_le, is_some, refl, sym, ap, ◌∙◌, arith}
use Rattle.std.specs.Prelude.{unwrap_or}
use Rattle.std.specs.List.{list_all, list_any}
use Rattle.std.proofs.lemmas.Bool.{leb-true}
use Rattle.std.proofs.Math.Bool.{or-false}
use Rattle.md_monitor.specs.Files.{is_some_and}
use Rattle.md_watch.specs.declared.spells.Spell.{Spell}
use Rattle.md_watch.specs.Spells.{IsTimely, Passes, always_by, ever_by}
use Rattle.md_watch.specs.Claims.{IsBefore}
use Rattle.md_watch.proofs.Spelling.{always-here, always-next, always-stays, ever-here, ever-next, timely-next}

gone-still : (is always : Bool) → not (is && always) ≡ (not is || not always)
gone-still true always = refl
gone-still false always = refl

-- a step of a number, before which a thing was there or not, and after which it is there or not
module _ (n : ℕ) (was is : Bool) (o o' : Option Spell) (timely : IsTimely n was o) (passes : Passes was is n o o') where
  pub now-here : always_by is o' (n + 1) (n + 1) ≡ is
  now-here = always-here (n + 1) is o' (timely-next n was is o o' timely passes)

  -- the step is the actor's own, and changes the message or not
  pub gone-own : (changes : Bool) (begun : Option ℕ) → IsBefore (n + 1) begun
      → not (always_by is o' (cond changes (n + 1) (unwrap_or begun (n + 1))) (n + 1))
      ≡ (not is || (not changes && is_some_and begun (λ b. not (always_by was o b n))))
  gone-own true begun before = ap not now-here ∙ sym (or-false (not is))
  gone-own false None before = ap not now-here ∙ sym (or-false (not is))
  gone-own false (Some b) before =
      let now : b ≤ n = omega (arith, before) in
      ap not (always-next n was is o o' timely passes b now) ∙ gone-still is (always_by was o b n)

  ever-now : ever_by is o' (n + 1) ≡ (is || false)
  ever-now = ever-here (n + 1) is o' (timely-next n was is o o' timely passes) ∙ sym (or-false is)

  pub shown-own : (changes : Bool) (begun : Option ℕ) → IsBefore (n + 1) begun
      → ever_by is o' (cond changes (n + 1) (unwrap_or begun (n + 1)))
      ≡ (is || (not changes && is_some_and begun (λ b. ever_by was o b)))
  shown-own true begun before = ever-now
  shown-own false None before = ever-now
  shown-own false (Some b) before = let now : b ≤ n = omega (arith, before) in ever-next n was is o o' timely passes b now

  -- it is another's
  pub gone-other : (begun : Option ℕ) → IsBefore (n + 1) begun
      → is_some_and begun (λ b. not (always_by is o' b (n + 1)))
      ≡ ((is_some begun && not is) || is_some_and begun (λ b. not (always_by was o b n)))
  gone-other None before = refl
  gone-other (Some b) before =
      let now : b ≤ n = omega (arith, before) in
      ap not (always-next n was is o o' timely passes b now) ∙ gone-still is (always_by was o b n)

  pub shown-other : (begun : Option ℕ) → IsBefore (n + 1) begun
      → is_some_and begun (λ b. ever_by is o' b) ≡ ((is_some begun && is) || is_some_and begun (λ b. ever_by was o b))
  shown-other None before = refl
  shown-other (Some b) before = let now : b ≤ n = omega (arith, before) in ever-next n was is o o' timely passes b now

  -- what was so at moments up to now
  pub stays-any : (ts : List ℕ) → list_all (λ t. nat_le t n) ts ≡ true
      → list_any (λ t. always_by is o' t t) ts ≡ list_any (λ t. always_by was o t t) ts
  stays-any [] all = refl
  stays-any (t ∷ ts) all = by (stays-any ts) (nat_le t n) refl all
    where
      by : (list_all (λ k. nat_le k n) ts ≡ true
          → list_any (λ k. always_by is o' k k) ts ≡ list_any (λ k. always_by was o k k) ts)
          → (b : Bool) → nat_le t n ≡ b → (b && list_all (λ k. nat_le k n) ts) ≡ true
          → (always_by is o' t t || list_any (λ k. always_by is o' k k) ts)
          ≡ (always_by was o t t || list_any (λ k. always_by was o k k) ts)
      by others true now rest =
          let low : t ≤ n = leb-true t n now in
          (λ i. always-stays n was is o o' timely passes t t (omega arith) low i || others rest i)
      by others false late none = absurd (cc)

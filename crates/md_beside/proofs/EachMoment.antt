-- What is so at the beginning of a story, and stays so whoever takes a step, is so at each moment.
use Rattle.std.proofs.Common.{ℕ, zero, suc, ◌≡◌, ◌≤◌, List, Some, refl, arith, length}
use Rattle.md_core.proofs.Lists.Places.{at_place}
use Rattle.md_beside.specs.Story.{Story, Step, Who, ours, another, step_at}
use Rattle.md_beside.specs.Beside.{IsStory}

module _ (t : Story) (P : ℕ → Type 0) (start : P zero) where
  pub each-moment : ((k : ℕ) (x : Step) → step_at t k ≡ Some x → P k → P (suc k)) → (k : ℕ) → k ≤ length t.steps → P k
  each-moment next zero low = start
  each-moment next (suc k) low = at_place t.steps k (λ x is. next k x is (each-moment next k (omega (arith, low))))
      (λ past. absurd (omega (arith, low, past)))

-- who takes a step is a job of ours, or another program
pub by-taker : {C : Type 0} (t : Story) → IsStory t → (k : ℕ) (x : Step) → step_at t k ≡ Some x → ((i : ℕ) → x.who ≡ ours (suc i) → C) →
    ((actor : List ℕ) → x.who ≡ another actor → C) → C
by-taker {C = C} t story k x is us others = by x.who refl
  where
    by : (w : Who) → x.who ≡ w → C
    by (ours zero) who = let of = (story.turns k 0 x is who).of in cc
    by (ours (suc i)) who = us i who
    by (another actor) who = others actor who

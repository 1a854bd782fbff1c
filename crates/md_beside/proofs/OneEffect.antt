-- Which effect a job has had, step by step.
use Rattle.std.proofs.Common.{ℕ, suc, ◌≡◌, ◌<◌, inl, inr, Option, Some, None, IfSome, true, is_some, sym, ap, subst, ◌∙◌, arith}
use Rattle.std.proofs.lemmas.Bool.{cases_lt}
use Rattle.std.specs.Option.{option_or}
use Rattle.md_jobs.specs.declared.effect.Effect.{Effect}
use Rattle.md_beside.specs.Story.{Story, Step, ours, step_at}
use Rattle.md_beside.specs.Beside.{IsStepOf}

-- the effect that a job has had before moment k: one step of its own was that, and no other was an effect
abbrev pub HasHad : Story → ℕ → ℕ → Option Effect → Type 0
HasHad t job k None = (i : ℕ) (own : IsStepOf t job i) → i < k → own.step.effect ≡ None
HasHad t job k (Some e) = (i : ℕ) × (own : IsStepOf t job i) × (i < k) × (own.step.effect ≡ Some e)
    × ((j : ℕ) (other : IsStepOf t job j) → j < k → is_some other.step.effect ≡ true → j ≡ i)

module _ (t : Story) (job k : ℕ) where
  pub had-nothing : HasHad t job 0 None
  had-nothing i own low = absurd (omega (arith, low))

  -- what is so of the steps before moment k, and of step k, is so of those before the next moment
  each : {P : (i : ℕ) → IsStepOf t job i → Type 0} → ((i : ℕ) (own : IsStepOf t job i) → i < k → P i own) →
      ((i : ℕ) (own : IsStepOf t job i) → i ≡ k → P i own) → (i : ℕ) (own : IsStepOf t job i) → i < suc k → P i own
  each before now i own low = elim (cases_lt i k) [
    | inl early ↦ before i own early
    | inr late ↦ now i own (omega (arith, low, late))
  ]

  -- a step of another job, or of another program, has none of the job's effects
  pub had-still : (IsStepOf t job k → ⊥) → (o : Option Effect) → HasHad t job k o → HasHad t job (suc k) o
  had-still other None h = each {P = λ i own. own.step.effect ≡ None} h (λ i own same. absurd (other (subst (IsStepOf t job) same own)))
  had-still other (Some e) h = let low = h.2 in (
    h.0,
    h.1,
    omega (arith, low),
    h.3,
    each {P = λ i own. is_some own.step.effect ≡ true → i ≡ h.0} h.4 (λ i own same. absurd (other (subst (IsStepOf t job) same own))),
  )

  module _ (x : Step) (is : step_at t k ≡ Some x) (who : x.who ≡ ours job) where
    -- the step of the number k
    effect-is : (i : ℕ) (own : IsStepOf t job i) → i ≡ k → own.step.effect ≡ x.effect
    effect-is i own same =
        let e : Some own.step ≡ Some x = sym own.at ∙ ap (step_at t) same ∙ is in
        let one : own.step ≡ x = cc in ap (λ (y : Step). y.effect) one

    -- a step of the job without an effect
    without : x.effect ≡ None → (o : Option Effect) → HasHad t job k o → HasHad t job (suc k) o
    without none None h = each {P = λ i own. own.step.effect ≡ None} h (λ i own same. effect-is i own same ∙ none)
    without none (Some e) h = let low = h.2 in (
      h.0,
      h.1,
      omega (arith, low),
      h.3,
      each {P = λ i own. is_some own.step.effect ≡ true → i ≡ h.0} h.4 (λ i own same some. let there = effect-is i own same ∙ none in cc),
    )

    -- the step that is the effect, where the job had none before
    with-effect : (e : Effect) → x.effect ≡ Some e → HasHad t job k None → HasHad t job (suc k) (Some e)
    with-effect e some h = (
      k,
      record { step = x; at = is; own = who },
      omega arith,
      some,
      each {P = λ i own. is_some own.step.effect ≡ true → i ≡ k} (λ i own low there. let none = h i own low in
          cc) (λ i own same there. same),
    )

    pub had-next : (o had : Option Effect) → x.effect ≡ o → IfSome o (λ _. had ≡ None) → HasHad t job k had →
        HasHad t job (suc k) (option_or o had)
    had-next None had none first h = without none had h
    had-next (Some e) had some first h = with-effect e some (subst (HasHad t job k) first h)

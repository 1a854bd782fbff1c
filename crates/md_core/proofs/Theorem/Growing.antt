-- The history at a later moment begins with that of an earlier one.
use Rattle.std.proofs.Common.{ℕ, zero, suc, ◌≡◌, ◌≤◌, ◌+◌, ◌-◌, ◌++◌, List, [], sym, ap, subst, ◌∙◌, arith}
use Rattle.std.proofs.lemmas.List.{append-nil, append_assoc}
use Rattle.md_core.proofs.Values.{Effect, Run, machine_at}

abbrev pub Grows : Run → ℕ → ℕ → Type 0
Grows r k l = (more : List Effect) × ((machine_at r l).effects ≡ (machine_at r k).effects ++ more)

-- where each event lets it grow
module _ (r : Run) (one : (k : ℕ) → Grows r k (k + 1)) where
  grows-by : (k d : ℕ) → Grows r k (k + d)
  grows-by k zero = let e : k ≡ k + 0 = omega arith in subst (Grows r k) e ([], sym (append-nil (machine_at r k).effects))
  grows-by k (suc d) =
      let e : (k + d) + 1 ≡ k + suc d = omega arith in
      let before = grows-by k d in
      let last = one (k + d) in
      subst (Grows r k) e
      (before.0 ++ last.0, last.1 ∙ ap (λ (es : List Effect). es ++ last.0) before.1 ∙ append_assoc (machine_at r k).effects before.0 last.0)

  pub grows : (i j : ℕ) → i ≤ j → Grows r i j
  grows i j within = let e : i + (j - i) ≡ j = omega (arith, within) in subst (Grows r i) e (grows-by i (j - i))

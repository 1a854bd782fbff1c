use Rattle.std.proofs.Common.{Bool, List, Contains, ◌≡◌, sym, subst, refl, rules}
use Rattle.std.specs.List.{dedup}
use Rattle.std.specs.List.Sorted.{IsSorted, IsStrictlySortedBy}
use Rattle.std.specs.Ordering.{is_eq, is_lt}
use Rattle.std.proofs.lemmas.Cmp.{eq_by_cmp_equiv}
use Rattle.std.proofs.lemmas.Fn.{dedup_same}
use Rattle.std.proofs.lemmas.List.Kept.{Contains-dedup, Contains-from_dedup, IsStrictlySortedBy-dedup}
use Rattle.std.proofs.lemmas.List.Sorted.{ranks_by, answers_always, Contains-permutation, IsPermutation-sym}
use Rattle.md_system.specs.Checks.{flaw_cmp}
use Rattle.md_system.specs.declared.flaw.Flaw.{Flaw}
use Rattle.md_system.proofs.FlawOrder.{flaw_total, same-flaw}
use Rattle.md_system.proofs.flaws.sort_flaws.Goals as goal

abbrev same : Flaw → Flaw → Bool
same f g = is_eq (flaw_cmp f g)

left : (c : goal.After-dedup_by) → c.dedup_by.new.self.items ≡ dedup same c.sort_unstable_by.new.self.items
left c = dedup_same _ same _ (λ x y b f' x' y' k. search rules) _ _ c.dedup_by.ensures.filtered

pub returns-clause-each : goal.returns-clause-each
returns-clause-each c f = (
  λ some. Contains-permutation _ _ f (IsPermutation-sym _ _ c.sort_unstable_by.ensures.permutation)
      (Contains-from_dedup same _ f (subst (λ (fs : List Flaw). Contains fs f) (left c) some)),
  λ some. subst (λ (fs : List Flaw). Contains fs f) (sym (left c))
      (Contains-dedup (eq_by_cmp_equiv flaw_total) same-flaw _ f (Contains-permutation _ _ f c.sort_unstable_by.ensures.permutation some)),
)

pub returns-clause-order : goal.returns-clause-order
returns-clause-order c =
    let sorted : IsSorted flaw_cmp c.sort_unstable_by.new.self.items =
    c.sort_unstable_by.ensures.sorted (λ (x y : Flaw). is_lt (flaw_cmp x y))
    (ranks_by flaw_total (λ (f : Flaw). f)) (answers_always _ _ _ (λ f a r f' k. search rules)) in
    subst (IsStrictlySortedBy flaw_cmp) (sym (left c)) (IsStrictlySortedBy-dedup flaw_total (λ x y. refl) _ sorted)

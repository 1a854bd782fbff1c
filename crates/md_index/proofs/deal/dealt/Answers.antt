use Rattle.std.proofs.Common.{◌≡◌, ℕ, ◌+◌, [], ◌∷◌, sym, subst}
use Rattle.crossbeam_deque.specs.Tasks.{Pushes}
use Rattle.md_index.specs.declared.deal.Hand.{Hand}
use Rattle.md_index.specs.Deal.{IsDealt, hand}
use Rattle.md_index.proofs.Deals.{begins, pushes}
use Rattle.md_index.proofs.deal.dealt.Goals as goal

pub fifo_as-requires : goal.fifo_as-requires
fifo_as-requires c = begins

pushes_at : (port : ℕ) (v : Hand) (n : ℕ) → port ≡ 0 → v ≡ hand n [] → Pushes IsDealt port v (n ∷ []) (λ w. w ≡ hand (v.pushed + 1) v.taken)
pushes_at port v n p is =
    subst (λ (x : ℕ × Hand). Pushes IsDealt x.0 x.1 (n ∷ []) (λ w. w ≡ hand (x.1.pushed + 1) x.1.taken)) (λ i. (sym p i, sym is i))
    (pushes (hand n []))

pub push_as-requires-clause-pushes : goal.push_as-requires-clause-pushes
push_as-requires-clause-pushes c = pushes_at _ _ _ c.loop-next.invariant.0 c.loop-next.invariant.1

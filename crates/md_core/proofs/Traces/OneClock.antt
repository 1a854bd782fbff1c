-- With one clock the moments of jobs are those of the store.
use Rattle.std.proofs.Common.{ℕ, ◌≡◌, Option, ap, ◌∙◌, unwrap_or, arith}
use Rattle.md_core.proofs.Values.{Run, IsRun, trace_of, HasOneClock, AreApart}
use Rattle.md_core.proofs.Traces.Clock.{event-of}

pub one-clock : (r : Run) → IsRun r → HasOneClock r → AreApart (trace_of r) 0
one-clock r run one k x at =
    let h = event-of r run k x at in
    let same : x.at.own ≡ x.at.clock = h.2.own ∙ ap (λ (o : Option ℕ). unwrap_or o x.at.clock) (one k h.0 h.1) in
    (omega (arith, same), omega (arith, same))

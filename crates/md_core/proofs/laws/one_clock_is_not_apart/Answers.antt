use Rattle.md_core.proofs.Traces.OneClock.{one-clock}
use Rattle.md_core.proofs.laws.one_clock_is_not_apart.Goals as goal

pub returns : goal.returns
returns c = λ r run one. one-clock r run one

use Rattle.md_core.proofs.Traces.Kept.{call-keeps}
use Rattle.md_core.proofs.laws.calls_keep_moments.Goals as goal

pub returns : goal.returns
returns c = λ r run call later. call-keeps r run call later

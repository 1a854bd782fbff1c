use Rattle.md_core.proofs.Traces.Kept.{steps-keep}
use Rattle.md_core.proofs.laws.steps_keep_moments.Goals as goal

pub returns : goal.returns
returns c = λ r run es. steps-keep r run es

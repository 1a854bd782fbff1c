use Rattle.md_core.proofs.Traces.Shown.{shown}
use Rattle.md_core.proofs.laws.worlds_show_their_traces.Goals as goal

pub returns : goal.returns
returns c = λ r run. shown r run

use Rattle.md_core.proofs.Traces.All.{interleaves}
use Rattle.md_core.proofs.Traces.Plain.{is-trace}
use Rattle.md_core.proofs.laws.every_run_interleaves.Goals as goal

pub returns-clause-trace : goal.returns-clause-trace
returns-clause-trace c = λ r run. is-trace r run

pub returns-clause-theorem : goal.returns-clause-theorem
returns-clause-theorem c = λ r run. interleaves r run

use Rattle.md_core.proofs.Runs.Extended.{is_run-and_event}
use Rattle.md_core.proofs.laws.a_run_goes_on.Goals as goal

pub returns : goal.returns
returns c = λ r run e goes. is_run-and_event r e run goes

use Rattle.md_core.proofs.Settling.EachRun.{is_run-settled}
use Rattle.md_core.proofs.laws.a_settled_run_is_a_run.Goals as goal

pub returns : goal.returns
returns c = is_run-settled

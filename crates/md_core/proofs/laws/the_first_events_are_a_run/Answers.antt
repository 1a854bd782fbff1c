use Rattle.md_core.proofs.Runs.Extended.{is_run-first}
use Rattle.md_core.proofs.laws.the_first_events_are_a_run.Goals as goal

pub returns : goal.returns
returns c = λ r run k. is_run-first r run k

use Rattle.md_core.proofs.Values.{job_at, dirs_of, jobs_of}
use Rattle.md_core.proofs.Runs.Going.{there-now, there-after}
use Rattle.md_core.proofs.Machines.EachTurn.{each-turn}
use Rattle.md_core.proofs.Theorem.Bounds.{steps_left-exact, steps_left-less, jobs-same}
use Rattle.md_core.proofs.laws.a_step_leaves_its_job_there.Goals as goal

pub returns-clause-there : goal.returns-clause-there
returns-clause-there c = λ r job goes_on. there-now r job goes_on

pub returns-clause-left : goal.returns-clause-left
returns-clause-left c = λ r job goes_on. (steps_left-exact (dirs_of r) (job_at (jobs_of r) job)).0 goes_on

pub returns-clause-stays : goal.returns-clause-stays
returns-clause-stays c = λ r e goes_on. there-after r e goes_on

pub returns-clause-nearer : goal.returns-clause-nearer
returns-clause-nearer c = λ r run e goes_on. steps_left-less r run each-turn e goes_on

pub returns-clause-others : goal.returns-clause-others
returns-clause-others c = λ r run e goes_on n differ. jobs-same r run each-turn e goes_on n differ

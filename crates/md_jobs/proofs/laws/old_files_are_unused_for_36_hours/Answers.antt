use Rattle.md_jobs.proofs.Turns.{old-unused}
use Rattle.md_jobs.proofs.laws.old_files_are_unused_for_36_hours.Goals as goal

pub returns : goal.returns
returns c = λ own rows. old-unused own rows

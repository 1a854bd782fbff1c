use Rattle.md_beside.proofs.RunsOnDisk.{run-is-job}
use Rattle.md_beside.proofs.laws.a_run_on_a_disk_is_a_job_of_a_story.Goals as goal

pub returns : goal.returns
returns c = λ t job asked of old new answer ran shown. run-is-job t job old new answer asked of ran shown

use Rattle.md_script.proofs.ScriptRuns.{script-run}
use Rattle.md_script.proofs.laws.the_run_of_a_script_is_a_run.Goals as goal

pub returns : goal.returns
returns c = script-run c.names_and_files_belong_together.ensures.image

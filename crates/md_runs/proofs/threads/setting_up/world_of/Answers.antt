use Rattle.std.proofs.Common.{◌∙◌}
use Rattle.md_runs.proofs.Submitting.{opened_fresh}
use Rattle.md_runs.proofs.threads.setting_up.world_of.Goals as goal

-- src/threads/setting_up.rt:43:1
pub returns-clause-fresh : goal.returns-clause-fresh
returns-clause-fresh c = c.submit_all.ensures.events ∙ opened_fresh _ _ c.in_ok-world.world c.in_ok-world.ensures

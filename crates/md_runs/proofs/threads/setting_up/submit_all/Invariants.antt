use Rattle.std.proofs.Common.{◌≡◌, Ok}
use Rattle.md_runs.specs.Begun.{submitted_all}
use Rattle.md_runs.proofs.threads.setting_up.submit_all.Given as goal

abbrev pub invariant-loop-call : goal.invariant-loop-call
invariant-loop-call g l = record { submitted : submitted_all l.fn.world l.yielded ≡ Ok l.world; events : l.world.events ≡ l.fn.world.events }

use Rattle.std.proofs.Common.{◌<◌}
use mathlib.Core.List.{IsPrefix}
use Rattle.md_jobs.specs.declared.error.CoreError.TheVariants as core
use Rattle.md_store.specs.Calling.{RefusesSince}
use Rattle.md_store.specs.Ongoing.{GoesOn}
use Rattle.md_store.proofs.store.Store.finish.Given as goal

-- the pass holds what it held; and once a step was taken, the job was there and had no answer
abbrev pub invariant-steps : goal.invariant-steps
invariant-steps g l = record {
  held : IsPrefix l.fn.pass.history l.pass.history;
  own : GoesOn l.fn.pass.run l.pass.run;
  waiting : 0 < l.counter → RefusesSince g.J.Naming.begun l.fn.pass.run l.job core.NoMemory;
}

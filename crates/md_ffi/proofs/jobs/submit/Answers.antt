use Rattle.md_ffi.proofs.Refused.{not_submitted}
use Rattle.md_ffi.proofs.jobs.submit.Goals as goal

pub returns-in-Err : goal.returns-in-Err
returns-in-Err c = (
  c.in-Err.ensures.unchanged,
  not_submitted c.args.world.now c.args.asked.now c.args.brought.unique.now c.args.brought.first.now
      c.args.brought.second.now c.in_ok-call.call c.in-Err.unmade.error c.refused.result c.in_ok-call.ensures c.in-Err.ensures.refused
      c.refused.ensures.kind,
)

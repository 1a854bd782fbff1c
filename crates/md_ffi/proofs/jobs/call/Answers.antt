use Rattle.std.proofs.Common.{◌≡◌}
use Rattle.md_core.specs.Runs.{IsRefusal}
use Rattle.md_core.specs.Submitting.{submit_refusal}
use Rattle.md_ffi.proofs.Refused.{not_submitted, of_refused}
use Rattle.md_ffi.proofs.jobs.call.Goals as goal

pub returns-in-Err-Refused : goal.returns-in-Err-Refused
returns-in-Err-Refused c =
    let w = c.in-Err-Refused in
    let world = c.args.world.now in (
      of_refused (λ refused. c.call.new.self ≡ world) w.field-0 w.unmade w.field-0-is w.ensures.unchanged,
      not_submitted world c.args.asked.now c.args.brought.unique.now c.args.brought.first.now c.args.brought.second.now c.in-Ok.call
          w.unmade.error c.refused.result c.in-Ok.ensures
          (of_refused (λ refused. IsRefusal (submit_refusal world c.in-Ok.call) refused.error) w.field-0 w.unmade w.field-0-is w.ensures.refused)
          c.refused.ensures.kind,
    )

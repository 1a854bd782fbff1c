use Rattle.std.proofs.Common.{◌≡◌, ◌<◌, ◌-◌, Some, ap, sym, ◌∙◌, slice_get, arith}
use Rattle.std.proofs.lemmas.Option.{slice_get-get_or}
use Rattle.md_core.proofs.Worlds.Stepping.{refused-by, goes-by}
use Rattle.md_core.proofs.world.step.unanswered.Goals as goal

pub returns-in-Some-clause-refused : goal.returns-in-Some-clause-refused
returns-in-Some-clause-refused c =
    let some : 0 < c.args.job = omega (arith, c.if-job-eq0.false) in
    let at : slice_get c.args.jobs.now (c.args.job - 1) ≡ Some c.index-jobs-at.result =
    slice_get-get_or c.args.jobs.now (c.args.job - 1) c.index-jobs-at.result (omega arith) ∙ ap Some (sym c.index-jobs-at.is) in
    refused-by c.args.jobs.now c.args.job c.index-jobs-at.result c.in-Some.field-0 some at (sym c.in-Some.is ∙ c.answer.ensures)

pub returns-in-None-clause-refused : goal.returns-in-None-clause-refused
returns-in-None-clause-refused c =
    let some : 0 < c.args.job = omega (arith, c.if-job-eq0.false) in
    let at : slice_get c.args.jobs.now (c.args.job - 1) ≡ Some c.index-jobs-at.result =
    slice_get-get_or c.args.jobs.now (c.args.job - 1) c.index-jobs-at.result (omega arith) ∙ ap Some (sym c.index-jobs-at.is) in
    goes-by c.args.jobs.now c.args.job c.index-jobs-at.result some at (sym c.in-None.is ∙ c.answer.ensures)

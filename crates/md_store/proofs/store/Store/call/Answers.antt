use Rattle.std.proofs.Common.{[], append-nil, ◌∙◌, sym}
use Rattle.md_store.proofs.Ends.{answers, leaves}
use Rattle.md_store.proofs.store.Store.call.Goals as goal

pub returns-in-Ok-clause-answer : goal.returns-in-Ok-clause-answer
returns-in-Ok-clause-answer g c =
    answers c.each_call_has_its_job.ensures c.every_run_interleaves.ensures.theorem g.J.Naming.begun g.J.Naming.opening.folders c.args.call c.args.now c.args.own
    c.args.pass.now c.submit_for.new.pass c.finish-ended.new.pass c.in-Ok.job c.submit_for.ensures.own c.finish-ended.ensures.own c.is_legal.ensures.run
    c.in-Ok.ensures.job c.finish-ended.result c.finish-ended.ensures.answer

pub returns-in-Ok-clause-error : goal.returns-in-Ok-clause-error
returns-in-Ok-clause-error g c =
    leaves c.each_call_has_its_job.ensures c.every_run_interleaves.ensures.theorem g.J.Naming.begun g.J.Naming.opening.folders c.args.call c.args.now c.args.own
    c.args.pass.now c.submit_for.new.pass c.finish-ended.new.pass c.in-Ok.job c.submit_for.ensures.own c.finish-ended.ensures.own c.is_legal.ensures.run
    c.in-Ok.ensures.job c.finish-ended.result c.finish-ended.ensures.error

pub returns-in-Err-clause-held : goal.returns-in-Err-clause-held
returns-in-Err-clause-held g c = ([], append-nil c.args.pass.now.history ∙ sym c.submit_for.ensures.history)

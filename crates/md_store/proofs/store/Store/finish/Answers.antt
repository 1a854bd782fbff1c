use Rattle.std.proofs.Common.{Option, Result, refl, subst, arith}
use Rattle.md_jobs.specs.declared.answer.Answer.{Answer}
use Rattle.md_jobs.specs.declared.error.CoreError.TheVariants as core
use Rattle.md_store.specs.declared.calling.CallError.{CallError}
use Rattle.md_store.specs.Calling.{Ends}
use Rattle.md_store.proofs.Beginnings.{begins_itself, begins_later}
use Rattle.md_store.proofs.Ends.{refuses-earlier, gives-ended, stops-ended}
use Rattle.md_store.proofs.Ongoing.{goes_itself, goes_later}
use Rattle.md_store.proofs.store.Store.finish.Goals as goal

pub returns-in-Some-clause-answer : goal.returns-in-Some-clause-answer
returns-in-Some-clause-answer g c =
    gives-ended g.J.Naming.begun c.args.pass.now c.steps.pass c.go_on.new.pass c.args.job c.args.now c.args.own c.steps.invariant.own c.in-Some.ended c.in-Some.ensures.end

pub returns-in-Some-clause-error : goal.returns-in-Some-clause-error
returns-in-Some-clause-error g c =
    stops-ended g.J.Naming.begun c.args.pass.now c.steps.pass c.go_on.new.pass c.args.job c.args.now c.args.own c.steps.invariant.own c.in-Some.ended c.in-Some.ensures.end

pub steps-init : goal.steps-init
steps-init g c = record { held = begins_itself _; own = goes_itself _ _ refl; waiting = λ less. absurd (omega (arith, less)) }

pub steps-preserved : goal.steps-preserved
steps-preserved g c =
    let i = c.steps.invariant in
    let end = subst (λ (r : Option (Result Answer CallError)). Ends g.J.Naming.begun c.args.job c.args.now c.args.own r c.steps.pass c.go_on.new.pass)
    c.in_default.is c.go_on.ensures.end in
    record {
      held = begins_later _ _ _ i.held c.go_on.ensures.held;
      own = goes_later _ _ _ i.own c.go_on.ensures.own;
      waiting = λ less. refuses-earlier g.J.Naming.begun _ _ c.args.job core.NoMemory i.own end;
    }

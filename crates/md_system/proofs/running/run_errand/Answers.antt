use Rattle.md_jobs.specs.Machines.Errand.{new_errand, errand_turn}
use Rattle.md_jobs.specs.Tasks.Errand.{Errand}
use Rattle.md_jobs.specs.Tasks.Views.Errands.{errand_view}
use Rattle.md_jobs.specs.declared.step.Moment.{Moment}
use Rattle.md_system.proofs.Fewer.{errand-falls}
use Rattle.md_system.proofs.Runs.{begun, goes, answers}
use Rattle.md_system.proofs.running.run_errand.Goals as goal

pub loop-errand-init : goal.loop-errand-init
loop-errand-init g c =
    begun (λ (e : Errand) (at : Moment). errand_turn 1 e) (new_errand c.args.folder c.args.unique c.args.purpose c.args.tries)
    c.args.system.now.log.entries (errand_view c.new-errand.result) c.new-errand.ensures

pub loop-errand-preserved : goal.loop-errand-preserved
loop-errand-preserved g c =
    goes (λ (e : Errand) (at : Moment). errand_turn 1 e) (new_errand c.args.folder c.args.unique c.args.purpose c.args.tries)
    c.args.system.now.log.entries c.loop-errand.system.log.entries c.step_errand.new.system.log.entries
    (errand_view c.loop-errand.errand) (errand_view c.step_errand.new.errand) c.in_ok-answer.field-0 c.loop-errand.invariant
    c.in_ok-answer.ensures.steps c.in_default.is

pub loop-errand-smaller : goal.loop-errand-smaller
loop-errand-smaller g c =
    errand-falls 1 (errand_view c.loop-errand.errand) (errand_view c.step_errand.new.errand) c.loop-errand.system.log.entries
    c.step_errand.new.system.log.entries c.in_ok-answer.field-0 c.in_ok-answer.ensures.steps c.in_default.is

pub returns-in-Some-clause-ran : goal.returns-in-Some-clause-ran
returns-in-Some-clause-ran g c =
    answers (λ (e : Errand) (at : Moment). errand_turn 1 e) (new_errand c.args.folder c.args.unique c.args.purpose c.args.tries)
    c.args.system.now.log.entries c.loop-errand.system.log.entries c.step_errand.new.system.log.entries
    (errand_view c.loop-errand.errand) (errand_view c.step_errand.new.errand) c.in_ok-answer.field-0 c.in-Some.answer c.loop-errand.invariant
    c.in_ok-answer.ensures.steps c.in-Some.is

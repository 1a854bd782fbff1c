use Rattle.md_jobs.specs.Machines.Clean.{new_cleaning, cleaning_turn}
use Rattle.md_jobs.specs.Tasks.Cleaning.{Cleaning}
use Rattle.md_jobs.specs.declared.step.Moment.{Moment}
use Rattle.md_system.proofs.Fewer.{clean-falls}
use Rattle.md_system.proofs.Runs.{begun, goes, answers, stops, on-err}
use Rattle.md_system.proofs.running.clean.Goals as goal

pub returns-in_err-answer-clause-began : goal.returns-in_err-answer-clause-began
returns-in_err-answer-clause-began g c =
    on-err c.from_residual.result
    (stops (λ (x : Cleaning) (at : Moment). cleaning_turn x at.own) (new_cleaning c.args.folder) c.args.system.now.log.entries
    c.args.system.now.log.entries c.step_cleaning.new.system.log.entries c.new-cleaning.result
    (begun (λ (x : Cleaning) (at : Moment). cleaning_turn x at.own) (new_cleaning c.args.folder) c.args.system.now.log.entries
    c.new-cleaning.result c.new-cleaning.ensures) c.in_err-answer.ensures.kept)

pub returns-in-Some-clause-ran : goal.returns-in-Some-clause-ran
returns-in-Some-clause-ran g c =
    answers (λ (x : Cleaning) (at : Moment). cleaning_turn x at.own) (new_cleaning c.args.folder) c.args.system.now.log.entries
    c.args.system.now.log.entries c.step_cleaning.new.system.log.entries c.new-cleaning.result c.step_cleaning.new.cleaning
    c.in_ok-answer.field-0 c.in-Some.answer
    (begun (λ (x : Cleaning) (at : Moment). cleaning_turn x at.own) (new_cleaning c.args.folder) c.args.system.now.log.entries
    c.new-cleaning.result c.new-cleaning.ensures)
    c.in_ok-answer.ensures.steps c.in-Some.is

pub loop-cleaning-init : goal.loop-cleaning-init
loop-cleaning-init g c = (
  goes (λ (x : Cleaning) (at : Moment). cleaning_turn x at.own) (new_cleaning c.args.folder) c.args.system.now.log.entries
      c.args.system.now.log.entries c.step_cleaning.new.system.log.entries c.new-cleaning.result c.step_cleaning.new.cleaning
      c.in_ok-answer.field-0
      (begun (λ (x : Cleaning) (at : Moment). cleaning_turn x at.own) (new_cleaning c.args.folder) c.args.system.now.log.entries
      c.new-cleaning.result c.new-cleaning.ensures)
      c.in_ok-answer.ensures.steps c.in_default.is,
  (clean-falls c.new-cleaning.result c.step_cleaning.new.cleaning c.args.system.now.log.entries
      c.step_cleaning.new.system.log.entries c.in_ok-answer.field-0 c.in_ok-answer.ensures.steps c.in_default.is).0,
)

pub loop-cleaning-preserved : goal.loop-cleaning-preserved
loop-cleaning-preserved g c = (
  goes (λ (x : Cleaning) (at : Moment). cleaning_turn x at.own) (new_cleaning c.args.folder) c.args.system.now.log.entries
      c.loop-cleaning.system.log.entries c.step_cleaning-in-loop-cleaning.new.system.log.entries c.loop-cleaning.cleaning
      c.step_cleaning-in-loop-cleaning.new.cleaning c.in_ok-answer-2.field-0 c.loop-cleaning.invariant.0 c.in_ok-answer-2.ensures.steps
      c.in_default-2.is,
  (clean-falls c.loop-cleaning.cleaning c.step_cleaning-in-loop-cleaning.new.cleaning c.loop-cleaning.system.log.entries
      c.step_cleaning-in-loop-cleaning.new.system.log.entries c.in_ok-answer-2.field-0 c.in_ok-answer-2.ensures.steps c.in_default-2.is).0,
)

pub loop-cleaning-smaller : goal.loop-cleaning-smaller
loop-cleaning-smaller g c =
    (clean-falls c.loop-cleaning.cleaning c.step_cleaning-in-loop-cleaning.new.cleaning c.loop-cleaning.system.log.entries
    c.step_cleaning-in-loop-cleaning.new.system.log.entries c.in_ok-answer-2.field-0 c.in_ok-answer-2.ensures.steps c.in_default-2.is).1
    c.loop-cleaning.invariant.1

pub returns-in-Some-2-clause-ran : goal.returns-in-Some-2-clause-ran
returns-in-Some-2-clause-ran g c =
    answers (λ (x : Cleaning) (at : Moment). cleaning_turn x at.own) (new_cleaning c.args.folder) c.args.system.now.log.entries
    c.loop-cleaning.system.log.entries c.step_cleaning-in-loop-cleaning.new.system.log.entries c.loop-cleaning.cleaning
    c.step_cleaning-in-loop-cleaning.new.cleaning c.in_ok-answer-2.field-0 c.in-Some-2.answer c.loop-cleaning.invariant.0
    c.in_ok-answer-2.ensures.steps c.in-Some-2.is

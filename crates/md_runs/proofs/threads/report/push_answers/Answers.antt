use Rattle.std.proofs.Common.{◌∙◌, sym, arith}
use Rattle.md_runs.proofs.Reporting.{answers-none, more-answers, more-answered}
use Rattle.md_runs.proofs.threads.report.push_answers.Goals as goal

pub loop-before-init : goal.loop-before-init
loop-before-init g c = record { text = answers-none _ _; answered = λ n none. absurd (omega arith) }

pub loop-before-preserved : goal.loop-before-preserved
loop-before-preserved g c =
    let has = sym c.answer.ensures ∙ c.in-Some.is in
    record {
      text = more-answers _ _ _ _ _ c.in-Some.answer c.loop-before.invariant.text has c.in_ok-push_answer_line.ensures.text;
      answered = more-answered _ _ c.in-Some.answer c.loop-before.invariant.answered has;
    }

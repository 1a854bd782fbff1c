use Rattle.std.proofs.Common.{◌≡◌, ◌+◌, [], length, ◌∙◌, ap, append-nil}
use Rattle.md_head.specs.Header.{lines_of}
use Rattle.md_script.specs.Progress.{outcome, usable, usable_of}
use Rattle.md_script.specs.Transcript.{transcript_of, run_from}
use Rattle.md_script.proofs.Runs.{outcome_fresh, tells}
use Rattle.md_script.proofs.run.run.Goals as goal

pub returns : goal.returns
returns g c =
    let step = g.S.Session.step in
    let all : outcome step c.run_lines.new.self c.run_lines.new.session [] ≡ usable_of step c.args.session.now c.args.script.now =
    c.in_ok-run_lines.ensures.lines [] ∙ outcome_fresh step _ _ _ c.new-progress.ensures
    ∙ ap (λ lines. usable (1 + length lines) (run_from step 1 c.args.session.now lines)) (append-nil (lines_of c.args.script.now)) in
    tells step c.run_lines.new.self c.run_lines.new.session _ (transcript_of step c.args.session.now c.args.script.now) all

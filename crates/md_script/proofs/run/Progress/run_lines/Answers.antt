use Rattle.std.proofs.Common.{◌+◌, ◌∙◌, arith}
use Rattle.md_script.proofs.Runs.{outcome_more, outcome_refused}
use Rattle.md_script.proofs.run.Progress.run_lines.Goals as goal

pub returns-in_default-kind : goal.returns-in_default-kind
returns-in_default-kind g c =
    let refused = c.in-Err.ensures c.in_default-kind.not-NoMemory in
    record {
      lines = λ more. outcome_refused g.S.Session.step c.loop-first.self.printed.refusal c.loop-first.invariant.running c.loop-first.self.printed.text.items
          (c.loop-first.self.passed + 1) c.loop-first.session c.in-Some.first.now _ _ c.in-Some.ensures.lines more
          c.in-Err.kind c.loop-first.session c.run_line.new.out.items more refused.1 refused.0 ∙ c.loop-first.invariant.same more;
      counted = omega arith;
    }

pub loop-first-preserved : goal.loop-first-preserved
loop-first-preserved g c = record {
  running = c.loop-first.invariant.running;
  counted = omega (arith, c.in-Some.ensures.shorter);
  same = λ more. outcome_more g.S.Session.step c.loop-first.self.printed.refusal c.loop-first.invariant.running c.loop-first.self.printed.text.items
      (c.loop-first.self.passed + 1) c.loop-first.session c.in-Some.first.now _ _ c.in-Some.ensures.lines more
      c.run_line.new.session c.run_line.new.out.items _ c.in-Ok.ensures.2 c.in-Ok.ensures.1 ∙ c.loop-first.invariant.same more;
}

use Rattle.std.proofs.Common.{◌≡◌, ◌+◌, ◌-◌, ◌<◌, ◌≤◌, ◌++◌, length, get_or, take, drop, ap, sym, subst, ◌∙◌, arith, append-nil}
use Rattle.std.proofs.lemmas.List.{length-take, length-take-le}
use Rattle.std.proofs.lemmas.Bool.{eqb-true}
use Rattle.md_head.specs.Header.{lines_of}
use Rattle.md_head.proofs.Appended.{lines_whole_append}
use Rattle.md_script.specs.Progress.{outcome}
use Rattle.md_script.proofs.Underway.{whole_block, moved_parts}
use Rattle.md_script.proofs.Runs.{outcome_same}
use Rattle.md_script.proofs.incoming.Incoming.take_in.Goals as goal

pub returns-then-is_refused-clause-taken : goal.returns-then-is_refused-clause-taken
returns-then-is_refused-clause-taken g c = record {
  front = take (c.args.self.now.filled + c.args.count) c.args.self.now.room.items;
  parts = sym (append-nil _);
  there = omega arith;
  passed = omega arith;
  same = λ more. outcome_same g.S.Session.step c.args.self.now.progress.printed.refusal (sym c.is_refused.ensures ∙ c.if-is_refused.true) _ _ _ _ _;
}

pub returns-clause-taken : goal.returns-clause-taken
returns-clause-taken g c =
    let room = c.args.self.now.room.items in
    let f = c.args.self.now.filled in
    let filled = f + c.args.count in
    let n = filled - f in
    let at = c.in-Some.at in
    let there : filled ≤ length room = omega arith in
    let hay = length-take n (drop f c.deref.result.now) in
    let high : at < n = omega (arith, hay, c.in-Some.ensures.0.high) in
    let feed : get_or (take n (drop f room)) at 0 ≡ 10 =
    subst (λ text. get_or (take n (drop f text)) at 0 ≡ 10) c.deref.ensures.value (eqb-true _ 10 c.in-Some.ensures.1) in
    let whole = whole_block room f n at high (omega arith) feed in
    let long = length-take-le filled room there in
    let ran = length-take (f + at + 1) c.deref-2.result.now in
    record {
      front = take (f + at + 1) room;
      parts = moved_parts room c.move_to_front.new.room.items (f + at + 1) filled (omega arith) c.move_to_front.ensures.moved;
      there = omega (arith, c.move_to_front.ensures.len);
      passed = omega (arith, c.in_ok-run_lines.ensures.counted, ran, long);
      same = λ more. c.in_ok-run_lines.ensures.lines (lines_of more)
          ∙ ap (λ text. outcome g.S.Session.step c.args.self.now.progress c.args.session.now (lines_of (take (f + at + 1) text) ++ lines_of more)) c.deref-2.ensures.value
          ∙ ap (λ ls. outcome g.S.Session.step c.args.self.now.progress c.args.session.now ls) (sym (lines_whole_append (take (f + at + 1) room) more whole));
    }

use Rattle.std.proofs.Common.{sym, ◌∙◌}
use Rattle.md_watch.proofs.Times.{ended, begun, earlier}
use Rattle.md_watch.proofs.spells.was_through.Goals as goal

pub returns-then-end-last : goal.returns-then-end-last
returns-then-end-last c = sym (sym c.loop-at.invariant
    ∙ ended c.args.first c.args.last c.args.times.now c.loop-at.at (0, 0) c.loop-at-test.true c.loop-at.auto.at c.if-end-last.true)

pub returns-then-begin-first : goal.returns-then-begin-first
returns-then-begin-first c = sym (sym c.loop-at.invariant
    ∙ begun c.args.first c.args.last c.args.times.now c.loop-at.at (0, 0) c.loop-at-test.true c.loop-at.auto.at c.if-end-last.false
    c.if-begin-first.true)

pub loop-at-preserved : goal.loop-at-preserved
loop-at-preserved c =
    sym (earlier c.args.first c.args.last c.args.times.now c.loop-at.at (0, 0) c.loop-at-test.true c.loop-at.auto.at c.if-end-last.false
    c.if-begin-first.false)
    ∙ c.loop-at.invariant

use Rattle.std.proofs.Common.{refl}
use Rattle.md_findings.specs.Tallies.{added}
use Rattle.md_findings.proofs.Tallying.{changed_more}
use Rattle.md_findings.proofs.summary.Tally.add.Goals as goal

pub loop-count-preserved : goal.loop-count-preserved
loop-count-preserved c =
    let more = changed_more (added c.args.clause.now c.args.line) _ _ c.loop-count.count-index _ _ in
    rw c.added.ensures (more c.loop-count.invariant refl c.loop-count-test.true)

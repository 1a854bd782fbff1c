use Rattle.std.proofs.Common.{arith}
use Rattle.std.proofs.lemmas.Result.{err_from_is_err_and}
use Rattle.md_script.proofs.incoming.run_source.Goals as goal

pub returns-in_err-read_on-clause-runs : goal.returns-in_err-read_on-clause-runs
returns-in_err-read_on-clause-runs g c =
    let p = err_from_is_err_and c.from_residual.result c.from_residual.ensures.1 in
    rw (p.1, p.2) (c.in_err-read_on.ensures.on _ _ c.loop.invariant.underway)

pub returns-then-branch-clause-runs : goal.returns-then-branch-clause-runs
returns-then-branch-clause-runs g c =
    let reached = c.in_ok-read_on.ensures.on _ _ c.loop.invariant.underway in
    rw c.if-branch.true at reached

pub loop-preserved : goal.loop-preserved
loop-preserved g c =
    let reached = c.in_ok-read_on.ensures.on _ _ c.loop.invariant.underway in
    let going = rw c.if-branch.false at reached in
    record {
      fits = c.in_ok-read_on.ensures.fits;
      underway = going.underway;
      counted = omega (arith, going.counted, c.loop.invariant.counted);
    }

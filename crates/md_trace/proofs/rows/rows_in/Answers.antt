use Rattle.std.proofs.Common.{◌≡◌, ◌++◌, arith, drop, length, subst, sym}
use Rattle.md_dirs.specs.Rows.{rows_of}
use Rattle.md_trace.proofs.Lined.{next-rows}
use Rattle.md_trace.proofs.rows.rows_in.Goals as goal

pub loop-rows-preserved : goal.loop-rows-preserved
loop-rows-preserved g c =
    let all = rows_of (g.D.Dirs.device c.args.dirs.now).state c.args.folder c.args.place in
    let counted : c.len.result ≡ length c.loop-rows.rows.items = omega (arith, c.len.ensures, c.loop-rows.rows.ok.0) in
    let more = rw counted at c.in_ok-more.ensures in
    subst (λ rows. rows ++ drop (length rows) all ≡ all) (sym c.in_ok-append.ensures.items)
    (next-rows all c.loop-rows.rows.items c.in_ok-more.more.items c.loop-rows.invariant more)

use Rattle.md_core.proofs.Worlds.Loading.Lying.{IsThrough}
use Rattle.md_core.proofs.Worlds.Quick.{AreUntaken}
use Rattle.md_core.proofs.world.looking.quick.are_free.Given as goal

abbrev pub invariant-loop-row : goal.invariant-loop-row
invariant-loop-row g l =
    let s = (g.D.Dirs.device l.dirs).state in
    IsThrough s l.folder l.fn.place (AreUntaken s l.folder l.fn.place l.other) l.rows.items l.row

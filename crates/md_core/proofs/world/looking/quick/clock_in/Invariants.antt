use Rattle.md_core.specs.Quick.{IsQuickLook}
use Rattle.md_core.proofs.Worlds.Loading.Lying.{IsThrough, Behind}
use Rattle.md_core.proofs.world.looking.quick.clock_in.Given as goal

abbrev pub invariant-loop-at : goal.invariant-loop-at
invariant-loop-at g l =
    let s = (g.D.Dirs.device l.dirs).state in
    IsThrough s l.folder l.fn.place (Behind s l.folder l.fn.place (λ es. IsQuickLook s es l.clock)) l.rows.items l.at

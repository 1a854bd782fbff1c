use Rattle.md_core.specs.Gathering.{AreOf}
use Rattle.md_core.proofs.Worlds.Loading.Lying.{IsThrough, Behind}
use Rattle.md_core.proofs.world.looking.names.use_directory.Given as goal

abbrev pub invariant-loop-row : goal.invariant-loop-row
invariant-loop-row g l =
    let s = (g.D.Dirs.device l.dirs).state in
    IsThrough s l.folder l.place (Behind s l.folder l.place (λ es. AreOf es l.used)) l.rows.items l.row

use Rattle.md_core.proofs.Worlds.Loading.Unordered.{IsLookThrough}
use Rattle.md_core.proofs.world.looking.look_through.Given as goal

abbrev pub invariant-loop-row : goal.invariant-loop-row
invariant-loop-row g l = IsLookThrough (g.D.Dirs.device l.dirs).state l.folder l.place l.rows.items l.row l.seen

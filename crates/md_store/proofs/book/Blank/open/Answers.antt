use Rattle.md_store.proofs.Entering.{opens}
use Rattle.md_store.proofs.book.Blank.open.Goals as goal

pub open_row-seen-requires : goal.open_row-seen-requires
open_row-seen-requires g c = (opens c.args.world.now, λ entries. tt, c.alone.ensures.1)

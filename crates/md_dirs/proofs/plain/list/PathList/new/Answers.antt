use Rattle.md_dirs.specs.Path.{path_cmp}
use Rattle.lists.proofs.Maps.{from-none}
use Rattle.md_dirs.proofs.plain.list.PathList.new.Goals as goal

pub returns : goal.returns
returns c = from-none path_cmp c.new.result.items c.new.ensures.items

use Rattle.std.proofs.Common.{[], ap, refl, ◌∙◌}
use Rattle.md_dirs.specs.Path.{path_cmp}
use Rattle.md_dirs.specs.Index.{names_of}
use Rattle.lists.proofs.Maps.{from-none}
use Rattle.md_dirs.proofs.index.tree.Tree.new.Goals as goal

pub returns : goal.returns
returns c = ap names_of c.new.ensures.items ∙ from-none path_cmp [] refl

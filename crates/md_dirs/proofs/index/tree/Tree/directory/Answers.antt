use Rattle.std.specs.Slice.{IsItemAt}
use Rattle.md_dirs.specs.Index.{NameMap, directory_number}
use Rattle.md_dirs.proofs.Directories.{rows-of, files-of}
use Rattle.md_dirs.proofs.index.tree.Tree.directory.Goals as goal

found : (c : goal.After-get) → IsItemAt {X = NameMap} c.self.inside.directories.items (directory_number c.args.folder c.args.place) c.get.result
found c = rw (← c.deref.ensures.value, ← c.number_of.ensures.number) c.get.ensures.lookup

pub returns-clause-rows : goal.returns-clause-rows
returns-clause-rows c = rw (← c.self.view_is) (rows-of c.self.inside.directories.items c.args.folder c.args.place c.get.result (found c))

pub returns-clause-files : goal.returns-clause-files
returns-clause-files c = rw (← c.self.view_is) (files-of c.self.inside.directories.items c.args.folder c.args.place c.get.result (found c))

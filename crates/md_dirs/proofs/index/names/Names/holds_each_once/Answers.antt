use Rattle.std.proofs.Common.{◌≡◌, [], subst}
use Rattle.std.specs.FinMap as finmap
use Rattle.md_dirs.specs.Index.{NameMap}
use Rattle.md_dirs.specs.Once.{EachOnce}
use Rattle.std.proofs.lemmas.List.{nil_from_length}
use Rattle.md_dirs.proofs.Once.{each-once}
use Rattle.md_dirs.proofs.index.names.Names.holds_each_once.Goals as goal

pub returns : goal.returns
returns c = λ yes.
    let rows = c.self.inside.table.keys in
    let others = c.self.inside.others.entries in
    let none : others ≡ [] = nil_from_length others (c.is_empty.ensures.0 yes) in
    subst (λ (m : NameMap). EachOnce (finmap.get m)) c.self.view_is (each-once rows others c.len-rows.ensures.unique none)

use Rattle.std.proofs.Common.{◌∙◌, sym, ap, subst, map}
use Rattle.std.specs.List.{IsDistinct}
use Rattle.std.specs.Map.{keys_of}
use Rattle.md_dirs.specs.Least.{lent_row}
use Rattle.md_dirs.proofs.Alike.{distinct-all}
use Rattle.md_dirs.proofs.NameRows.{same}
use Rattle.md_dirs.proofs.index.names.Names.arrange.Goals as goal

pub sorted_order-requires : goal.sorted_order-requires
sorted_order-requires c =
    let rows = c.self.inside.table.keys in
    let others = c.self.inside.others.entries in
    subst (λ es. IsDistinct same (keys_of es)) (sym (ap (map lent_row) c.deref.ensures.value ∙ c.in_ok-rows.ensures.rows))
    (distinct-all rows others c.all_rows.ensures.unique.0 c.all_rows.ensures.unique.1 c.self.invariant.apart)

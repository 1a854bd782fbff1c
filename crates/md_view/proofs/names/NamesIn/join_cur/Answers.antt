use Rattle.std.proofs.Common.{List, sym, subst, ◌∙◌}
use Rattle.md_dirs.specs.declared.paths.Place.TheVariants.{Cur}
use Rattle.md_listing.specs.declared.entry.Entry.{Entry}
use Rattle.md_listing.specs.Readings.{IsInOrder}
use Rattle.md_listing.proofs.Keyed.{in-order}
use Rattle.md_listing.proofs.Readings.{reading-sorted}
use Rattle.md_view.proofs.names.NamesIn.join_cur.Goals as goal

pub join_lent-requires-clause-cur : goal.join_lent-requires-clause-cur
join_lent-requires-clause-cur g c =
    subst (λ (es : List Entry). IsInOrder es) (sym (c.deref-2.ensures.value ∙ c.in_ok-cur.ensures)) (in-order _ (reading-sorted c.args.folder Cur c.args.self.now.names))

use Rattle.std.proofs.Common.{List, sym, subst}
use Rattle.md_dirs.specs.declared.paths.Place.TheVariants.{New}
use Rattle.md_listing.specs.declared.entry.Entry.{Entry}
use Rattle.md_listing.specs.Readings.{IsInOrder}
use Rattle.md_store.specs.Listing.{named_after}
use Rattle.md_store.proofs.Good.{reading-in_order}
use Rattle.md_store.proofs.store.Store.first.Goals as goal

pub new-requires-clause-order : goal.new-requires-clause-order
new-requires-clause-order g c = subst (λ (es : List Entry). IsInOrder es) (sym c.in_ok-entries.ensures.entries)
    (reading-in_order (named_after g.J.Naming.opening c.read.new.self.history).names c.args.folder New)

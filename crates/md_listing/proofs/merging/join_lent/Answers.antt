use Rattle.std.proofs.Common.{◌≡◌, List, Ok, Err, IfOk, sym, subst}
use Rattle.md_listing.specs.declared.entry.Entry.{Entry}
use Rattle.md_listing.specs.Readings.{IsInOrder}
use Rattle.md_listing.proofs.Keyed.{in-order, ordered}
use Rattle.md_listing.proofs.Merged.{join-sorted}
use Rattle.md_listing.proofs.merging.join_lent.Goals as goal

pub returns-clause-order : goal.returns-clause-order
returns-clause-order c =
    let joined : IsInOrder c.of.result =
    subst (λ (es : List Entry). IsInOrder es) (sym c.of.ensures)
    (in-order _ (join-sorted c.args.new.now c.args.cur.now (ordered _ c.requires.new) (ordered _ c.requires.cur))) in
    elim c.collect.result as (λ r. IfOk r (λ all. all.items ≡ c.of.result) → IfOk r (λ all. IsInOrder all.items)) [
      | Ok all ↦ λ is. subst (λ (es : List Entry). IsInOrder es) (sym is) joined
      | Err e ↦ λ is. tt
    ] c.collect.ensures

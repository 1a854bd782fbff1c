use Rattle.std.proofs.Common.{◌≡◌, List, subst, not, filter}
use Rattle.md_name.specs.Names.{unique_of}
use Rattle.md_system.specs.Listings.{has_unique, names_of}
use Rattle.md_system.specs.declared.listed.Listed.{Listed}
use Rattle.md_system.proofs.Joining.{listing-is}
use Rattle.md_system.proofs.listed.joined.Goals as goal

pub returns : goal.returns
returns c =
    let unseen = subst (λ (ms : List Listed). c.keep_unseen.new.listed.items ≡
    filter (λ (m : Listed). not (has_unique (names_of ms) (unique_of m.name))) c.in_ok-unseen.unseen.items) c.as_slice.ensures.value c.keep_unseen.ensures in
    record {
      each = listing-is _ _ _ _ _ _ _ c.in_ok-listed.ensures.names c.in_ok-unseen.ensures.names unseen c.in_ok-append.ensures.items c.sort.ensures.same;
      order = c.sort.ensures.order;
    }

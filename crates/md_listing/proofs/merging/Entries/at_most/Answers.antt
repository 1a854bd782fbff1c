use Rattle.std.proofs.Common.{◌≤◌, ◌+◌, ◌-◌, ◌*◌, length, subst, List, arith}
use Rattle.md_listing.specs.declared.entry.Entry.{Entry}
use Rattle.md_listing.proofs.Keyed.{ordered}
use Rattle.md_listing.proofs.Merged.{half-left, length-left}
use Rattle.md_listing.proofs.merging.Entries.at_most.Goals as goal

pub returns : goal.returns
returns c =
    let e = c.self.inside in
    let left = (length e.of_new.now - e.from_new) + (length e.of_cur.now - e.from_cur) in
    let new = ordered _ c.self.invariant.0 in
    let cur = ordered _ c.self.invariant.1 in
    record {
      most = let most = subst (λ (es : List Entry). length es ≤ left) c.self.view_is (length-left e.of_new.now e.of_cur.now new cur e.from_new e.from_cur) in
          omega (arith, most);
      half = let half = subst (λ (es : List Entry). left ≤ 2 * length es) c.self.view_is (half-left e.of_new.now e.of_cur.now new cur e.from_new e.from_cur) in
          omega (arith, half);
    }

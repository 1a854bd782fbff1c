use Rattle.std.proofs.Common.{◌<◌, ◌≤◌, length, sym, ◌∙◌, arith}
use Rattle.std.proofs.lemmas.Bool.Decides.{nat_tests}
use Rattle.md_core.specs.Mailbox.{name_cmp}
use Rattle.md_listing.proofs.Keyed.{ordered}
use Rattle.md_listing.proofs.Merged.{both-ended, cur-left, new-left, new-first, cur-first, cur-counts}
use Rattle.md_listing.proofs.merging.Entries.next.Goals as goal

pub returns-in_err-other : goal.returns-in_err-other
returns-in_err-other c =
    let e = c.self.inside in
    let past : length e.of_new.now ≤ e.from_new = grind (arith, nat_tests, c.in_default.ensures.lookup.0) in
    let ended : length e.of_cur.now ≤ e.from_cur = grind (arith, nat_tests, c.in_err-other.ensures.lookup.0) in
    let none = sym c.self.view_is
    ∙ both-ended e.of_new.now e.of_cur.now (ordered _ c.self.invariant.0) (ordered _ c.self.invariant.1) e.from_new e.from_cur past ended in
    rw c.from_residual.ensures (none, none)

pub returns-in_default : goal.returns-in_default
returns-in_default c =
    let e = c.self.inside in
    let past : length e.of_new.now ≤ e.from_new = grind (arith, nat_tests, c.in_default.ensures.lookup.0) in
    let within : e.from_cur < length e.of_cur.now = grind (arith, nat_tests, c.in_ok-other.ensures.lookup.0) in
    sym c.self.view_is
    ∙ cur-left e.of_new.now e.of_cur.now (ordered _ c.self.invariant.0) (ordered _ c.self.invariant.1) e.from_new e.from_cur _ past within
    c.in_ok-other.ensures.lookup.1

pub returns-in_default-get : goal.returns-in_default-get
returns-in_default-get c =
    let e = c.self.inside in
    let past : length e.of_cur.now ≤ e.from_cur = grind (arith, nat_tests, c.in_default-get.ensures.lookup.0) in
    let within : e.from_new < length e.of_new.now = grind (arith, nat_tests, c.in-Some.ensures.lookup.0) in
    sym c.self.view_is
    ∙ new-left e.of_new.now e.of_cur.now (ordered _ c.self.invariant.0) (ordered _ c.self.invariant.1) e.from_new e.from_cur _ past within
    c.in-Some.ensures.lookup.1

pub returns-in-Less : goal.returns-in-Less
returns-in-Less c =
    let e = c.self.inside in
    let within : e.from_new < length e.of_new.now = grind (arith, nat_tests, c.in-Some.ensures.lookup.0) in
    let inside : e.from_cur < length e.of_cur.now = grind (arith, nat_tests, c.in-Some-get.ensures.lookup.0) in
    let order = (λ k. name_cmp (sym c.unique.ensures k) (sym c.unique-2.ensures k)) ∙ sym c.compare.ensures ∙ c.in-Less.is in
    sym c.self.view_is
    ∙ new-first e.of_new.now e.of_cur.now (ordered _ c.self.invariant.0) (ordered _ c.self.invariant.1) e.from_new e.from_cur _ _ within
    c.in-Some.ensures.lookup.1 inside c.in-Some-get.ensures.lookup.1 order

pub returns-in-Equal : goal.returns-in-Equal
returns-in-Equal c =
    let e = c.self.inside in
    let within : e.from_new < length e.of_new.now = grind (arith, nat_tests, c.in-Some.ensures.lookup.0) in
    let inside : e.from_cur < length e.of_cur.now = grind (arith, nat_tests, c.in-Some-get.ensures.lookup.0) in
    let order = (λ k. name_cmp (sym c.unique.ensures k) (sym c.unique-2.ensures k)) ∙ sym c.compare.ensures ∙ c.in-Equal.is in
    sym c.self.view_is
    ∙ cur-counts e.of_new.now e.of_cur.now (ordered _ c.self.invariant.0) (ordered _ c.self.invariant.1) e.from_new e.from_cur _ _ within
    c.in-Some.ensures.lookup.1 inside c.in-Some-get.ensures.lookup.1 order

pub returns-in-Greater : goal.returns-in-Greater
returns-in-Greater c =
    let e = c.self.inside in
    let within : e.from_new < length e.of_new.now = grind (arith, nat_tests, c.in-Some.ensures.lookup.0) in
    let inside : e.from_cur < length e.of_cur.now = grind (arith, nat_tests, c.in-Some-get.ensures.lookup.0) in
    let order = (λ k. name_cmp (sym c.unique.ensures k) (sym c.unique-2.ensures k)) ∙ sym c.compare.ensures ∙ c.in-Greater.is in
    sym c.self.view_is
    ∙ cur-first e.of_new.now e.of_cur.now (ordered _ c.self.invariant.0) (ordered _ c.self.invariant.1) e.from_new e.from_cur _ _ within
    c.in-Some.ensures.lookup.1 inside c.in-Some-get.ensures.lookup.1 order

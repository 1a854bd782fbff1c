use Rattle.std.proofs.Common.{◌∙◌, sym}
use Rattle.md_dirs.proofs.Hashed.{slot-number, link-done, counted-linked, absent}
use Rattle.md_dirs.proofs.index.IndexDirsDirs.link.Goals as goal

pub add_name-requires : goal.add_name-requires
add_name-requires c = slot-number _ _ _ c.self.invariant c.args.old.now c.in-Some.file (sym c.find_file.ensures.file ∙ c.in-Some.is)

pub invariant_of-self-2 : goal.invariant_of-self-2
invariant_of-self-2 c =
    let names = rw (c.if-not-branch.false, c.find_file.ensures.same) at c.in_ok-add_name.ensures.names in
    let slots = rw c.if-not-branch.false at c.in_ok-add_name.ensures.slots in
    let new = rw c.find_file.ensures.same at c.in_ok-add_name.ensures.new in
    let none = absent _ (sym new ∙ c.if-not-branch.false) in
    rw (names, slots)
    (counted-linked _ _ _ c.self.invariant c.args.old.now c.args.new.now c.in-Some.file (sym c.find_file.ensures.file ∙
    c.in-Some.is) c.if-new-self.false none)

pub returns : goal.returns
returns c =
    let names = rw (c.if-not-branch.false, c.find_file.ensures.same) at c.in_ok-add_name.ensures.names in
    let slots = rw c.if-not-branch.false at c.in_ok-add_name.ensures.slots in
    let new = rw c.find_file.ensures.same at c.in_ok-add_name.ensures.new in
    let none = absent _ (sym new ∙ c.if-not-branch.false) in
    record {
      meets = rw (← c.self.view_is, names, slots)
          (link-done _ _ _ c.self.invariant c.args.old.now c.args.new.now c.in-Some.file _ _ (sym c.find_file.ensures.file ∙
          c.in-Some.is) c.if-new-self.false none c.raise-2.ensures);
    }

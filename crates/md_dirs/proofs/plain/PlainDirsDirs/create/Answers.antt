use Rattle.std.proofs.Common.{◌∙◌, sym}
use Rattle.md_dirs.specs.Calls.{empty_file}
use Rattle.md_dirs.proofs.Hashed.{counted-made, absent}
use Rattle.md_dirs.proofs.plain.PlainDirsDirs.create.Goals as goal

pub invariant_of-self-2 : goal.invariant_of-self-2
invariant_of-self-2 c =
    let names = rw c.if-not-branch.false at c.in_ok-add_file.ensures.names in
    let slots = rw (c.if-not-branch.false, c.of.ensures, c.new.ensures.items) at c.in_ok-add_file.ensures.slots in
    let none = absent _ (sym c.in_ok-add_file.ensures.new ∙ c.if-not-branch.false) in
    rw (names, slots) (counted-made _ _ _ c.self.invariant c.args.path.now (empty_file c.args.now) c.if-path-self.false none)

use Rattle.std.proofs.Common.{◌∙◌, sym}
use Rattle.md_dirs.proofs.Hashed.{slot-number, unlink-done, unlink-nothing, counted-unlinked, counted-nothing}
use Rattle.md_dirs.proofs.index.IndexDirsDirs.unlink.Goals as goal

pub invariant_of-self : goal.invariant_of-self
invariant_of-self c = rw c.take.ensures.gone (counted-nothing _ _ _ c.self.invariant c.args.path.now (sym c.take.ensures.file ∙ c.in_default.is))

pub returns-in_default-clause-meets : goal.returns-in_default-clause-meets
returns-in_default-clause-meets c =
    rw (← c.self.view_is, c.take.ensures.gone)
    (unlink-nothing _ _ _ c.self.invariant c.args.path.now _ _ (sym c.take.ensures.file ∙ c.in_default.is)
    c.raise.ensures)

pub release_one-requires : goal.release_one-requires
release_one-requires c = slot-number _ _ _ c.self.invariant c.args.path.now c.in-Some.file (sym c.take.ensures.file ∙ c.in-Some.is)

pub invariant_of-self-2 : goal.invariant_of-self-2
invariant_of-self-2 c =
    rw (c.take.ensures.gone, c.release_one.ensures)
    (counted-unlinked _ _ _ c.self.invariant c.args.path.now c.in-Some.file (sym c.take.ensures.file ∙ c.in-Some.is))

pub returns-clause-meets : goal.returns-clause-meets
returns-clause-meets c =
    rw (← c.self.view_is, c.take.ensures.gone, c.release_one.ensures)
    (unlink-done _ _ _ c.self.invariant c.args.path.now c.in-Some.file _ _ (sym c.take.ensures.file ∙ c.in-Some.is) c.raise-2.ensures)

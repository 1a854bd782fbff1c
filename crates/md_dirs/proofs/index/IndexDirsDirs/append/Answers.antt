use Rattle.std.proofs.Common.{◌∙◌, sym}
use Rattle.md_dirs.proofs.Hashed.{slot-number, append-done, counted-grown}
use Rattle.md_dirs.proofs.index.IndexDirsDirs.append.Goals as goal

pub grow-requires : goal.grow-requires
grow-requires c = slot-number _ _ _ c.self.invariant c.args.path.now c.in-Some.file (sym c.find_file.ensures.file ∙ c.in-Some.is)

pub invariant_of-self-2 : goal.invariant_of-self-2
invariant_of-self-2 c =
    rw (c.find_file.ensures.same, c.in_ok-grow.ensures.ok)
    (counted-grown _ _ _ c.self.invariant c.args.path.now c.args.bytes.now c.args.now c.in-Some.file (sym c.find_file.ensures.file ∙ c.in-Some.is))

pub returns : goal.returns
returns c =
    record {
      meets = rw (← c.self.view_is, c.find_file.ensures.same, c.in_ok-grow.ensures.ok)
          (append-done _ _ _ c.self.invariant c.args.path.now c.args.bytes.now c.args.now c.in-Some.file _ _ (sym c.find_file.ensures.file ∙ c.in-Some.is) c.raise-2.ensures);
    }

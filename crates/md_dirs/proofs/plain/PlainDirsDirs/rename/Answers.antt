use Rattle.std.proofs.Common.{◌∙◌, sym}
use Rattle.md_dirs.proofs.Hashed.{slot-number_if, rename-done, counted-moved}
use Rattle.md_dirs.proofs.plain.PlainDirsDirs.rename.Goals as goal

pub release_one-requires : goal.release_one-requires
release_one-requires c = slot-number_if _ _ _ c.self.invariant c.args.new.now c.file_at-there.result (sym c.file_at-there.ensures)

pub invariant_of-self-2 : goal.invariant_of-self-2
invariant_of-self-2 c =
    let differ = sym c.is_same.ensures ∙ c.if-is_same.false in
    rw (c.take-gone.ensures.gone, c.in_ok-put.ensures.ok, c.release_one.ensures)
    (counted-moved _ _ _ c.self.invariant c.args.old.now c.args.new.now c.in-Some.file c.file_at-there.result
    (sym c.file_at.ensures ∙ c.in-Some.is) c.if-new-self.false (sym c.file_at-there.ensures) differ)

pub returns : goal.returns
returns c =
    let differ = sym c.is_same.ensures ∙ c.if-is_same.false in
    record {
      meets = rw (← c.self.view_is, c.take-gone.ensures.gone, c.in_ok-put.ensures.ok, c.release_one.ensures)
          (rename-done _ _ _ c.self.invariant c.args.old.now c.args.new.now c.in-Some.file c.file_at-there.result _ _
          (sym c.file_at.ensures ∙ c.in-Some.is) c.if-new-self.false (sym c.file_at-there.ensures) differ c.raise-2.ensures);
    }

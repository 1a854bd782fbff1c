use Rattle.std.proofs.Common.{None, refl, ◌∙◌, sym, ap}
use Rattle.std.specs.FinMap as finmap
use Rattle.md_dirs.proofs.Hashed.{slot-number_if, rename-done, counted-moved}
use Rattle.md_dirs.proofs.index.IndexDirsDirs.rename.Goals as goal

pub invariant_of-self-then-branch : goal.invariant_of-self-then-branch
invariant_of-self-then-branch c =
    let at = sym c.find_file.ensures.file ∙ c.in-Some.is in
    let free = ap (λ m. finmap.get m c.args.new.now) (sym c.find_file.ensures.same) ∙ c.in_ok-rename_free.ensures.free c.if-branch.true in
    let moved = rw c.find_file.ensures.same at (c.in_ok-rename_free.ensures.done c.if-branch.true) in
    rw moved
    (counted-moved _ _ _ c.self.invariant c.args.old.now c.args.new.now c.in-Some.file None at c.if-new-self.false
    free refl)

pub returns-then-branch : goal.returns-then-branch
returns-then-branch c =
    let at = sym c.find_file.ensures.file ∙ c.in-Some.is in
    let free = ap (λ m. finmap.get m c.args.new.now) (sym c.find_file.ensures.same) ∙ c.in_ok-rename_free.ensures.free c.if-branch.true in
    let moved = rw c.find_file.ensures.same at (c.in_ok-rename_free.ensures.done c.if-branch.true) in
    record {
      meets = rw (← c.self.view_is, moved)
          (rename-done _ _ _ c.self.invariant c.args.old.now c.args.new.now c.in-Some.file None _ _
          at c.if-new-self.false free refl c.raise-then-branch.ensures);
    }

pub release_one-requires : goal.release_one-requires
release_one-requires c =
    let kept = c.in_ok-rename_free.ensures.kept c.if-branch.false ∙ c.find_file.ensures.same in
    let there = ap (λ m. finmap.get m c.args.new.now) (sym kept) ∙ sym c.file_at-there.ensures in
    slot-number_if _ _ _ c.self.invariant c.args.new.now c.file_at-there.result there

pub invariant_of-self-2 : goal.invariant_of-self-2
invariant_of-self-2 c =
    let at = sym c.find_file.ensures.file ∙ c.in-Some.is in
    let kept = c.in_ok-rename_free.ensures.kept c.if-branch.false ∙ c.find_file.ensures.same in
    let there = ap (λ m. finmap.get m c.args.new.now) (sym kept) ∙ sym c.file_at-there.ensures in
    let differ = sym c.is_same.ensures ∙ c.if-is_same.false in
    let moved = rw kept at c.in_ok-replace.ensures.ok in
    rw (moved, c.release_one.ensures)
    (counted-moved _ _ _ c.self.invariant c.args.old.now c.args.new.now c.in-Some.file c.file_at-there.result
    at c.if-new-self.false there differ)

pub returns : goal.returns
returns c =
    let at = sym c.find_file.ensures.file ∙ c.in-Some.is in
    let kept = c.in_ok-rename_free.ensures.kept c.if-branch.false ∙ c.find_file.ensures.same in
    let there = ap (λ m. finmap.get m c.args.new.now) (sym kept) ∙ sym c.file_at-there.ensures in
    let differ = sym c.is_same.ensures ∙ c.if-is_same.false in
    let moved = rw kept at c.in_ok-replace.ensures.ok in
    record {
      meets = rw (← c.self.view_is, moved, c.release_one.ensures)
          (rename-done _ _ _ c.self.invariant c.args.old.now c.args.new.now c.in-Some.file c.file_at-there.result _ _
          at c.if-new-self.false there differ c.raise-2.ensures);
    }

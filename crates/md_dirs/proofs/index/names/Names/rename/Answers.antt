use Rattle.std.proofs.Common.{[], ◌≡◌, ◌∙◌, Result, Ok, Err, Bool, None, IfOk, IsTrue}
use Rattle.std.proofs.lemmas.List.{nil_from_length}
use Rattle.std.proofs.lemmas.Result.{IfOk-weaker}
use Rattle.std.specs.Option.{option_or}
use Rattle.md_dirs.specs.Index.{get_name}
use Rattle.md_dirs.proofs.Alike.{get-both, renamed-rows, renamed-view, other-missing}
use Rattle.md_dirs.proofs.index.names.Names.rename.Goals as goal

of-both : {T E : Type 0} (r : Result T E) (P Q R : T → Type 0) → ((x : T) → P x → Q x → R x) → IfOk r P → IfOk r Q → IfOk r R
of-both (Ok x) P Q R by p q = by x p q
of-both (Err e) P Q R by p q = tt

pub returns-clause-free : goal.returns-clause-free
returns-clause-free c =
    let rows = c.self.inside.table.keys in
    let others = c.self.inside.others.entries in
    let new = c.args.new.now in
    let none : others ≡ [] = nil_from_length others (c.is_empty.ensures.0 c.if-not-is_empty.false) in
    IfOk-weaker c.rename_row.result _ _ (λ (is_done : Bool) (free : IsTrue is_done → get_name rows new ≡ None) t. rw (← c.self.view_is)
    (get-both rows others new ∙ (λ i. option_or (free t i) (get_name (none i) new)))) c.rename_row.ensures.free

pub returns-clause-done : goal.returns-clause-done
returns-clause-done c =
    let rows = c.self.inside.table.keys in
    let others = c.self.inside.others.entries in
    of-both c.rename_row.result _ _ _ (λ is_done there names t.
    let gone = other-missing rows others c.args.old.now c.self.invariant.apart (there t) in
    rw (← c.self.view_is) (renamed-view _ _ c.args.old.now c.args.new.now c.args.file
    (renamed-rows rows others c.rename_row.new.table.keys c.args.old.now c.args.new.now c.args.file gone (names t))))
    c.rename_row.ensures.there c.rename_row.ensures.names

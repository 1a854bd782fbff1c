use Rattle.std.proofs.Common.{◌≡◌, Some, None, ◌∙◌, ap, cond}
use Rattle.md_dirs.specs.Named.{Row}
use Rattle.md_dirs.specs.Index.{get_name}
use Rattle.md_dirs.proofs.NameRows.{same}
use Rattle.md_dirs.proofs.Renamed.{found-key}
use Rattle.md_dirs.proofs.index.names.take_beside.Goals as goal

same_some : {X : Type 0} {x y : X} → Some x ≡ Some y → x ≡ y
same_some is = cc

pub returns-clause-names : goal.returns-clause-names
returns-clause-names c q =
    let es = c.args.others.now.entries in
    let key = found-key c.lent-key.result es c.in_ok-at.field-0-1.now c.in_ok-at.ensures.key ∙ c.lent-key.ensures in
    let rows : Some (c.in_ok-file.field-0-0, c.in_ok-file.file) ≡ Some (c.in_ok-at.field-0-1.now, c.in_ok-at.field-0-2.now) = c.in_ok-file.ensures.entry ∙ c.in_ok-at.ensures.entry in
    let name : c.in_ok-file.field-0-0 ≡ c.args.name.now = ap (λ (e : Row). e.0) (same_some rows) ∙ key in
    c.in_ok-file.ensures.updates.0 q ∙ ap (λ n. cond (same n q) None (get_name es q)) name

use Rattle.std.proofs.Common.{◌++◌, ◌∷◌, [], List, sym, ap, ◌∙◌}
use Rattle.md_dirs.specs.Rows.{rows_of}
use Rattle.md_dirs.specs.declared.rows.Row.{Row}
use Rattle.md_dirs.proofs.Lent.{none-next, one-next, past}
use Rattle.md_dirs.proofs.calls.Dirs.rows_from.Goals.{in-Some+in_ok-push, in_default}
use Rattle.md_dirs.proofs.calls.Dirs.rows_from.Goals as goal

pub returns : goal.returns
returns g c =
    let all = rows_of (g.Self.Dirs.device c.args.self.now).state c.args.folder c.args.place in
    elim c.match-row_at.branch [
      | in-Some+in_ok-push w ↦
          one-next all _ c.args.from w.in-Some.row (sym w.in-Some.ensures.row)
          (ap (λ v. v.items) w.rows-is ∙ w.in_ok-push.ensures.items ∙ ap (λ (rows : List Row). rows ++ w.in-Some.row ∷ []) c.new-rows.ensures.items)
      | in_default w ↦
          none-next all _ c.args.from (past all c.args.from (sym w.in_default.ensures.row))
          (ap (λ v. v.items) w.rows-is ∙ c.new-rows.ensures.items)
    ]

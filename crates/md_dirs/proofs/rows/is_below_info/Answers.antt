use Rattle.std.proofs.Common.{◌≤◌, ◌-◌, ◌∙◌, sym, ap, cond, drop, length, arith, length-drop}
use Rattle.std.proofs.lemmas.List.{take_all}
use Rattle.std.specs.Ordering.{is_lt}
use Rattle.md_dirs.specs.Find.{before_colon}
use Rattle.md_dirs.specs.Index.{name_cmp}
use Rattle.md_dirs.proofs.Zones.{below-info}
use Rattle.md_dirs.proofs.rows.is_below_info.Goals as goal

pub returns-then-starts_with : goal.returns-then-starts_with
returns-then-starts_with c =
    let u = c.args.unique.now in
    let a = c.args.name.now in
    let whole : length (drop (length u) a) ≤ length a - length u = omega (arith, length-drop (length u) a) in
    c.goes_before_colon.ensures ∙ ap before_colon (take_all (length a - length u) (drop (length u) a) whole)
    ∙ sym (below-info u a ∙
    ap (λ b. cond b (before_colon (drop (length u) a)) (is_lt (name_cmp a u))) (sym c.starts_with.ensures.value ∙ c.if-starts_with.true))

pub returns-else-starts_with : goal.returns-else-starts_with
returns-else-starts_with c =
    let u = c.args.unique.now in
    let a = c.args.name.now in
    c.is_lt.ensures ∙ ap is_lt c.cmp.ensures
    ∙ sym (below-info u a ∙
    ap (λ b. cond b (before_colon (drop (length u) a)) (is_lt (name_cmp a u))) (sym c.starts_with.ensures.value ∙ c.if-starts_with.false))

use Rattle.std.proofs.Common.{◌≡◌, ◌<◌, ◌≤◌, ◌||◌, ◌∙◌, Some, Result, Ok, Err, OnErr, length, slice_get, sym, ap, arith}
use Rattle.std.proofs.lemmas.List.{take_all}
use Rattle.std.proofs.lemmas.Option.{slice_get-get_or}
use Rattle.md_core.proofs.Values.{list_any, bytes_eq, is_among}
use Rattle.md_core.proofs.Worlds.Gathered.{row-more, still-used}
use Rattle.md_core.proofs.Worlds.Holding.{rows-there}
use Rattle.md_core.proofs.world.looking.names.use_tmp.Goals as goal

on-err : {X E : Type 0} {P : Type 0} (r : Result X E) → P → OnErr r P
on-err (Ok x) p = tt
on-err (Err e) p = p

pub loop-row-preserved : goal.loop-row-preserved
loop-row-preserved g c =
    let rows = c.in_ok-rows.rows.items in
    let at = c.loop-row.row in
    let row = c.index.result.now in
    let within : at < length rows = omega (arith, c.loop-row-test.true, c.len-row-end.ensures, c.in_ok-rows.rows.ok.0) in
    let is : slice_get rows at ≡ Some row = slice_get-get_or rows at row within ∙ ap Some (sym c.index.ensures) in
    λ u. c.in_ok-insert.ensures.ok u
    ∙ (λ i. bytes_eq (c.name.ensures i) u || c.loop-row.invariant u i)
    ∙ row-more rows at row is u (is_among u c.args.names.now)

pub returns-clause-ok : goal.returns-clause-ok
returns-clause-ok g c =
    let s = (g.D.Dirs.device c.args.dirs.now).state in
    let rows = c.in_ok-rows.rows.items in
    let end : length rows ≤ c.loop-row.row =
    omega (arith, c.loop-row-test.false, c.loop-row.auto.row-end, c.len-row-end.ensures, c.in_ok-rows.rows.ok.0) in
    λ u.
    c.loop-row.invariant u
    ∙ ap (λ b. b || is_among u c.args.names.now)
    (ap (list_any (λ r. bytes_eq r.name u)) (take_all c.loop-row.row rows end) ∙ rows-there s c.args.folder u rows c.in_ok-rows.ensures)

pub returns-in_err-insert-clause-err : goal.returns-in_err-insert-clause-err
returns-in_err-insert-clause-err g c =
    on-err c.from_residual-in_err-insert.result
    (still-used (g.D.Dirs.device c.args.dirs.now).state c.args.folder c.in_ok-rows.rows.items c.loop-row.row c.args.names.now c.insert.new.self
    c.in_ok-rows.ensures (λ u. ap (is_among u) c.in_err-insert.ensures.err ∙ c.loop-row.invariant u))

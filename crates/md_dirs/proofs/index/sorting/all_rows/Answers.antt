use Rattle.std.proofs.Common.{[], ◌≡◌, ◌<◌, ◌++◌, ◌∷◌, ◌∙◌, sym, ap, arith, get_or, length, map, take}
use Rattle.std.proofs.lemmas.List.{take_more, map_push, append_assoc}
use Rattle.std.specs.Option.{option_map, option_copied}
use Rattle.std.specs.Map.Iter.{deref_pair}
use Rattle.md_dirs.specs.Least.{lent_row}
use Rattle.md_dirs.proofs.Ordered.{read}
use Rattle.md_dirs.proofs.index.sorting.all_rows.Goals as goal

pub loop-at-preserved : goal.loop-at-preserved
loop-at-preserved c =
    let es = c.args.table.now.keys in
    let at = c.loop-at.at in
    let within : at < length es = omega (arith, c.len-at-end.ensures.len, c.loop-at-test.true) in
    let here : get_or es at ([], 0) ≡ c.unwrap.result.now = read es at c.unwrap.result.now (sym c.get_index.ensures.key ∙ ap option_copied c.unwrap.ensures) in
    let row : lent_row c.row.result ≡ get_or es at ([], 0) = c.row.ensures ∙ sym here in
    ap (map lent_row) c.in_ok-push.ensures.items ∙ map_push lent_row c.loop-at.rows.items c.row.result
    ∙ (λ j. c.loop-at.invariant j ++ row j ∷ [])
    ∙ sym (take_more es at ([], 0) within)

pub loop-at-2-preserved : goal.loop-at-2-preserved
loop-at-2-preserved c =
    let es = c.args.table.now.keys in
    let fs = c.args.others.now.entries in
    let at = c.loop-at-2.at in
    let pair = c.unwrap-in-loop-at-2.result in
    let within : at < length fs = omega (arith, c.len-at-end-2.ensures.len, c.loop-at-2-test.true) in
    let here : get_or fs at ([], 0) ≡ (pair.0.now, pair.1.now) =
    read fs at (pair.0.now, pair.1.now) (sym c.get_index-in-loop-at-2.ensures.entry ∙ ap (option_map deref_pair) c.unwrap-in-loop-at-2.ensures) in
    let row : (c.as_slice.result.now, pair.1.now) ≡ get_or fs at ([], 0) = ap (λ n. (n, pair.1.now)) c.as_slice.ensures ∙ sym here in
    ap (map lent_row) c.in_ok-push-2.ensures.items ∙ map_push lent_row c.loop-at-2.rows.items (c.as_slice.result, pair.1.now)
    ∙ (λ j. c.loop-at-2.invariant j ++ row j ∷ [])
    ∙ append_assoc es (take at fs) (get_or fs at ([], 0) ∷ [])
    ∙ ap (λ x. es ++ x) (sym (take_more fs at ([], 0) within))

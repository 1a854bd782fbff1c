use Rattle.std.proofs.Common.{[], ◌≡◌, ◌<◌, ◌++◌, ◌∷◌, ◌∙◌, sym, ap, arith, get_or, length, map, take}
use Rattle.std.proofs.lemmas.List.{take_more, map_push, append_assoc}
use Rattle.std.specs.Option.{option_map}
use Rattle.std.specs.Map.Iter.{deref_pair}
use Rattle.md_dirs.specs.Files.{files_of, name_row}
use Rattle.md_dirs.specs.Slots.{slots_of}
use Rattle.md_dirs.proofs.Ordered.{read}
use Rattle.md_dirs.proofs.index.lying.with_others.Goals as goal

pub loop-at-preserved : goal.loop-at-preserved
loop-at-preserved c =
    let es = c.args.others.now.entries in
    let files = files_of (slots_of c.args.slots.now) in
    let at = c.loop-at.at in
    let pair = c.unwrap.result in
    let within : at < length es = omega (arith, c.len-at-end.ensures.len, c.loop-at-test.true) in
    let here : get_or es at ([], 0) ≡ (pair.0.now, pair.1.now) =
    read es at (pair.0.now, pair.1.now) (sym c.get_index.ensures.entry ∙ ap (option_map deref_pair) c.unwrap.ensures) in
    let row : (c.as_slice.result.now, pair.1.now) ≡ get_or es at ([], 0) = ap (λ n. (n, pair.1.now)) c.as_slice.ensures ∙ sym here in
    let shown : c.shown_row.result ≡ name_row files (get_or es at ([], 0)) = c.shown_row.ensures ∙ ap (name_row files) row in
    c.in_ok-push.ensures.items
    ∙ (λ j. c.loop-at.invariant j ++ shown j ∷ [])
    ∙ append_assoc c.args.lent.items (map (name_row files) (take at es)) (name_row files (get_or es at ([], 0)) ∷ [])
    ∙ ap (λ rows. c.args.lent.items ++ rows)
    (sym (map_push (name_row files) (take at es) (get_or es at ([], 0))) ∙ ap (map (name_row files)) (sym (take_more es at ([], 0) within)))

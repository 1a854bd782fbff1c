use Rattle.std.proofs.Common.{[], ◌≡◌, ◌<◌, ◌++◌, ◌∷◌, ◌∙◌, sym, ap, subst, arith, get_or, length, map, take, IsSome}
use Rattle.std.proofs.lemmas.List.{take_more, map_push, length-map, get_or-map}
use Rattle.std.proofs.lemmas.List.Elements.{All-get_or}
use Rattle.std.specs.Option.{option_copied}
use Rattle.md_dirs.specs.State.{file_by}
use Rattle.md_dirs.specs.Files.{files_of, name_row}
use Rattle.md_dirs.specs.Slots.{slots_of}
use Rattle.md_dirs.specs.Index.{rows_at}
use Rattle.md_dirs.proofs.NameRows.{Row}
use Rattle.md_dirs.proofs.Ordered.{read}
use Rattle.md_dirs.proofs.index.names.lent_rows.Goals as goal

pub shown-requires : goal.shown-requires
shown-requires c =
    let es = c.args.table.now.keys in
    let ps = c.args.positions.now in
    let i = c.loop-at.at-index in
    let within : i < length ps = c.loop-at-test.true in
    let long = length-map ps (λ k. get_or es k ([], 0)) in
    let here : get_or es (get_or ps i 0) ([], 0) ≡ c.unwrap-row.result.now =
    read es (get_or ps i 0) c.unwrap-row.result.now (sym c.get_index.ensures.key ∙ ap option_copied c.unwrap-row.ensures) in
    subst (λ (r : Row). IsSome (file_by (files_of (slots_of c.args.slots.now)) r.1)) (get_or-map (λ k. get_or es k ([], 0)) ps i 0 ([], 0) within ∙ here)
    (All-get_or (λ r. IsSome (file_by (files_of (slots_of c.args.slots.now)) r.1)) (rows_at es ps) i ([], 0) (omega (arith, within, long)) c.requires.filed)

pub loop-at-preserved : goal.loop-at-preserved
loop-at-preserved c =
    let es = c.args.table.now.keys in
    let ps = c.args.positions.now in
    let files = files_of (slots_of c.args.slots.now) in
    let i = c.loop-at.at-index in
    let within : i < length ps = c.loop-at-test.true in
    let here : get_or es (get_or ps i 0) ([], 0) ≡ c.unwrap-row.result.now =
    read es (get_or ps i 0) c.unwrap-row.result.now (sym c.get_index.ensures.key ∙ ap option_copied c.unwrap-row.ensures) in
    let shown : c.shown.result ≡ name_row files (get_or es (get_or ps i 0) ([], 0)) = c.shown.ensures ∙ ap (name_row files) (sym here) in
    c.in_ok-push.ensures.items
    ∙ (λ j. c.loop-at.invariant j ++ shown j ∷ [])
    ∙ sym (map_push (name_row files) (rows_at es (take i ps)) (get_or es (get_or ps i 0) ([], 0)))
    ∙ ap (map (name_row files)) (sym (map_push (λ k. get_or es k ([], 0)) (take i ps) (get_or ps i 0)))
    ∙ ap (λ x. map (name_row files) (rows_at es x)) (sym (take_more ps i 0 within))

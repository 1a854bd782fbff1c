use Rattle.std.proofs.Common.{[], ◌≡◌, ◌<◌, ◌++◌, ◌∷◌, ◌∙◌, sym, ap, subst, arith, get_or, length, map, take, All, IsSome}
use Rattle.std.proofs.lemmas.List.{take_more, take_all, map_push, length-map, get_or-map, drop-map}
use Rattle.std.proofs.lemmas.List.Elements.{All-get_or, All-drop}
use Rattle.std.specs.FinMap as finmap
use Rattle.md_dirs.specs.State.{file_by}
use Rattle.md_dirs.specs.Files.{files_of, name_row}
use Rattle.md_dirs.specs.Slots.{slots_of}
use Rattle.md_dirs.specs.Index.{name_cmp, rows_at, IsOrderOf}
use Rattle.md_dirs.specs.Least.{lent_row}
use Rattle.md_dirs.proofs.NameRows.{Row}
use Rattle.md_dirs.proofs.Arranged.{rest-row, rest-listed}
use Rattle.md_dirs.proofs.index.names.sorted_rows.Goals as goal

pub shown_row-requires : goal.shown_row-requires
shown_row-requires c =
    let es = map lent_row c.args.rows.now in
    let ps = c.rest_of-positions.result.now in
    let i = c.loop-at.at-index in
    let Filed = λ (r : Row). IsSome (file_by (files_of (slots_of c.args.slots.now)) r.1) in
    let within : i < length ps = c.loop-at-test.true in
    let long = length-map ps (λ k. get_or es k ([], 0)) in
    let order : IsOrderOf es c.deref.result.now = subst (IsOrderOf es) (sym c.deref.ensures.value) c.in_ok-order.ensures in
    let all : All Filed (rows_at es ps) =
    subst (All Filed) (sym (rest-listed c.args.rows.now c.deref.result.now ps c.args.from order c.rest_of-positions.ensures))
    (All-drop Filed c.args.from _ c.requires.filed) in
    subst Filed (get_or-map (λ k. get_or es k ([], 0)) ps i 0 ([], 0) within ∙ sym (rest-row c.args.rows.now c.deref.result.now ps c.args.from
    order c.rest_of-positions.ensures i _ within))
    (All-get_or Filed (rows_at es ps) i ([], 0) (omega (arith, within, long)) all)

pub loop-at-preserved : goal.loop-at-preserved
loop-at-preserved c =
    let es = map lent_row c.args.rows.now in
    let ps = c.rest_of-positions.result.now in
    let files = files_of (slots_of c.args.slots.now) in
    let i = c.loop-at.at-index in
    let within : i < length ps = c.loop-at-test.true in
    let order : IsOrderOf es c.deref.result.now = subst (IsOrderOf es) (sym c.deref.ensures.value) c.in_ok-order.ensures in
    let shown : c.shown_row.result ≡ name_row files (get_or es (get_or ps i 0) ([], 0)) =
    c.shown_row.ensures ∙ ap (name_row files) (rest-row c.args.rows.now c.deref.result.now ps c.args.from order c.rest_of-positions.ensures i _ within) in
    c.in_ok-push.ensures.items
    ∙ (λ j. c.loop-at.invariant j ++ shown j ∷ [])
    ∙ sym (map_push (name_row files) (rows_at es (take i ps)) (get_or es (get_or ps i 0) ([], 0)))
    ∙ ap (map (name_row files)) (sym (map_push (λ k. get_or es k ([], 0)) (take i ps) (get_or ps i 0)))
    ∙ ap (λ x. map (name_row files) (rows_at es x)) (sym (take_more ps i 0 within))

pub returns : goal.returns
returns c =
    let es = map lent_row c.args.rows.now in
    let ps = c.rest_of-positions.result.now in
    let files = files_of (slots_of c.args.slots.now) in
    let order : IsOrderOf es c.deref.result.now = subst (IsOrderOf es) (sym c.deref.ensures.value) c.in_ok-order.ensures in
    c.loop-at.invariant
    ∙ ap (λ x. map (name_row files) (rows_at es x)) (take_all c.loop-at.at-index ps (omega (arith, c.loop-at-test.false)))
    ∙ ap (map (name_row files)) (rest-listed c.args.rows.now c.deref.result.now ps c.args.from order c.rest_of-positions.ensures)
    ∙ sym (drop-map (name_row files) c.args.from (finmap.entries {R = name_cmp} (finmap.from_entries es)))

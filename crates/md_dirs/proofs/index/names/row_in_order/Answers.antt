use Rattle.std.proofs.Common.{◌≡◌, ◌≤◌, ◌<◌, ◌∙◌, [], length, get_or, slice_get, ap, sym, arith}
use Rattle.std.proofs.lemmas.Bool.{ltb-true, ltb-false}
use Rattle.std.proofs.lemmas.List.{get_or_read}
use Rattle.std.proofs.lemmas.Option.{slice_get_past, slice_get-get_or}
use Rattle.std.specs.Option.{option_map}
use Rattle.md_dirs.proofs.Ordered.{listed, long}
use Rattle.md_dirs.proofs.Least.{arranged-at}
use Rattle.md_dirs.proofs.index.names.row_in_order.Goals as goal

pub returns-in_err-position : goal.returns-in_err-position
returns-in_err-position c =
    let rows = c.args.table.now.keys in
    let past : length c.args.order.now ≤ c.args.at = ltb-false _ _ (sym c.in_err-position.ensures.lookup.0) in
    ap (option_map (λ r. r.now)) c.from_residual.ensures ∙
    sym (slice_get_past (listed rows) c.args.at (omega (arith, past, long rows c.args.order.now c.requires)))

pub returns : goal.returns
returns c =
    let rows = c.args.table.now.keys in
    let order = c.args.order.now in
    let i = c.in_ok-position.position.now in
    let inner : c.args.at < length order = ltb-true _ _ (sym c.in_ok-position.ensures.lookup.0) in
    let within : c.args.at < length (listed rows) = omega (arith, inner, long rows order c.requires) in
    let place : i ≡ get_or order c.args.at 0 = get_or_read order c.args.at i inner c.in_ok-position.ensures.lookup.1 0 in
    let read = slice_get-get_or rows (get_or order c.args.at 0) ([], 0) (c.requires.within c.args.at 0 inner) in
    c.get_index.ensures.key ∙ ap (slice_get rows) place ∙ read ∙ arranged-at rows order c.args.at _ c.requires within read

use Rattle.std.proofs.Common.{◌≡◌, ◌∙◌, List, Some, None, length, slice_get, ap, sym, refl, arith, position}
use Rattle.std.proofs.lemmas.Option.{slice_get_read}
use Rattle.std.specs.Option.{option_map}
use Rattle.md_dirs.specs.Named.{Row, is_alike}
use Rattle.md_dirs.proofs.Least.{found, not-found}
use Rattle.md_dirs.proofs.index.names.row_named.Goals as goal

pub returns-in_err-at : goal.returns-in_err-at
returns-in_err-at c =
    let missed : position (is_alike (c.args.key.now.0, 0)) c.args.table.now.keys ≡ None = sym c.get_index_of.ensures.index ∙ c.in_err-at.was in
    ap (option_map (λ r. r.now)) c.from_residual.ensures ∙ sym (not-found c.args.key.now.0 c.requires c.args.table.now.keys missed)

pub returns : goal.returns
returns c =
    let rows = c.args.table.now.keys in
    let row = c.index-as_slice-at.result in
    let there : position (is_alike (c.args.key.now.0, 0)) rows ≡ Some c.in_ok-at.at = sym c.get_index_of.ensures.index ∙ c.in_ok-at.was in
    let read : slice_get rows c.in_ok-at.at ≡ Some row =
    ap (λ (es : List Row). slice_get es c.in_ok-at.at) (sym c.as_slice.ensures.keys)
    ∙ slice_get_read c.as_slice.result.now (length c.as_slice.result.now) c.in_ok-at.at row refl
    (omega (arith, c.in_ok-at.ensures.within, ap length c.as_slice.ensures.keys)) c.index-as_slice-at.is in
    sym read ∙ sym (found c.args.key.now.0 c.requires rows c.in_ok-at.at c.as_slice.ensures.unique there)

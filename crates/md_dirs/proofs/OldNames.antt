-- The next rows of a directory, behind those whose old names are kept.
use Rattle.std.proofs.Common.{ℕ, ◌≡◌, ◌≤◌, ◌+◌, List, ◌++◌, length, map, filter, take, drop, sym, ap, ◌∙◌, arith}
use Rattle.std.proofs.Math.Seq.{take-add}
use Rattle.std.proofs.lemmas.List.Elements.{filter-append}
use Rattle.std.proofs.lemmas.List.{length-drop, length-take, map-append}
use Rattle.md_dirs.specs.Lent.{AreNext}
use Rattle.md_dirs.specs.Rows.{old_names, is_old}
use Rattle.md_dirs.specs.declared.rows.Row.{Row}

-- those of more rows follow
pub old-append : (now seconds : ℕ) (rows more : List Row) → old_names now seconds (rows ++ more) ≡ old_names now seconds rows ++ old_names now seconds more
old-append now seconds rows more =
    ap (map (λ (row : Row). row.name)) (filter-append (is_old now seconds) rows more)
    ∙ map-append (λ (row : Row). row.name) (filter (is_old now seconds) rows) (filter (is_old now seconds) more)

module _ (now seconds : ℕ) (all rows : List Row) (from : ℕ) (next : AreNext all from rows) where
  pub next-within : from ≤ length all → from + length rows ≤ length all
  next-within within =
      let cut = ap length next.each ∙ length-take (length rows) (drop from all) in
      let rest = length-drop from all in
      omega (arith, within, cut, rest)

  pub next-old : old_names now seconds (take from all) ++ old_names now seconds rows ≡ old_names now seconds (take (from + length rows) all)
  next-old =
      ap (λ (rs : List Row). old_names now seconds (take from all) ++ old_names now seconds rs) next.each
      ∙ sym (old-append now seconds (take from all) (take (length rows) (drop from all)))
      ∙ ap (old_names now seconds) (sym (take-add from (length rows) all))

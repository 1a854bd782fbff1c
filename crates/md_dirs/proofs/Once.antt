-- A table without names beside it holds each unique part once.
use Rattle.std.proofs.Common.{ℕ, ◌≡◌, ◌++◌, ◌∙◌, List, [], IsSome, refl, sym, ap, subst}
use Rattle.std.specs.List.{IsDistinct}
use Rattle.std.specs.Option.{option_or}
use Rattle.std.specs.FinMap as finmap
use Rattle.std.specs.FinMap.{from_entries}
use Rattle.md_name.specs.Names.{unique_of}
use Rattle.md_dirs.specs.Index.{name_cmp, get_name}
use Rattle.md_dirs.specs.Named.{Row, is_alike}
use Rattle.md_dirs.specs.Once.{EachOnce}
use Rattle.lists.proofs.Options.{value, or-none}
use Rattle.md_dirs.proofs.Alike.{get-both, found-row, tested}

in-table : (rows others : List Row) → others ≡ [] → (q : List ℕ) → finmap.get (from_entries {R = name_cmp} (rows ++ others)) q ≡ get_name rows q
in-table rows others none q =
    get-both rows others q ∙ ap (λ es. option_or (get_name rows q) (get_name es q)) none ∙ or-none (get_name rows q)

pub each-once : (rows others : List Row) → IsDistinct is_alike rows → others ≡ [] →
    EachOnce (finmap.get (from_entries {R = name_cmp} (rows ++ others)))
each-once rows others distinct none a b has_a has_b one =
    let file_a = value (get_name rows a) (subst IsSome (in-table rows others none a) has_a) in
    let file_b = value (get_name rows b) (subst IsSome (in-table rows others none b) has_b) in
    let row_a = found-row (a, 0) rows a file_a.0 distinct (tested (unique_of a) (unique_of a) refl) file_a.1 in
    let row_b = found-row (a, 0) rows b file_b.0 distinct (tested (unique_of a) (unique_of b) one) file_b.1 in
    let same : row_a.0 ≡ row_b.0 = cc in
    sym row_a.2 ∙ ap (λ (r : Row). r.0) same ∙ row_b.2

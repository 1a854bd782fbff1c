-- Directories of no folder have no name and no row.
use Rattle.std.proofs.Common.{ℕ, ◌≡◌, None, List, [], map, filter, sym, ap, ◌∙◌}
use Rattle.std.proofs.lemmas.List.{nil_from_length}
use Rattle.std.specs.FinMap.{empty, entries, get-empty, len-empty, len-entries}
use Rattle.md_dirs.specs.Path.{path_cmp}
use Rattle.md_dirs.specs.State.{IsSound, bare, file_at}
use Rattle.md_dirs.specs.Rows.{is_in, row_of, rows_of}
use Rattle.md_dirs.specs.declared.paths.Path.{Path}
use Rattle.md_dirs.specs.declared.paths.Place.{Place}
use Rattle.md_dirs.proofs.Sound.{sound-bare}

pub no_name : (p : Path) → file_at (bare 0) p ≡ None
no_name p = get-empty path_cmp p

no_entry : entries (empty {X = ℕ} {R = path_cmp}) ≡ []
no_entry = nil_from_length (entries (empty {X = ℕ} {R = path_cmp})) (sym (len-entries (empty {X = ℕ} {R = path_cmp})) ∙ len-empty path_cmp ℕ)

pub no_row : (folder : ℕ) (place : Place) → rows_of (bare 0) folder place ≡ []
no_row folder place = ap (λ (es : List (Path × ℕ)). map (row_of []) (filter (λ e. is_in folder place e.0) es)) no_entry

pub is_sound : IsSound (bare 0)
is_sound = sound-bare 0

-- What is read of a world so that another can be loaded like it: the stamps, the sizes and the bytes of all files.
use Rattle.std.specs.Prelude.{ℕ, ◌≡◌, List, Result, Ok, Err, ok_or, slice_get}
use Rattle.std.specs.Option.{option_map}
use Rattle.md_dirs.specs.Path.{path_of}
use Rattle.md_dirs.specs.Rows.{rows_of}
use Rattle.md_dirs.specs.State.{bytes_at_path}
use Rattle.md_dirs.specs.declared.rows.Row.{Row}
use Rattle.md_core.specs.Runs.{Run, dirs_of}
use Rattle.md_text.specs.Bind.{◌>>=◌}
use Rattle.md_driven.specs.Numbers.{refusal_number}
use Rattle.md_driven.specs.Shown.{place_at}
use Rattle.md_ffi.specs.declared.keeping.RowShown.{RowShown}
use Rattle.md_driven.specs.declared.refusal.Refusal.{Refusal}
use Rattle.md_driven.specs.declared.refusal.Refusal.TheVariants.{NoPlace, NotThere}

-- the stamp and the size of a row
abbrev pub row_shown : Row → RowShown
row_shown row = record { stamp = row.stamp; size = row.size }

-- what is shown of the row at a position of the directory of a number, if both are there
unfoldable pub row_at : Run → ℕ → ℕ → ℕ → Result RowShown Refusal
row_at run folder place at =
    ok_or (place_at place) NoPlace >>= (λ place.
    ok_or (option_map row_shown (slice_get (rows_of (dirs_of run) folder place) at)) NotThere)

-- a row is shown, or why there is none, and then what was shown is as it was
abbrev pub ShowsRow : Result RowShown Refusal → RowShown → RowShown → ℕ → Type 0
ShowsRow (Ok row) before after status = (status ≡ 0) × (after ≡ row)
ShowsRow (Err refusal) before after status = (status ≡ refusal_number refusal) × (after ≡ before)

-- the bytes of the file of a name of the directory of a number, if both are there
unfoldable pub contents_at : Run → ℕ → ℕ → List ℕ → Result (List ℕ) Refusal
contents_at run folder place name =
    ok_or (place_at place) NoPlace >>= (λ place. ok_or (bytes_at_path (dirs_of run) (path_of folder place name)) NotThere)

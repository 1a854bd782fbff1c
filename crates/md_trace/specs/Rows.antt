-- The rows of directories, as a log has them.
use Rattle.std.specs.Prelude.{ℕ, zero, suc, ◌≤◌, ◌<◌, List, [], ◌++◌, codes}
use Rattle.std.specs.Fmt.{decimal}
use Rattle.std.specs.List.{All, flat_map}
use Rattle.md_dirs.specs.Rows.{rows_of}
use Rattle.md_dirs.specs.State.{State}
use Rattle.md_dirs.specs.declared.paths.Place.{Place}
use Rattle.md_dirs.specs.declared.paths.Place.TheVariants.{Tmp, New, Cur}
use Rattle.md_dirs.specs.declared.rows.Row.{Row}
use Rattle.md_text.specs.Places.{place_text}
use Rattle.md_trace.specs.declared.rows.Form.{Form}
use Rattle.md_trace.specs.declared.rows.Form.TheVariants as form
use Rattle.md_trace.specs.declared.text.Log.{Log}
use Rattle.md_trace.specs.Growing.{message_text, most, name_text, path_text}

-- the names of rows, with a space in front of each
abbrev pub names_text : List Row → List ℕ
names_text rows = flat_map (λ row. codes " " ++ name_text row.name) rows

-- `file PATH STAMP`, of the beginning of a log
abbrev pub file_text : Log → ℕ → Place → Row → List ℕ
file_text log folder place row = codes "file" ++ path_text log folder place row.name ++ codes " " ++ decimal row.stamp ++ codes "\n"

-- the comment `# PLACE FOLDER NAME STAMP SIZE`
abbrev pub state_text : Log → ℕ → Place → Row → List ℕ
state_text log folder place row =
    codes "# " ++ place_text place ++ message_text log folder row.name ++ codes " " ++ decimal row.stamp ++ codes " " ++ decimal row.size
    ++ codes "\n"

-- the line of a row
abbrev pub row_text : Form → Log → ℕ → Place → Row → List ℕ
row_text form.File log folder place row = file_text log folder place row
row_text form.State log folder place row = state_text log folder place row

-- it is fit for a log: one of the beginning has a stamp of 19 digits at most
abbrev pub IsFit : Form → Row → Type 0
IsFit form.File row = row.stamp ≤ most
IsFit form.State row = Unit {0}

-- the lines of some rows of a directory
abbrev pub row_lines : Form → Log → ℕ → Place → List Row → List ℕ
row_lines form log folder place rows = flat_map (row_text form log folder place) rows

-- those of a directory
abbrev pub directory_lines : Form → Log → State → ℕ → Place → List ℕ
directory_lines form log s folder place = row_lines form log folder place (rows_of s folder place)

abbrev pub IsFitDirectory : Form → State → ℕ → Place → Type 0
IsFitDirectory form s folder place = All (IsFit form) (rows_of s folder place)

-- those of a folder: tmp, new and cur
abbrev pub folder_lines : Form → Log → State → ℕ → List ℕ
folder_lines form log s folder =
    directory_lines form log s folder Tmp ++ directory_lines form log s folder New ++ directory_lines form log s folder Cur

abbrev pub IsFitFolder : Form → State → ℕ → Type 0
IsFitFolder form s folder = IsFitDirectory form s folder Tmp × IsFitDirectory form s folder New × IsFitDirectory form s folder Cur

-- those of the first folders, one after another
abbrev pub all_lines : Form → Log → State → ℕ → List ℕ
all_lines form log s zero = []
all_lines form log s (suc count) = all_lines form log s count ++ folder_lines form log s count

abbrev pub AreFitFolders : Form → State → ℕ → Type 0
AreFitFolders form s count = (folder : ℕ) → folder < count → IsFitFolder form s folder

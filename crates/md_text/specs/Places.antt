-- The directories of a maildir, by their names.
use Rattle.std.specs.Prelude.{ℕ, List, Option, Some, None, if◌then◌else◌, codes}
use Rattle.std.specs.Str.{bytes_eq}
use Rattle.md_dirs.specs.declared.paths.Place.{Place}
use Rattle.md_dirs.specs.declared.paths.Place.TheVariants.{Tmp, New, Cur}

-- the word of a directory of a maildir
abbrev pub place_text : Place → List ℕ
place_text Tmp = codes "tmp"
place_text New = codes "new"
place_text Cur = codes "cur"

-- the directory of the words tmp, new and cur
unfoldable pub place_named : List ℕ → Option Place
place_named word =
    if bytes_eq word (codes "tmp") then Some Tmp
    else (if bytes_eq word (codes "new") then Some New
    else (if bytes_eq word (codes "cur") then Some Cur else None))

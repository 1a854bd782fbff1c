-- What a listing of a folder shows.
use Rattle.std.specs.Prelude.{ℕ, List, ◌++◌, Bool, not, map, filter}
use Rattle.std.specs.List.{list_any}
use Rattle.std.specs.List.Sorted.{IsPermutation, IsSortedByKey}
use Rattle.std.specs.Str.{bytes_eq}
use Rattle.md_name.specs.Names.{unique_of}
use Rattle.md_dirs.specs.Index.{name_cmp}
use Rattle.md_dirs.specs.declared.paths.Place.{Place}
use Rattle.md_dirs.specs.declared.paths.Place.TheVariants.{New, Cur}
use Rattle.md_system.specs.declared.listed.Listed.{Listed}

-- whether one of these names has the unique part
abbrev pub has_unique : List (List ℕ) → List ℕ → Bool
has_unique names unique = list_any (λ name. bytes_eq (unique_of name) unique) names

-- a name as a listing shows it
abbrev pub listed_in : Place → List ℕ → Listed
listed_in place name = record { place = place; name = name }

-- all names of cur, and those of new whose unique part no name of cur has
abbrev pub listed_of : List (List ℕ) → List (List ℕ) → List Listed
listed_of news curs =
    map (listed_in Cur) curs ++ map (listed_in New) (filter (λ name. not (has_unique curs (unique_of name))) news)

-- the names of a listing
abbrev pub names_of : List Listed → List (List ℕ)
names_of listing = map (λ m. m.name) listing

-- in order of the bytes of their unique parts
abbrev pub IsInOrder : List Listed → Type 0
IsInOrder listing = IsSortedByKey (λ m. unique_of m.name) name_cmp listing

-- These are the names of a folder whose new and cur have these: all of cur, and those of new whose unique part no name of cur has, in order
-- of the bytes of their unique parts.
pub record IsListing (news curs : List (List ℕ)) (listing : List Listed) : Type 0 where
  pub each : IsPermutation (listed_of news curs) listing
  pub order : IsInOrder listing

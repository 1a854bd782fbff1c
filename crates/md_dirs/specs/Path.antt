-- Paths and their order.
use Rattle.std.specs.Prelude.{ℕ, List}
use Rattle.std.specs.declared.cmp.Ordering.{Ordering}
use Rattle.std.specs.Ordering.{nat_cmp, ordering_then}
use Rattle.std.specs.Cmp.Lexicographic.{slice_cmp}
use Rattle.md_dirs.specs.declared.paths.Place.{Place}
use Rattle.md_dirs.specs.declared.paths.Place.TheVariants.{Tmp, New, Cur}
use Rattle.md_dirs.specs.declared.paths.Path.{Path}

-- the path of a name in a directory
abbrev pub path_of : ℕ → Place → List ℕ → Path
path_of folder place name = record { folder = folder; place = place; name = name }

-- tmp, new and cur are in this order
abbrev pub place_index : Place → ℕ
place_index Tmp = 0
place_index New = 1
place_index Cur = 2

-- by folder, then by place, then by the bytes of the name
abbrev pub path_cmp : Path → Path → Ordering
path_cmp a b =
    ordering_then (nat_cmp a.folder b.folder)
    (ordering_then (nat_cmp (place_index a.place) (place_index b.place)) (slice_cmp nat_cmp a.name b.name))

-- How flaws are gathered: names in an order that has twins side by side, and one flaw after another.
use Rattle.std.specs.Prelude.{◌<◌, ◌↔◌, ◌⊎◌, List, Contains, IsTrue, count_by}
use Rattle.std.specs.Ordering.{nat_cmp, bool_cmp, ordering_then}
use Rattle.std.specs.declared.cmp.Ordering.{Ordering}
use Rattle.md_name.specs.Names.{unique_of}
use Rattle.md_dirs.specs.Index.{name_cmp}
use Rattle.md_system.specs.Checks.{is_message, is_of}
use Rattle.md_system.specs.declared.flaw.Flaw.{Flaw}
use Rattle.md_system.specs.declared.seen.Seen.{Seen}

-- what was told, and after it just what has a property besides
abbrev pub Tells : (Flaw → Type 0) → List Flaw → List Flaw → Type 0
Tells P old new = (f : Flaw) → Contains new f ↔ (Contains old f ⊎ P f)

-- messages of one unique name stand side by side, and so do those of one folder among them
abbrev pub unique_cmp : Seen → Seen → Ordering
unique_cmp a b = ordering_then (bool_cmp a.is_file b.is_file) (name_cmp (unique_of a.name) (unique_of b.name))

abbrev pub alike_cmp : Seen → Seen → Ordering
alike_cmp a b = ordering_then (unique_cmp a b) (nat_cmp a.folder b.folder)

-- it is a message, and more than one of all folders has its unique name
abbrev pub HasTwin : List Seen → Seen → Type 0
HasTwin all seen = IsTrue (is_message seen) × (1 < count_by (is_of (unique_of seen.name)) all)

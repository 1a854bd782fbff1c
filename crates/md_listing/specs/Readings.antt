-- What a listing shows: the readings of new and of cur, and one list of both.
use Rattle.std.specs.Prelude.{ℕ, List, ◌++◌, ◌==◌, ◌&&◌, nat_lt, Bool, IsTrue, if◌then◌else◌, map, filter}
use Rattle.std.specs.FinMap as finmap
use Rattle.md_dirs.specs.Path.{place_index}
use Rattle.md_dirs.specs.State.{State}
use Rattle.md_dirs.specs.declared.paths.Place.{Place}
use Rattle.md_core.specs.Mailbox.{name_cmp}
use Rattle.md_core.specs.History.{Listed, Names}
use Rattle.md_listing.specs.declared.entry.Entry.{Entry}
use Rattle.md_listing.specs.declared.error.ViewError.{ViewError}
use Rattle.md_listing.specs.declared.error.ViewError.TheVariants.{NoFolder, NoMemory}

-- the entry of a message, by its unique name
abbrev pub as_entry : List ℕ × Listed → Entry
as_entry x = record { unique = x.0; place = x.1.place; name = x.1.name; size = x.1.size }

-- whether a message is in a directory of a folder
abbrev pub is_at : ℕ → Place → List ℕ × Listed → Bool
is_at folder place x = x.1.folder == folder && place_index x.1.place == place_index place

-- a reading: the messages of a directory of a folder, in order of unique name
abbrev pub reading_of : Names → ℕ → Place → List Entry
reading_of names folder place = map as_entry (filter (is_at folder place) (finmap.entries names))

-- an entry by its unique name
abbrev pub with_unique : Entry → List ℕ × Entry
with_unique entry = (entry.unique, entry)

-- in order of unique name, none twice
abbrev pub IsInOrder : List Entry → Type 0
IsInOrder entries = IsTrue (finmap.is_sorted name_cmp (map with_unique entries))

-- entries by their unique names: of two with one unique name, the first one
abbrev pub by_unique : List Entry → finmap.FinMap name_cmp Entry
by_unique entries = finmap.from_entries (map with_unique entries)

-- the entries of cur, and those of new whose unique name isn't in cur, in order of unique name
abbrev pub join_of : List Entry → List Entry → List Entry
join_of new cur = finmap.values (by_unique (cur ++ new))

-- a reading is refused where the folder isn't there, and otherwise when out of memory
abbrev pub reading_refusal : State → ℕ → ViewError
reading_refusal s folder = if nat_lt folder s.folders then NoMemory else NoFolder

-- What is read of a world, as C has it.
use Rattle.std.specs.Prelude.{ℕ, ◌++◌, ◌<◌, ◌^◌, List, Result, Ok, Err, length, ok_or, flat_map, nat_lt, slice_get, if◌then◌else◌}
use Rattle.std.specs.Option.{option_map}
use Rattle.std.specs.FinMap as finmap
use Rattle.std.specs.Int.{w32, w64, to_le_bytes}
use Rattle.md_dirs.specs.Path.{place_index}
use Rattle.md_dirs.specs.Rows.{rows_of}
use Rattle.md_dirs.specs.declared.rows.Row.{Row}
use Rattle.md_jobs.specs.declared.error.CoreError.TheVariants.{NoFolder}
use Rattle.md_core.specs.Mailbox.{Entry as Message, mailbox_of}
use Rattle.md_core.specs.Runs.{Run, dirs_of}
use Rattle.md_listing.specs.Law.{names_at, listing_of}
use Rattle.md_listing.specs.declared.entry.Entry.{Entry}
use Rattle.md_script.specs.declared.error.PlayKind.TheVariants.{Core}
use Rattle.md_text.specs.Bind.{◌>>=◌}
use Rattle.md_driven.specs.Shown.{place_at}
use Rattle.md_driven.specs.declared.refusal.Refusal.{Refusal}
use Rattle.md_driven.specs.declared.refusal.Refusal.TheVariants.{Kind, NoPlace, NotThere}

-- a number in 4 bytes, little-endian
unfoldable pub four_bytes : ℕ → List ℕ
four_bytes n = to_le_bytes w32 n

-- a number in 8 bytes, little-endian
unfoldable pub eight_bytes : ℕ → List ℕ
eight_bytes n = to_le_bytes w64 n

-- a message of a listing: its place, the length of its name, its size, and its name
abbrev pub entry_bytes : Entry → List ℕ
entry_bytes e = four_bytes (place_index e.place) ++ four_bytes (length e.name) ++ eight_bytes e.size ++ e.name

-- the length of the name fits in 4 bytes
abbrev pub HasShortName : Entry → Type 0
HasShortName e = length e.name < 2 ^ 32

-- the messages of a folder, one after another
abbrev pub entries_bytes : List Entry → List ℕ
entries_bytes entries = flat_map entry_bytes entries

-- the messages of a folder that is there
unfoldable pub listed : Run → ℕ → Result (List ℕ) Refusal
listed run folder =
    if nat_lt folder (dirs_of run).folders
    then Ok (entries_bytes (listing_of (names_at run) folder (length run.events) (length run.events)))
    else Err (Kind (Core NoFolder))

-- the bytes of a message, if it is in new or cur of a folder
unfoldable pub message_at : Run → List ℕ → Result (List ℕ) Refusal
message_at run unique = ok_or (option_map (λ (m : Message). m.bytes) (finmap.get (mailbox_of (dirs_of run)) unique)) NotThere

-- the name at a position of the directory of a number, if both are there
unfoldable pub name_at : Run → ℕ → ℕ → ℕ → Result (List ℕ) Refusal
name_at run folder place at =
    ok_or (place_at place) NoPlace >>= (λ place.
    ok_or (option_map (λ (row : Row). row.name) (slice_get (rows_of (dirs_of run) folder place) at)) NotThere)

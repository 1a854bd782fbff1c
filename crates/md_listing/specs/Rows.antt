-- Bookkeeping: the entries of a directory as they are gathered, row by row, and entries whose names stand one behind another.
use Rattle.std.specs.Prelude.{◌≡◌, List, [], ◌∷◌, ◌++◌, Option, ℕ, ◌<◌, ◌≤◌, length, slice_range}
use Rattle.std.specs.Option.{option_map}
use Rattle.std.specs.List.{filter_map}
use Rattle.std.specs.declared.cmp.Ordering.TheVariants.{Less}
use Rattle.md_dirs.specs.declared.paths.Place.{Place}
use Rattle.md_dirs.specs.declared.rows.Row.{Row}
use Rattle.md_name.specs.Names.{split_of, unique_of}
use Rattle.md_core.specs.Mailbox.{name_cmp}
use Rattle.md_listing.specs.declared.entry.Entry.{Entry}
use Rattle.md_listing.specs.declared.owned.Piece.{Piece}

-- the entry of a row of a directory, if it is a message's
abbrev pub entry_of_row : Place → Row → Option Entry
entry_of_row place row =
    option_map (λ parts. record { unique = parts.0; place = place; name = row.name; size = row.size }) (split_of row.name)

-- the entries of the messages among rows
abbrev pub entries_of : Place → List Row → List Entry
entries_of place rows = filter_map (entry_of_row place) rows

-- an entry goes after the last of others
abbrev pub IsBehind : List Entry → Entry → Type 0
IsBehind all entry = (front : List Entry) (last : Entry) → all ≡ front ++ last ∷ [] → name_cmp last.unique entry.unique ≡ Less

-- the entry of a piece of a text
abbrev pub entry_of : List ℕ → Piece → Entry
entry_of text p = record {
  unique = slice_range text p.unique p.end;
  place = p.place;
  name = slice_range text p.start p.middle;
  size = p.size;
}

-- the names of a piece lie in a text, and the unique one is that of the name where it stands in front of the name's end
pub record IsWithin (text : List ℕ) (p : Piece) : Type 0 where
  pub name : p.start ≤ p.middle
  pub middle : p.middle ≤ length text
  pub unique : p.unique ≤ p.end
  pub end : p.end ≤ length text
  pub own : p.unique < p.middle → slice_range text p.unique p.end ≡ unique_of (slice_range text p.start p.middle)

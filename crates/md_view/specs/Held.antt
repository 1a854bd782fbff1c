-- Bookkeeping: how the names of a store are held, folder by folder, and the entries of a tree.
use Rattle.std.specs.Prelude.{ℕ, suc, ◌≡◌, ◌≤◌, ◌<◌, ◌^◌, ◌==◌, ◌||◌, List, [], ◌∷◌, ◌++◌, Option, Some, IsSome, Bool, false, is_some, map, nat_eq, length, slice_get, if◌then◌else◌, Vec, None, unwrap_or}
use Rattle.std.specs.Option.{option_map_or}
use Rattle.std.specs.List.{AllWithin}
use Rattle.std.specs.Ordering.{eq_by_cmp}
use Rattle.std.specs.declared.cmp.Ordering.TheVariants.{Less, Greater}
use Rattle.std.specs.Cmp.Lexicographic.{pointwise}
use Rattle.std.specs.FinMap as finmap
use Rattle.md_dirs.specs.Path.{place_index}
use Rattle.md_dirs.specs.declared.paths.Place.{Place}
use Rattle.md_dirs.specs.declared.paths.Place.TheVariants.{Tmp, New, Cur}
use Rattle.md_core.specs.Mailbox.{name_cmp}
use Rattle.md_core.specs.History.{Listed}
use Rattle.md_listing.specs.declared.entry.Entry.{Entry}
use Rattle.md_listing.specs.Readings.{with_unique, reading_of, IsInOrder}
use Rattle.md_view.specs.Named.{Named, AreMessages}
use Rattle.md_view.specs.declared.names.tree.Leaf.{Leaf}

-- the messages of new and of cur of a folder
pub record FolderLists : Type 0 where
  pub in_new : List Entry
  pub in_cur : List Entry

-- those of a directory; there are none in tmp
abbrev pub list_of : Place → FolderLists → List Entry
list_of Tmp f = []
list_of New f = f.in_new
list_of Cur f = f.in_cur

-- those of a directory of a folder, if it is there
abbrev pub listed_in : List FolderLists → ℕ → Place → List Entry
listed_in fs folder place = option_map_or (list_of place) (slice_get fs folder) []

-- an entry of a folder, by its unique name
abbrev pub by_folder : ℕ → Entry → List ℕ × Listed
by_folder folder e = (e.unique, record { folder = folder; place = e.place; name = e.name; size = e.size })

-- all messages, by their unique names; the folders are numbered from this one on
abbrev pub listed_from : ℕ → List FolderLists → List (List ℕ × Listed)
listed_from folder [] = []
listed_from folder (f ∷ fs) = map (by_folder folder) (f.in_new ++ f.in_cur) ++ listed_from (suc folder) fs

-- the names that are held
abbrev pub held_names : List FolderLists → Named
held_names fs = record { folders = length fs; names = finmap.from_entries (listed_from 0 fs) }

-- these names are held: each list is a reading of them
pub record AreHeld (n : Named) (fs : List FolderLists) : Type 0 where
  pub few : length fs < 2 ^ 32
  pub count : length fs ≡ n.folders
  pub messages : AreMessages n
  pub lists : (folder : ℕ) (place : Place) → listed_in fs folder place ≡ reading_of n.names folder place

-- folders hold names
abbrev pub HoldNames : List FolderLists → Type 0
HoldNames fs = AreHeld (held_names fs) fs

-- the entry of a unique name among entries
abbrev pub entry_with : List ℕ → List Entry → Option Entry
entry_with u es = finmap.find name_cmp u (map with_unique es)

-- whether a folder has a message of a unique name
abbrev pub has_unique : List ℕ → FolderLists → Bool
has_unique u f = is_some (entry_with u f.in_new) || is_some (entry_with u f.in_cur)

-- another directory than this has a message of a unique name
abbrev pub ExistsElsewhere : List ℕ → ℕ → Place → List FolderLists → Type 0
ExistsElsewhere u folder place fs = (k : ℕ) × (p : Place) × (k ≡ folder → p ≡ place → ⊥) × IsSome (entry_with u (listed_in fs k p))

-- the entry at a position has this unique name
pub record HasAt (es : List Entry) (u : List ℕ) (at : ℕ) : Type 0 where
  pub within : at < length es
  pub entry : Entry
  pub is : slice_get es at ≡ Some entry
  pub unique : entry.unique ≡ u

-- an entry of this unique name would go to a position: those in front are below it, and those from it on above
pub record IsGapFor (es : List Entry) (u : List ℕ) (at : ℕ) : Type 0 where
  pub in_range : at ≤ length es
  pub before : AllWithin (λ (e : Entry). name_cmp e.unique u ≡ Less) es 0 at
  pub after : AllWithin (λ (e : Entry). name_cmp e.unique u ≡ Greater) es at (length es)

-- an entry that gets another name, if it has the old one
abbrev pub renamed : List ℕ → List ℕ → Entry → Entry
renamed name to_name e = if pointwise nat_eq e.name name then record e { name = to_name } else e

-- entries in order that show of one unique name what is said, and of each other what they showed
pub record DiffersAt (u : List ℕ) (what : Option Entry) (old new : List Entry) : Type 0 where
  pub order : IsInOrder new
  pub at : (v : List ℕ) → entry_with v new ≡ (if eq_by_cmp name_cmp v u then what else entry_with v old)

-- a folder shows so in one directory, and in the others what it showed
pub record DiffersIn (place : Place) (u : List ℕ) (what : Option Entry) (old new : FolderLists) : Type 0 where
  pub here : DiffersAt u what (list_of place old) (list_of place new)
  pub others : (p : Place) → (place_index p == place_index place) ≡ false → list_of p new ≡ list_of p old

-- the whole name of an entry: where none is kept, it is the unique name
abbrev pub name_of : List ℕ → Leaf → List ℕ
name_of unique leaf = unwrap_or leaf.name unique

-- an entry of a unique name, by what is kept of it beside that
abbrev pub named : List ℕ → Leaf → Entry
named unique leaf = record { unique = unique; place = leaf.place; name = name_of unique leaf; size = leaf.size }

abbrev pub entry_at : {A : Type 0} → Vec ℕ A × Leaf → Entry
entry_at (unique, leaf) = named unique.items leaf

-- the entries of a tree, in its order
abbrev pub entries_in : {A : Type 0} → List (Vec ℕ A × Leaf) → List Entry
entries_in leaves = map entry_at leaves

-- a whole name is kept where it is not the unique name
abbrev pub kept_name : List ℕ → List ℕ → Option (List ℕ)
kept_name unique name = if pointwise nat_eq name unique then None else Some name

-- what is kept of an entry that gets another name, if it has the old one
abbrev pub renamed_leaf : List ℕ → List ℕ → List ℕ → Leaf → Leaf
renamed_leaf unique name to_name leaf =
    if pointwise nat_eq (name_of unique leaf) name then record leaf { name = kept_name unique to_name } else leaf

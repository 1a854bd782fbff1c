-- What breaks the format in folders of which all names were read.
use Rattle.std.specs.Prelude.{◌≡◌, ◌≢◌, ◌<◌, ◌↔◌, ◌⊎◌, ℕ, Bool, false, ◌&&◌, ◌==◌, List, Any, Contains, IsTrue, count_by}
use Rattle.std.specs.List.Sorted.{IsStrictlySortedBy}
use Rattle.std.specs.Ordering.{nat_cmp, ordering_then}
use Rattle.std.specs.Str.{bytes_eq}
use Rattle.std.specs.declared.cmp.Ordering.{Ordering}
use Rattle.md_name.specs.Names.{unique_of, is_message_name}
use Rattle.md_dirs.specs.Path.{path_of, path_cmp}
use Rattle.md_dirs.specs.Rows.{is_old}
use Rattle.md_dirs.specs.declared.paths.Path.{Path}
use Rattle.md_dirs.specs.declared.paths.Place.TheVariants.{Tmp}
use Rattle.md_system.specs.Flaws.{HasFlaw}
use Rattle.md_system.specs.declared.flaw.Flaw.{Flaw}
use Rattle.md_system.specs.declared.flaw.FlawKind.{FlawKind}
use Rattle.md_system.specs.declared.flaw.FlawKind.TheVariants as flaw
use Rattle.md_system.specs.declared.seen.InTmp.{InTmp}
use Rattle.md_system.specs.declared.seen.Seen.{Seen}

-- a regular file whose name is a message's
abbrev pub is_message : Seen → Bool
is_message seen = seen.is_file && is_message_name seen.name

-- a message of this unique name
abbrev pub is_of : List ℕ → Seen → Bool
is_of unique seen = is_message seen && bytes_eq (unique_of seen.name) unique

-- a message of this unique name in this folder
abbrev pub is_of_in : ℕ → List ℕ → Seen → Bool
is_of_in folder unique seen = is_of unique seen && seen.folder == folder

-- the other is a message of another folder, and has the unique name
abbrev pub IsElsewhere : Seen → Seen → Type 0
IsElsewhere seen other = IsTrue (is_of (unique_of seen.name) other) × (other.folder ≢ seen.folder)

-- A name breaks the format so, where these are all names of new and cur of all folders. A message is twice in a folder if more than one
-- message there has its unique name.
abbrev pub Breaks : List Seen → Seen → FlawKind → Type 0
Breaks all seen flaw.TwiceInFolder = IsTrue (is_message seen) × (1 < count_by (is_of_in seen.folder (unique_of seen.name)) all)
Breaks all seen flaw.InOtherFolders = IsTrue (is_message seen) × Any (IsElsewhere seen) all
Breaks all seen flaw.NotAFile = seen.is_file ≡ false
Breaks all seen flaw.Unused = ⊥
Breaks all seen kind = IsTrue seen.is_file × HasFlaw seen.place seen.name kind

-- a flaw of a name that was seen: the name breaks the format by its kind
pub record IsFlawOf (all : List Seen) (seen : Seen) (f : Flaw) : Type 0 where
  pub folder : f.folder ≡ seen.folder
  pub place : f.place ≡ seen.place
  pub name : f.name ≡ seen.name
  pub breaks : Breaks all seen f.kind

-- a flaw of a file of tmp: it was not used for 36 hours, which are 129600 seconds
pub record IsUnused (now : ℕ) (file : InTmp) (f : Flaw) : Type 0 where
  pub folder : f.folder ≡ file.folder
  pub place : f.place ≡ Tmp
  pub name : f.name ≡ file.row.name
  pub kind : f.kind ≡ flaw.Unused
  pub old : IsTrue (is_old now 129600 file.row)

-- a flaw of a name of new or cur, or of a file of tmp
abbrev pub IsFlaw : List Seen → List InTmp → ℕ → Flaw → Type 0
IsFlaw seen tmp now f = Any (λ one. IsFlawOf seen one f) seen ⊎ Any (λ file. IsUnused now file f) tmp

-- the kinds in their order
abbrev pub kind_index : FlawKind → ℕ
kind_index flaw.TwiceInFolder = 0
kind_index flaw.InOtherFolders = 1
kind_index flaw.Unused = 2
kind_index flaw.NotAFile = 3
kind_index flaw.DotName = 4
kind_index flaw.InfoInNew = 5
kind_index flaw.NoInfo = 6
kind_index flaw.FlagsOutOfOrder = 7
kind_index flaw.NotText = 8
kind_index flaw.LongName = 9

-- the path of a name that breaks the format
abbrev pub path_in : Flaw → Path
path_in f = path_of f.folder f.place f.name

-- by folder, then by place, then by the bytes of the name, then by kind
abbrev pub flaw_cmp : Flaw → Flaw → Ordering
flaw_cmp f g = ordering_then (path_cmp (path_in f) (path_in g)) (nat_cmp (kind_index f.kind) (kind_index g.kind))

-- These are all flaws of folders that have these names in new and cur, and these files in tmp. Each is told once, in order.
pub record AreFlaws (seen : List Seen) (tmp : List InTmp) (now : ℕ) (flaws : List Flaw) : Type 0 where
  pub each : (f : Flaw) → Contains flaws f ↔ IsFlaw seen tmp now f
  pub order : IsStrictlySortedBy flaw_cmp flaws

-- Messages: the names of new and cur that readers show, by maildir(5).
use Rattle.std.specs.Prelude.{ℕ, ◌≡◌, List, Some, Bool, true, false, ◌&&◌, not, IsTrue}
use Rattle.std.specs.FinSet as set
use Rattle.md_law.specs.Values.{State, file_at, Path, Place, Tmp}
use Rattle.md_name.specs.Letters.{Set}
use Rattle.md_name.specs.Names.{unique_of, info_of, flags_of, is_message_name}

-- the place is tmp
abbrev pub is_tmp : Place → Bool
is_tmp Tmp = true
is_tmp p = false

-- maildir(5): a message has a name in new or cur that begins with no dot; own: and has a unique part
abbrev pub is_message : Path → Bool
is_message p = not (is_tmp p.place) && is_message_name p.name

-- a path names the message of a unique name in a folder
abbrev pub IsOf : Path → ℕ → List ℕ → Type 0
IsOf p folder unique = (is_message p ≡ true) × (p.folder ≡ folder) × (unique_of p.name ≡ unique)

-- the path is there, names the message, and its file has this number
abbrev pub IsMessageAt : State → ℕ → List ℕ → Path → ℕ → Type 0
IsMessageAt s folder unique p file = (file_at s p ≡ Some file) × IsOf p folder unique

-- the message is in the folder
abbrev pub IsThere : State → ℕ → List ℕ → Type 0
IsThere s folder unique = (p : Path) × (file : ℕ) × IsMessageAt s folder unique p file

-- readers see the file: a path that is there names a message and has this file
abbrev pub IsSeen : State → ℕ → Type 0
IsSeen s file = (p : Path) × (file_at s p ≡ Some file) × (is_message p ≡ true)

-- the name shows these flags
abbrev pub ShowsFlags : List ℕ → Set → Type 0
ShowsFlags name flags = flags_of (info_of name) ≡ Some flags

-- the name shows the flag T
abbrev pub IsTrashed : List ℕ → Type 0
IsTrashed name = (flags : Set) × ShowsFlags name flags × IsTrue (set.contains flags 84)

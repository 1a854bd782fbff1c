-- A mailbox: a finite map from unique names to where a message is and what it holds. It knows no files, no tmp and no retries.
use Rattle.std.specs.Prelude.{ℕ, ◌≡◌, List, [], Option, Some, None, true, if◌then◌else◌}
use Rattle.std.specs.List.{filter_map}
use Rattle.std.specs.Ordering.{nat_cmp}
use Rattle.std.specs.Cmp.Lexicographic.{slice_cmp}
use Rattle.std.specs.FinMap as finmap
use Rattle.md_dirs.specs.State.{State, file_at, file_by}
use Rattle.md_dirs.specs.declared.paths.Path.{Path}
use Rattle.md_dirs.specs.declared.paths.File.{File}
use Rattle.md_dirs.specs.declared.paths.Place.{Place}
use Rattle.md_name.specs.Names.{unique_of, info_text}
use Rattle.md_used.specs.Paths.{is_message}

-- a message: its folder, new or cur, the text after the colon of its name, if there is one, and its bytes
pub record Entry : Type 0 where
  pub folder : ℕ
  pub place : Place
  pub info : Option (List ℕ)
  pub bytes : List ℕ

-- names are in the order of their bytes
abbrev pub name_cmp : List ℕ → List ℕ → Rattle.std.specs.declared.cmp.Ordering.Ordering
name_cmp = slice_cmp nat_cmp

-- the messages, by their unique names
abbrev pub Mailbox : Type 0
Mailbox = finmap.FinMap name_cmp Entry

-- what a file holds
abbrev pub bytes_of : Option File → List ℕ
bytes_of None = []
bytes_of (Some file) = file.bytes

-- the message of a path and the number of its file, as it is there
abbrev pub entry_of : State → Path → ℕ → Entry
entry_of s p n = record { folder = p.folder; place = p.place; info = info_text p.name; bytes = bytes_of (file_by s.files n) }

-- the message of a path and the number of its file
abbrev pub message_of : State → Path × ℕ → Option (List ℕ × Entry)
message_of s e = if is_message e.0 then Some (unique_of e.0.name, entry_of s e.0 e.1) else None

-- the mailbox that a directory state shows
abbrev pub mailbox_of : State → Mailbox
mailbox_of s = finmap.from_entries (filter_map (message_of s) (finmap.entries s.names))

-- each unique name has one path in all new and cur
abbrev pub HasOnePath : State → Type 0
HasOnePath s = (p q : Path) (m n : ℕ) → file_at s p ≡ Some m → file_at s q ≡ Some n → is_message p ≡ true → is_message q ≡ true
    → unique_of p.name ≡ unique_of q.name → p ≡ q

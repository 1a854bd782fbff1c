-- What is kept of paths of tmp, and how a path that comes to name a file changes it.
use Rattle.std.specs.Prelude.{ℕ, ◌≡◌, ◌&&◌, List, Option, Some, None, is_some, if◌then◌else◌}
use Rattle.md_law.specs.Values.{Path}
use Rattle.md_law.specs.Messages.{is_tmp}
use Rattle.md_monitor.specs.Messages.{PathKept, no_path, path_named}
use Rattle.md_kept.specs.declared.drafts.Drafts.{Drafts}
use Rattle.md_kept.specs.Tables.{value_at, is_key}

-- what is kept of the path of a name in tmp of a folder
abbrev pub path_in : Drafts → ℕ → List ℕ → PathKept
path_in d folder name = record { first = value_at d.first folder name; has_other = is_some (value_at d.other folder name) }

-- nothing is kept of any path
abbrev pub KeepsNone : Drafts → Type 0
KeepsNone d = (folder : ℕ) (name : List ℕ) → path_in d folder name ≡ no_path

-- a path of tmp came to name a file
abbrev pub Names : Path → ℕ → Drafts → Drafts → Type 0
Names p n old new = (folder : ℕ) (name : List ℕ) → path_in new folder name
    ≡ (if is_key (p.folder, p.name) (folder, name) then path_named (path_in old folder name) n else path_in old folder name)

-- what is kept of a path, after one came to name a file
abbrev pub named_in : Option (Path × ℕ) → ℕ → List ℕ → PathKept → PathKept
named_in None folder name kept = kept
named_in (Some e) folder name kept = if is_tmp e.0.place && is_key (e.0.folder, e.0.name) (folder, name) then path_named kept e.1 else kept

-- a path came to name a file, which changes what is kept where it is one of tmp
abbrev pub Comes : Option (Path × ℕ) → Drafts → Drafts → Type 0
Comes named old new = (folder : ℕ) (name : List ℕ) → path_in new folder name ≡ named_in named folder name (path_in old folder name)

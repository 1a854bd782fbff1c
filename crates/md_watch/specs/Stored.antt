-- Files of directories: which there are.
use Rattle.std.specs.Prelude.{ℕ, ◌≡◌, Some, IsSome}
use Rattle.md_law.specs.Values.{State, file_at, file_by, Path}

-- each path names a file that is there
abbrev pub HasFiles : State → Type 0
HasFiles s = (p : Path) (n : ℕ) → file_at s p ≡ Some n → IsSome (file_by s.files n)

-- The lines of an mbox, as mboxrd has them.
use Rattle.std.specs.Prelude.{ℕ, Bool, false, not, ◌&&◌, ◌==◌, nat_eq, List, [], ◌∷◌, drop, position}
use Rattle.std.specs.Prelude.{Option, None, Some, if◌then◌else◌, codes}
use Rattle.std.specs.List.{starts_with}

-- whether a line begins a message
abbrev pub is_from : List ℕ → Bool
is_from line = starts_with nat_eq line (codes "From ")

-- whether a line is its line feed alone
abbrev pub is_empty : List ℕ → Bool
is_empty [] = false
is_empty (b ∷ []) = b == 10
is_empty (b ∷ c ∷ line) = false

-- any byte but `>`
abbrev pub is_other : ℕ → Bool
is_other b = not (b == 62)

-- what a line is from a place on, if there is one
abbrev pub unmarked_at : List ℕ → Option ℕ → List ℕ
unmarked_at line None = []
unmarked_at line (Some at) = drop at line

-- what a line is behind each `>` that it begins with
abbrev pub unmarked : List ℕ → List ℕ
unmarked line = unmarked_at line (position is_other line)

-- a line as the message has it: one of `>` and, behind any number of them, `From ` loses the first
abbrev pub unquoted : List ℕ → List ℕ
unquoted [] = []
unquoted (b ∷ line) = if b == 62 && is_from (unmarked line) then line else b ∷ line

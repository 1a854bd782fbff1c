-- Where the names of one message are in a directory.
use Rattle.std.specs.Prelude.{ℕ, ◌≡◌, ◌<◌, ◌≤◌, ◌==◌, Bool, true, List, [], ◌∷◌}
use Rattle.std.specs.Prelude.{if◌then◌else◌, nat_lt, length, slice_index_or, slice_get, Some, None, find as first_with}
use Rattle.std.specs.Option.{option_and_then}
use Rattle.md_dirs.specs.Rows.{is_named}
use Rattle.md_dirs.specs.declared.finding.Edge.{Edge}
use Rattle.md_dirs.specs.declared.finding.Edge.TheVariants.{Name, Info}

-- where a name is beside a unique name: 0 below it, 1 at it, 2 after it and before a colon, 3 at it with a colon, 4 above
abbrev pub zone : List ℕ → List ℕ → ℕ
zone [] [] = 1
zone [] (b ∷ bs) = if nat_lt b 58 then 2 else (if b == 58 then 3 else 4)
zone (x ∷ xs) [] = 0
zone (x ∷ xs) (b ∷ bs) = if nat_lt b x then 0 else (if b == x then zone xs bs else 4)

-- the name of a row
abbrev pub name_at : List (List ℕ × ℕ) → ℕ → List ℕ
name_at rows i = (slice_index_or rows i ([], 0)).0

-- the zone in which names of a message begin: at the unique name, or at it with a colon
abbrev pub edge_zone : Edge → ℕ
edge_zone Name = 1
edge_zone Info = 3

-- halving has come to two positions: the rows before the first are below a zone of the unique name, and those from the second on are not
pub record IsHalved (rows : List (List ℕ × ℕ)) (unique : List ℕ) (edge low high : ℕ) : Type 0 where
  pub ordered : low ≤ high
  pub within : high ≤ length rows
  pub before : (k : ℕ) → k < low → zone unique (name_at rows k) < edge
  pub after : (k : ℕ) → high ≤ k → k < length rows → edge ≤ zone unique (name_at rows k)

-- the rows before a position are below a zone of the unique name, and those from it on are not
abbrev pub IsEdge : List (List ℕ × ℕ) → List ℕ → ℕ → ℕ → Type 0
IsEdge rows unique edge i = IsHalved rows unique edge i i

-- what follows a unique name ends, or goes on before a colon
abbrev pub before_colon : List ℕ → Bool
before_colon [] = true
before_colon (b ∷ bs) = nat_lt b 58

-- the row at a position is the first that has the unique name, if it has it, and else none has
abbrev pub IsFirstPlace : List (List ℕ × ℕ) → List ℕ → ℕ → Type 0
IsFirstPlace rows unique i = first_with (λ e. is_named unique e.0) rows
    ≡ option_and_then (λ e. if is_named unique e.0 then Some e else None) (slice_get rows i)

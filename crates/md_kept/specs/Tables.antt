-- What a table keeps by a number and a name.
use Rattle.std.specs.Prelude.{ℕ, ◌≡◌, ◌==◌, ◌&&◌, Bool, List, Option, Some, None, unwrap_or, if◌then◌else◌}
use Rattle.std.specs.Str.{bytes_eq}
use Rattle.indexmap.specs.IndexMap.{get}
use Rattle.md_kept.specs.declared.table.Table.{Table}

-- both are one key
abbrev pub is_key : ℕ × List ℕ → ℕ × List ℕ → Bool
is_key a b = a.0 == b.0 && bytes_eq a.1 b.1

-- what a key has, where it has anything
abbrev pub held : {V : Type 0} → Option (Option V) → Option V
held None = None
held (Some o) = o

-- what the key of a number and a name has
unfoldable pub value_at : {V : Type 0} → Table V → ℕ → List ℕ → Option V
value_at t number name = held (get is_key t.map (number, name))

-- what it counts, 0 where it has nothing
abbrev pub count_at : Table ℕ → ℕ → List ℕ → ℕ
count_at t number name = unwrap_or (value_at t number name) 0

-- one key has this value after, and the others have what they had
abbrev pub Puts : {V : Type 0} → ℕ → List ℕ → Option V → Table V → Table V → Type 0
Puts number name value old new =
    (m : ℕ) (q : List ℕ) → value_at new m q ≡ (if is_key (number, name) (m, q) then value else value_at old m q)

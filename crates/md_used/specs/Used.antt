-- Names that are used up.
use Rattle.std.specs.Prelude.{ℕ, ◌≡◌, Bool, true, ◌||◌, List, Option, Some, None}
use Rattle.std.specs.List.{list_any}
use Rattle.std.specs.Str.{bytes_eq}

-- whether a name is among those
abbrev pub is_among : List ℕ → List (List ℕ) → Bool
is_among u names = list_any (λ n. bytes_eq n u) names

-- whether a name may be among names, which perhaps were not gathered
abbrev pub may_be_among : List ℕ → Option (List (List ℕ)) → Bool
may_be_among u None = true
may_be_among u (Some names) = is_among u names

-- gathered names are the same, or are kept no more
abbrev pub AreKept : Option (List (List ℕ)) → Option (List (List ℕ)) → Type 0
AreKept were None = Unit {0}
AreKept None (Some names) = ⊥
AreKept (Some were) (Some names) = (u : List ℕ) → is_among u names ≡ is_among u were

-- names are those since and those that were gathered
abbrev pub IsAllOf : List (List ℕ) → Option (List (List ℕ)) → List (List ℕ) → Type 0
IsAllOf since None all = ⊥
IsAllOf since (Some were) all = (u : List ℕ) → is_among u all ≡ (is_among u since || is_among u were)

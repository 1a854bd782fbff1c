-- The value of a field, and the first field of a name.
use Rattle.std.specs.Prelude.{◌≡◌, ℕ, ◌-◌, false, true, List, ◌∷◌, ◌++◌, length, slice_index, All, Option, Some, None}
use Rattle.std.specs.List.{AllPass, concat}
use Rattle.std.specs.Str.{str_eq_ignore_ascii_case}
use Rattle.md_head.specs.Header.{is_blank, Group, IsFieldLine}

-- The bytes without the white space at both ends.
pub record IsTrimmed (bytes value : List ℕ) : Type 0 where
  pub before : List ℕ
  pub behind : List ℕ
  pub parts : bytes ≡ before ++ (value ++ behind)
  pub before_blank : AllPass is_blank before
  pub behind_blank : AllPass is_blank behind
  pub begins : is_blank (slice_index value 0) ≡ false
  pub ends : is_blank (slice_index value (length value - 1)) ≡ false

-- The group is a field of that name with that value. Names are compared without ASCII case (RFC 5322, 1.2.2), and the
-- value is the body with its continuations, unfolded: only the line ends are left out (2.2.3). White space at both
-- ends is trimmed (own).
pub record IsField (g : Group) (name value : List ℕ) : Type 0 where
  pub found : List ℕ
  pub body : List ℕ
  pub field_line : IsFieldLine g.first found body
  pub same_name : str_eq_ignore_ascii_case found name ≡ true
  pub trimmed : IsTrimmed (body ++ concat g.continuations) value

-- the group is no field of that name
abbrev pub IsOther : List ℕ → Group → Type 0
IsOther name g = (value : List ℕ) → ¬ IsField g name value

-- The value of the first group that is a field of that name, if there is one (which of a repeated field is own).
-- Groups of other names, and groups that are no field, are passed over (own).
abbrev pub IsFirstValue : List Group → List ℕ → Option (List ℕ) → Type 0
IsFirstValue groups name None = All (IsOther name) groups
IsFirstValue groups name (Some value) =
    (before : List Group) × (g : Group) × (behind : List Group)
    × (groups ≡ before ++ g ∷ behind) × All (IsOther name) before × IsField g name value

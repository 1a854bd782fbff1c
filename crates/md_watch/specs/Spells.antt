-- When things were there, by moments that are numbered from 0: the step of a number goes from the moment of that number to the next.
use Rattle.std.specs.Prelude.{ℕ, ◌≡◌, ◌+◌, ◌<◌, ◌≤◌, ◌&&◌, ◌||◌, ◌++◌, ◌∷◌, [], List, Option, Some, None, Bool, true, false, not, nat_le, slice_get, if◌then◌else◌}
use Rattle.std.specs.List.{list_any, list_all}
use Rattle.md_watch.specs.declared.spells.Spell.{Spell}
use Rattle.md_watch.specs.declared.spells.Spells.{Spells}
use Rattle.md_kept.specs.Tables.{value_at, is_key}

-- ---- what is kept of a thing

-- since which moment it is there, where it is
abbrev pub since_of : Option Spell → ℕ
since_of None = 0
since_of (Some s) = s.since

-- the times at which it was there before, each from its first moment to its last
abbrev pub ended_of : Option Spell → List (ℕ × ℕ)
ended_of None = []
ended_of (Some s) = s.ended.items

-- some of these times begins by a moment, and it and the later ones end no earlier than another
abbrev pub was_through : List (ℕ × ℕ) → ℕ → ℕ → Bool
was_through [] first last = false
was_through (t ∷ times) first last =
    (nat_le t.0 first && list_all (λ (s : ℕ × ℕ). nat_le last s.1) (t ∷ times)) || was_through times first last

-- it was there at each moment from one to another, which is no later than now, where it is there now or not
abbrev pub always_by : Bool → Option Spell → ℕ → ℕ → Bool
always_by is o first last = (is && nat_le (since_of o) first) || was_through (ended_of o) first last

-- it was there at a moment from one to now
abbrev pub ever_by : Bool → Option Spell → ℕ → Bool
ever_by is o first = is || list_any (λ (t : ℕ × ℕ). nat_le first t.1) (ended_of o)

-- ---- how it goes on

-- a step of a number, before which it was there or not, and after which it is there or not
pub record Passes (was is : Bool) (n : ℕ) (old new : Option Spell) : Type 0 where
  pub since : since_of new ≡ (if not was && is then n + 1 else since_of old)
  pub ended : ended_of new ≡ (if was && not is then ended_of old ++ (since_of old, n) ∷ [] else ended_of old)

-- what is kept of a thing says the same as before, where nothing says as much as that nothing was noted
pub record IsSame (old new : Option Spell) : Type 0 where
  pub since : since_of new ≡ since_of old
  pub ended : ended_of new ≡ ended_of old

-- What is kept is of moments up to this one, at which it is there or not: each time ended before the next began, with a moment between.
pub record IsTimely (n : ℕ) (is : Bool) (o : Option Spell) : Type 0 where
  pub begun : is ≡ true → since_of o ≤ n
  pub apart : is ≡ true → (k : ℕ) (t : ℕ × ℕ) → slice_get (ended_of o) k ≡ Some t → t.1 + 1 < since_of o
  pub gone : is ≡ false → (k : ℕ) (t : ℕ × ℕ) → slice_get (ended_of o) k ≡ Some t → t.1 < n
  pub later : (j k : ℕ) (t u : ℕ × ℕ) → j < k → slice_get (ended_of o) j ≡ Some t → slice_get (ended_of o) k ≡ Some u
      → t.1 + 1 < u.0

-- ---- by keys

-- what is kept of a thing, which has a number and a name
abbrev pub spell_at : Spells → ℕ → List ℕ → Option Spell
spell_at w number name = value_at w.all number name

-- The thing of one key passes, and nothing else is changed.
pub record Notes (number : ℕ) (name : List ℕ) (was is : Bool) (n : ℕ) (old new : Spells) : Type 0 where
  pub here : Passes was is n (spell_at old number name) (spell_at new number name)
  pub others : (m : ℕ) (q : List ℕ) → is_key (number, name) (m, q) ≡ false → spell_at new m q ≡ spell_at old m q

-- Values by numbers.
use Rattle.std.specs.Prelude.{ℕ, ◌≡◌, ◌≤◌, ◌==◌, Bool, true, false, Option, Some, None, unwrap_or, if◌then◌else◌}
use Rattle.std.specs.BTreeMap as ordered
use Rattle.std.specs.Ordering.{nat_cmp}
use Rattle.md_kept.specs.declared.few.Few.{Few}
use Rattle.md_kept.specs.declared.few.Few.TheVariants as few

-- what a number has
abbrev pub few_at : {V : Type 0} → Few V → ℕ → Option V
few_at few.None n = None
few_at (few.One only value) n = if only == n then Some value else None
few_at (few.Many all) n = ordered.get nat_cmp all n

-- what it counts, 0 where it has nothing
abbrev pub times_at : Few ℕ → ℕ → ℕ
times_at few n = unwrap_or (few_at few n) 0

-- the least number of which a test holds, if it holds of any
abbrev pub IsLeast : (ℕ → Bool) → Option ℕ → Type 0
IsLeast test None = (n : ℕ) → test n ≡ false
IsLeast test (Some least) = (test least ≡ true) × ((n : ℕ) → test n ≡ true → least ≤ n)

-- one number has this value after, and the others have what they had
abbrev pub Puts : {V : Type 0} → ℕ → Option V → Few V → Few V → Type 0
Puts number value old new = (n : ℕ) → few_at new n ≡ (if number == n then value else few_at old n)

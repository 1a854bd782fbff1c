-- The names that directories use up, when they are gathered, and what is kept of them.
use Rattle.std.specs.Prelude.{ℕ, ◌≡◌, List, Option, Some, None, Bool, true, false, ◌&&◌, ◌||◌, is_some}
use Rattle.std.specs.List.{list_any}
use Rattle.std.specs.Str.{bytes_eq}
use Rattle.std.specs.FinMap as finmap
use Rattle.md_dirs.specs.Path.{path_of as path}
use Rattle.md_dirs.specs.State.{State, file_at}
use Rattle.md_dirs.specs.declared.paths.Path.{Path}
use Rattle.md_dirs.specs.declared.paths.Place.TheVariants.{Tmp}
use Rattle.md_jobs.specs.declared.call.Call.{Call}
use Rattle.md_jobs.specs.declared.call.Call.TheVariants.{Deliver, Expunge, Copy, Clean}
use Rattle.md_core.specs.Submitting.{uses, makes}
use Rattle.md_used.specs.Used.{is_among}
use Rattle.md_used.specs.declared.used.Used.{Used}

-- names are those that entries use up
abbrev pub AreOf : List (Path × ℕ) → List (List ℕ) → Type 0
AreOf es names = (u : List ℕ) → is_among u names ≡ list_any (λ e. uses u e.0) es

-- whether directories use a name up
abbrev pub holds : State → List ℕ → Bool
holds s u = list_any (λ e. uses u e.0) (finmap.entries s.names)

-- whether a call may take a name away that the directories use: an expunge that of its message, a clean those in tmp of its folder
abbrev pub may_take : State → Call → List ℕ → Bool
may_take s (Expunge folder unique tries) u = bytes_eq unique u && holds s u
may_take s (Clean folder) u = is_some (file_at s (path folder Tmp u))
may_take s call u = false

-- Whether directories may use a name after a step of a call and not before it, or the other way round. All else that a call does to paths
-- is to rename some, which keep their unique part.
abbrev pub may_change : State → Call → List ℕ → Bool
may_change s call u = makes u call || may_take s call u

-- whether a name is used up before a call: it is among those since, or the directories use it
abbrev pub is_used_before : State → Used → List ℕ → Bool
is_used_before s used u = is_among u used.since || holds s u

-- whether the name that a call makes is used up before it
abbrev pub makes_used : State → Used → Call → Bool
makes_used s used (Deliver folder unique body chunk) = is_used_before s used unique
makes_used s used (Copy folder unique to fresh tries) = is_used_before s used fresh
makes_used s used call = false

-- gathered names, if any are, have all that the directories use and that are not among those since. They may have others, which left the
-- directories before a settle
abbrev pub CoversBy : State → List (List ℕ) → Option (List (List ℕ)) → Type 0
CoversBy s since None = Unit {0}
CoversBy s since (Some names) = (u : List ℕ) → holds s u ≡ true → (is_among u since || is_among u names) ≡ true

-- what is kept of names has all that the directories use, if any were gathered
abbrev pub Covers : State → Used → Type 0
Covers s used = CoversBy s used.since used.were

-- What is kept from the submit of a call on: the names since are those before it and those that it may change.
pub record KeepsMade (s : State) (call : Call) (before after : Used) : Type 0 where
  pub since : (u : List ℕ) → is_among u after.since ≡ (may_change s call u || is_among u before.since)
  pub covers : Covers s after

-- names since may be more, but the same are used up: the others are in the directories
pub record StillUsed (s : State) (old new : List (List ℕ)) : Type 0 where
  pub kept : (u : List ℕ) → is_among u old ≡ true → is_among u new ≡ true
  pub same : (u : List ℕ) → (is_among u new || holds s u) ≡ (is_among u old || holds s u)

-- What is kept after a submit that was refused: the same names are used up.
pub record KeepsUsed (s : State) (before after : Used) : Type 0 where
  pub since : StillUsed s before.since after.since
  pub covers : Covers s after

-- What is kept of a call whose names are tried: they are used from now on if the one that it makes was not, and are as they were if it was.
abbrev pub KeepsTried : State → Call → Used → Used → Bool → Type 0
KeepsTried s call before after true = (makes_used s before call ≡ false) × KeepsMade s call before after
KeepsTried s call before after false = (makes_used s before call ≡ true) × KeepsUsed s before after

-- The listing law: what a listing shows whose new was read at one moment, and its cur at the same or a later one. It speaks of the names of
-- the mailbox at each moment, be these moments of a run or of a history.
use Rattle.std.specs.Prelude.{ℕ, ◌≡◌, ◌≤◌, ◌==◌, ◌⊎◌, List, length, take, Option, Some, None, IsSome, if◌then◌else◌}
use Rattle.std.specs.Option.{option_and_then}
use Rattle.std.specs.FinMap as finmap
use Rattle.md_dirs.specs.declared.paths.Place.TheVariants.{New, Cur}
use Rattle.md_core.specs.History.{Listed, Names, names_of, names_after}
use Rattle.md_jobs.specs.declared.call.Call.{Call}
use Rattle.md_jobs.specs.declared.effect.Effect.{Effect}
use Rattle.md_core.specs.Machine.{Occurrence}
use Rattle.md_core.specs.Trace.{box}
use Rattle.md_core.specs.Tracing.{trace_of}
use Rattle.md_core.specs.Runs.{Run, and_events, and_call}
use Rattle.md_listing.specs.declared.entry.Entry.{Entry}
use Rattle.md_listing.specs.declared.listing.BegunListing.{BegunListing}
use Rattle.md_listing.specs.Readings.{as_entry, reading_of, by_unique, join_of, IsInOrder}

-- the names of the mailbox at a moment of a run
abbrev pub names_at : Run → ℕ → Names
names_at r k = names_of (box (trace_of r) k)

-- the names after the first k effects of a history
abbrev pub names_after_first : Names → List Effect → ℕ → Names
names_after_first opening history k = names_after opening (take k history)

-- the entry of a message, if it is in the folder
abbrev pub shown_in : ℕ → List ℕ → Listed → Option Entry
shown_in folder u message = if message.folder == folder then Some (as_entry (u, message)) else None

-- the entry of a unique name in a folder, or none where it isn't there
abbrev pub entry_in : Names → ℕ → List ℕ → Option Entry
entry_in names folder u = option_and_then (shown_in folder u) (finmap.get names u)

-- the entry of a unique name in a list, or none where it isn't listed
abbrev pub entry_among : List Entry → List ℕ → Option Entry
entry_among entries u = finmap.get (by_unique entries) u

-- the listing of a folder whose new was read at moment i, and whose cur at moment j
abbrev pub listing_of : (ℕ → Names) → ℕ → ℕ → ℕ → List Entry
listing_of names folder i j = join_of (reading_of (names i) folder New) (reading_of (names j) folder Cur)

-- these entries show a unique name as it was in the folder at some moment from i to j: its entry then, or that it wasn't there
pub record IsOfSomeMoment (names : ℕ → Names) (folder i j : ℕ) (entries : List Entry) (u : List ℕ) : Type 0 where
  pub k : ℕ
  pub from : i ≤ k
  pub to : k ≤ j
  pub is : entry_among entries u ≡ entry_in (names k) folder u

-- The listing law, of the entries that are listed: each unique name is shown as it was at some moment between the two readings; one that is
-- in the folder at both is listed; and none is listed twice.
pub record IsGoodListing (names : ℕ → Names) (folder i j : ℕ) (entries : List Entry) : Type 0 where
  pub some_moment : (u : List ℕ) → IsOfSomeMoment names folder i j entries u
  pub at_both : (u : List ℕ) → IsSome (entry_in (names i) folder u) → IsSome (entry_in (names j) folder u) → IsSome (entry_among entries u)
  pub once : IsInOrder entries

-- a listing has begun: its new was read at a moment of the run
pub record HasBegun (r : Run) (l : BegunListing) : Type 0 where
  pub past : l.begun ≤ length r.events
  pub new : l.new ≡ reading_of (names_at r l.begun) l.folder New

-- a run goes on: by events, or by a call that is submitted
abbrev pub Continues : Run → Run → Type 0
Continues r r' = ((es : List Occurrence) × (r' ≡ and_events r es)) ⊎ ((call : Call) × (r' ≡ and_call r call))

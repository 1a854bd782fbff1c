-- A listing that has begun waits: what was read then is what was there then, however the run goes on.
use Rattle.std.proofs.Common.{◌≡◌, ◌≤◌, ◌+◌, inl, inr, length, sym, ap, ◌∙◌, arith}
use Rattle.std.proofs.lemmas.List.{length-append}
use Rattle.md_dirs.specs.State.{State}
use Rattle.md_dirs.specs.declared.paths.Place.TheVariants.{New}
use Rattle.md_core.specs.Mailbox.{mailbox_of}
use Rattle.md_core.specs.History.{names_of}
use Rattle.md_core.specs.Runs.{Run, dirs_of}
use Rattle.md_core.specs.Tracing.{IsShown, KeepsStates}
use Rattle.md_listing.specs.declared.listing.BegunListing.{BegunListing}
use Rattle.md_listing.specs.Readings.{reading_of}
use Rattle.md_listing.specs.Law.{names_at, HasBegun, Continues}

-- the names of the last moment are those of the directories now
pub names-now : (r : Run) → IsShown r → names_of (mailbox_of (dirs_of r)) ≡ names_at r (length r.events)
names-now r shown = ap (λ (s : State). names_of (mailbox_of s)) (sym shown.dirs)

-- a run that goes on has taken as many steps or more
longer : (r r' : Run) → Continues r r' → length r.events ≤ length r'.events
longer r r' more = elim more [
  | inl by_events ↦
      let all : length r'.events ≡ length r.events + length by_events.0 =
      ap (λ (x : Run). length x.events) by_events.1 ∙ length-append r.events by_events.0 in
      omega (arith, all)
  | inr by_call ↦ let same : length r'.events ≡ length r.events = ap (λ (x : Run). length x.events) by_call.1 in omega (arith, same)
]

pub goes_on : (r r' : Run) (l : BegunListing) → KeepsStates r r' → HasBegun r l → Continues r r' → HasBegun r' l
goes_on r r' l keeps begun more = record {
  past = let past = begun.past in let more_steps = longer r r' more in omega (arith, past, more_steps);
  new = begun.new ∙ ap (λ (s : State). reading_of (names_of (mailbox_of s)) l.folder New) (sym (keeps l.begun begun.past));
}

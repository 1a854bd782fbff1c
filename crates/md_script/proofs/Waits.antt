-- Listings that have begun wait for whatever is done to a store.
use Rattle.std.proofs.Common.{◌≡◌, [], ◌∷◌, inl, inr, sym, subst}
use Rattle.md_jobs.specs.declared.call.Call.{Call}
use Rattle.md_core.specs.Machine.{Occurrence}
use Rattle.md_core.specs.Runs.{Run, and_call, and_event}
use Rattle.md_core.specs.Stepping.{IsRun}
use Rattle.md_listing.specs.declared.listing.BegunListing.{BegunListing}
use Rattle.md_listing.specs.Law.{HasBegun, Continues}
use Rattle.md_script.specs.Held.{MayWait}

-- the law of listings that wait
abbrev MayWaitAlways : Type 0
MayWaitAlways = (r r' : Run) → IsRun r → IsRun r' → Continues r r' → (l : BegunListing) → HasBegun r l → HasBegun r' l

pub waits-unchanged : (r r' : Run) → r' ≡ r → MayWait r r'
waits-unchanged r r' same l begun = subst (λ (x : Run). HasBegun x l) (sym same) begun

pub waits-event : MayWaitAlways → (r r' : Run) (e : Occurrence) → IsRun r → IsRun r' → r' ≡ and_event r e → MayWait r r'
waits-event law r r' e run later is = law r r' run later (inl (e ∷ [], is))

pub waits-call : MayWaitAlways → (r r' : Run) (c : Call) → IsRun r → IsRun r' → r' ≡ and_call r c → MayWait r r'
waits-call law r r' c run later is = law r r' run later (inr (c, is))

-- What each answer says that isn't of a delivery that is done, of a fault, of time or of a clean.
use Rattle.std.proofs.Common.{ℕ, ◌≡◌, Some, refl}
use Rattle.md_jobs.specs.declared.answer.Answer.TheVariants as answer
use Rattle.md_core.proofs.Values.{Call, Answer, answered, job_at, Run, jobs_of, call_at, IsRun, Says, trace_of}
use Rattle.md_core.proofs.Answers.LastStep.{LastStep, is-step, last-step}
use Rattle.md_core.proofs.Answers.OfFault.{says-taken, last-look}
use Rattle.md_core.proofs.Answers.Touches.OfSpan.{at-step, says-none}
use Rattle.md_core.proofs.Answers.Touches.Tries.{says-lost}

-- the answers that are not of a delivery that is done, of a fault, of time or of a clean
abbrev pub IsOfMailbox : Answer → Type 0
IsOfMailbox answer.Delivered = ⊥
IsOfMailbox answer.Fault = ⊥
IsOfMailbox answer.TimedOut = ⊥
IsOfMailbox answer.TmpGone = ⊥
IsOfMailbox (answer.Cleaned n) = ⊥
IsOfMailbox a = Unit {0}

pub says_of_mailbox : (r : Run) → IsRun r → (job : ℕ) (c : Call) (a : Answer) → call_at r.calls job ≡ Some c →
    job_at (jobs_of r) job ≡ Some (answered a) → IsOfMailbox a → Says (trace_of r) job c a
says_of_mailbox r run job c a of is its = by a (last-step r run job a is) its
  where
    by : (a : Answer) → LastStep r job a → IsOfMailbox a → Says (trace_of r) job c a
    by answer.NotThere last its = says-none r run last.k job c of last.turn (last-look r run job c of answer.NotThere last tt)
    by answer.NotTrashed last its =
        at-step r run job last.k c answer.NotTrashed (is-step r run last.k job last.turn) (last-look r run job c of answer.NotTrashed last tt)
    by answer.OtherInfo last its =
        at-step r run job last.k c answer.OtherInfo (is-step r run last.k job last.turn) (last-look r run job c of answer.OtherInfo last tt)
    by answer.Lost last its = says-lost r run last.k job c of last.turn (last-look r run job c of answer.Lost last tt)
    by answer.Fault last its = absurd its
    by answer.NameTaken last its = says-taken r run job c of answer.NameTaken last refl
    by answer.TimedOut last its = absurd its
    by answer.TmpGone last its = absurd its
    by (answer.Cleaned n) last its = absurd its
    by answer.Delivered last its = absurd its
    by other last its = tt

-- Our jobs where the others keep all that the calls at work rely on.
use Rattle.std.proofs.Common.{ℕ, ◌≡◌, Some, refl, arith}
use Rattle.std.specs.Prelude.{Contains}
use Rattle.md_jobs.specs.declared.answer.Answer.{Answer}
use Rattle.md_jobs.specs.declared.answer.Answer.TheVariants as answer
use Rattle.md_jobs.specs.declared.call.Call.{Call}
use Rattle.md_jobs.specs.declared.call.Call.TheVariants as call
use Rattle.md_core.specs.Interleaving.{IsDelivery}
use Rattle.md_core.specs.Trace.{call_at}
use Rattle.md_log.specs.declared.clause.Clause.{Clause}
use Rattle.md_log.specs.declared.clause.Clause.TheVariants as clause
use Rattle.md_law.specs.Clauses.{CleanedEarly}
use Rattle.md_beside.specs.Story.{Story}
use Rattle.md_beside.specs.Beside.{IsStory, IsAtWork, AreOurs, IsAnswered, IsClean, Says}
use Rattle.md_beside.specs.Jobs.{IsMove, LooksInBoth, OwesJobs, OwesDeliveries, Others, AreLawful, AreSparing, AreTimely, AreForward, AreUsedOnce, AreNear, MayBreak, KeepsPromise}
use Rattle.md_beside.specs.Relied.{relied, AreKeptFor, AreKept, IsLeft, KeepsAll, JobsRely}
use Rattle.md_beside.proofs.Jobs.{keep-promises}

module _ (t : Story) where
  -- each call relies on the two clauses of each job
  to-jobs : (c : Call) → AreKeptFor t c → Others OwesJobs t
  to-jobs c kept k x actor is who = record {
    one_name = kept k x actor clause.TwoNames is who (first c);
    one_folder = kept k x actor clause.InTwoFolders is who (second c);
  }
    where
      first : (c : Call) → Contains (relied c) clause.TwoNames
      first (call.Deliver folder u body chunk) = (0, omega arith, refl)
      first (call.Seen folder u flags tries) = (0, omega arith, refl)
      first (call.Flag folder u add remove tries) = (0, omega arith, refl)
      first (call.Move folder u to tries) = (0, omega arith, refl)
      first (call.Expunge folder u tries) = (0, omega arith, refl)
      first (call.Copy folder u to fresh tries) = (0, omega arith, refl)
      first (call.Clean folder) = (0, omega arith, refl)

      second : (c : Call) → Contains (relied c) clause.InTwoFolders
      second (call.Deliver folder u body chunk) = (1, omega arith, refl)
      second (call.Seen folder u flags tries) = (1, omega arith, refl)
      second (call.Flag folder u add remove tries) = (1, omega arith, refl)
      second (call.Move folder u to tries) = (1, omega arith, refl)
      second (call.Expunge folder u tries) = (1, omega arith, refl)
      second (call.Copy folder u to fresh tries) = (1, omega arith, refl)
      second (call.Clean folder) = (1, omega arith, refl)

  to-deliveries : (c : Call) → IsDelivery c → AreKeptFor t c → Others OwesDeliveries t
  to-deliveries (call.Deliver folder u body chunk) is-one kept = λ k x actor is who. record {
    unmixed = kept k x actor clause.Mixed is who (2, omega arith, refl);
    unnamed = kept k x actor clause.NamedByAnother is who (3, omega arith, refl);
  }
  to-deliveries c is-none kept = absurd is-none

  forward : (c : Call) → LooksInBoth c → AreKeptFor t c → AreForward t
  forward (call.Move folder u to tries) looks kept = λ k x actor is who. kept k x actor clause.MovedBack is who (2, omega arith, refl)
  forward (call.Copy folder u to fresh tries) looks kept = λ k x actor is who. kept k x actor clause.MovedBack is who (2, omega arith, refl)
  forward c looks kept = absurd looks

  used-once : (c : Call) → IsMove c → AreKeptFor t c → AreUsedOnce t
  used-once (call.Move folder u to tries) move kept = λ k x actor is who. kept k x actor clause.UsedTwice is who (3, omega arith, refl)
  used-once c move kept = absurd move

  timely : AreNear t → (c : Call) → IsClean c → AreKeptFor t c → AreTimely t
  timely clocks (call.Clean folder) clean kept = record {
    unmade = λ k x actor is who. kept k x actor clause.MadeAgain is who (2, omega arith, refl);
    in_time = λ k x actor is who. kept k x actor clause.WrittenLate is who (3, omega arith, refl);
    clocks = clocks;
  }
  timely clocks c clean kept = absurd clean

  spared : (c : Call) → IsDelivery c → AreKeptFor t c → Others (λ h. CleanedEarly h → ⊥) t
  spared (call.Deliver folder u body chunk) is-one kept = λ k x actor is who. kept k x actor clause.CleanedEarly is who (4, omega arith, refl)
  spared c is-none kept = absurd is-none

  module _ (story : IsStory t) (names : AreOurs t) (clocks : AreNear t) (kept : AreKept t)
      (job : ℕ) (c : Call) (of : call_at t.calls job ≡ Some c) (works : IsAtWork t job) where
    kept-here : AreKeptFor t c
    kept-here = kept job c of works

    lawful : AreLawful t
    lawful = record {
      to_jobs = to-jobs c kept-here;
      to_deliveries = λ job' c' of' works' delivery. to-deliveries c' delivery (kept job' c' of' works');
    }

    -- a clean that takes a step has time
    sparing : IsDelivery c → AreSparing t
    sparing delivery = record {
      others = spared c delivery kept-here;
      cleans = λ late k job' folder x is who of' early.
          late (timely clocks (call.Clean folder) tt (kept job' (call.Clean folder) of' (k, record { step = x; at = is; own = who })));
    }

    left : (b : Clause) → (IsLeft c b → ⊥) → MayBreak t c b → ⊥
    left clause.NotFlushed not may = not may
    left clause.Unlisted not may = not may
    left clause.UsedAgain not may = may.1 (used-once c may.0 kept-here)
    left clause.CleanedEarly not may = may.1 (timely clocks c may.0 kept-here)
    left clause.WrittenLate not may = may.1 clocks.near
    left b not may = may

    -- of a job that is no delivery the answer says nothing that can be so
    never-gone : (c' : Call) → (IsDelivery c' → AreSparing t) → KeepsPromise t job c' → ((a : Answer) → IsAnswered t job a → Says t job c' a)
        → IsAnswered t job answer.TmpGone → ⊥
    never-gone (call.Deliver folder u body chunk) spare promise says gone = promise.never_gone clocks.near (spare tt) gone
    never-gone c' spare promise says gone = says answer.TmpGone gone

    keeps-all : KeepsAll t job c
    keeps-all =
        let promise = keep-promises t story names lawful job c of works in
        let says = promise.says (λ looks. forward c looks kept-here) in
        record {
          promise = promise;
          says = says;
          never_gone = never-gone c sparing promise says;
          lawful = λ k x b is who not. promise.lawful k x b is who (left b not);
        }

-- the law
pub rely : JobsRely
rely t story names clocks kept job c of works = keeps-all t story names clocks kept job c of works

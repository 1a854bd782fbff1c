-- A clean of ours keeps its promise in a story whose directories are sound and in which each message has one path at each moment.
use Rattle.std.proofs.Common.{ℕ, suc, ◌≡◌, ◌≤◌, List, Some, sym, subst, length, slice_get, arith}
use Rattle.md_dirs.specs.State.{IsSound}
use Rattle.md_jobs.specs.declared.answer.Answer.{Answer}
use Rattle.md_jobs.specs.declared.answer.Answer.TheVariants as answer
use Rattle.md_jobs.specs.declared.call.Call.{Call}
use Rattle.md_jobs.specs.declared.call.Call.TheVariants as call
use Rattle.md_core.specs.Interleaving.{IsDeliveryOf}
use Rattle.md_core.specs.Mailbox.{HasOnePath}
use Rattle.md_log.specs.declared.clause.Clause.{Clause}
use Rattle.md_law.specs.Law.{Breaks}
use Rattle.md_law.specs.Law.{MadeAgain, WrittenLate}
use Rattle.md_beside.specs.Story.{Story, Step, ours, step_at, state, history, standing}
use Rattle.md_beside.specs.Beside.{IsStory, IsAnswered, IsClean, Says}
use Rattle.md_beside.specs.Jobs.{AreUsedOnce, AreTimely, MayBreak, KeepsPromise}
use Rattle.md_beside.proofs.Acting.{OwnStep, stands-beside, by-who, acts, answered-all}
use Rattle.md_beside.proofs.CleanSays.{folder_of, Taking, taking-first, taking-beside, has-cleaned, is-cleaned}
use Rattle.md_beside.proofs.CleanSteps.{FitsClean, Old, old-first, old-next, old-beside, own-step, never-gone, says-here, taking-next, lawful-here}
use Rattle.md_beside.proofs.EachMoment.{each-moment}
use Rattle.md_beside.proofs.Histories.{next_at}
use Rattle.md_beside.proofs.OneFile.{IsOneFile}
use Rattle.md_beside.proofs.OwnCall.{within-story, its, back}

-- a clean delivers no message
delivers-none : (c : Call) → IsClean c → (u bytes : List ℕ) → IsDeliveryOf u bytes c → ⊥
delivers-none (call.Clean folder) clean u bytes its = its
delivers-none other clean u bytes its = clean

module _ (t : Story) (story : IsStory t) (i : ℕ) (c : Call) (of : slice_get t.calls i ≡ Some c) (clean : IsClean c)
    (sound-at : (k : ℕ) → k ≤ length t.steps → IsSound (state t k)) (one-at : (k : ℕ) → HasOnePath (state t k))
    (fits-at : (k : ℕ) → k ≤ length t.steps → FitsClean t k c (standing t (suc i) c k))
    (files-at : (k : ℕ) → k ≤ length t.steps → AreUsedOnce t → IsOneFile (history t k))
    (unmade-at : AreTimely t → (k : ℕ) (x : Step) → step_at t k ≡ Some x → MadeAgain (next_at t k x) → ⊥)
    (in_time-at : AreTimely t → (k : ℕ) (x : Step) → step_at t k ≡ Some x → WrittenLate (next_at t k x) → ⊥) where
  abbrev job : ℕ
  job = suc i

  module _ (k : ℕ) (x : Step) (is : step_at t k ≡ Some x) (who : x.who ≡ ours job) where
    sound-here : IsSound (state t k)
    sound-here = sound-at k (within-story t k x is)

    fits-here : FitsClean t k (story.turns k job x is who).call (standing t job (story.turns k job x is who).call k)
    fits-here = back t story i c of k x is who (λ c'. FitsClean t k c' (standing t job c' k)) (fits-at k (within-story t k x is))

    own-its : OwnStep t k job x c
    own-its = its t story i c of k x is who (OwnStep t k job x) (own-step t story k job x is who sound-here (one-at k) fits-here)

    taking-its : Taking t job (folder_of c) k (standing t job c k) → Taking t job (folder_of c) (suc k) (standing t job c (suc k))
    taking-its taking = its t story i c of k x is who (λ c'. Taking t job (folder_of c') (suc k) (standing t job c' (suc k)))
        (taking-next t story k job x is who sound-here (one-at k) fits-here
        (back t story i c of k x is who (λ c'. Taking t job (folder_of c') k (standing t job c' k)) taking))

    says-its : (a : Answer) → x.answer ≡ Some a → ((n : ℕ) → a ≡ answer.Cleaned n → Says t job c (answer.Cleaned n)) → Says t job c a
    says-its a gave = its t story i c of k x is who
        (λ c'. ((n : ℕ) → a ≡ answer.Cleaned n → Says t job c' (answer.Cleaned n)) → Says t job c' a)
        (says-here t story k job x is who sound-here (one-at k) fits-here a gave)

    gone-its : x.answer ≡ Some answer.TmpGone → ⊥
    gone-its = never-gone t story k job x is who sound-here (one-at k) fits-here

    old-back : Old t k (standing t job c k) → Old t k (standing t job (story.turns k job x is who).call k)
    old-back = back t story i c of k x is who (λ c'. Old t k (standing t job c' k))

    old-own : AreTimely t → Old t k (standing t job c k) → Old t (suc k) (standing t job c (suc k))
    old-own timely old = its t story i c of k x is who (λ c'. Old t (suc k) (standing t job c' (suc k)))
        (old-next t story k job x is who sound-here (one-at k) fits-here (old-back old) (unmade-at timely k x is) (in_time-at timely k x is)
        (timely.clocks.behind k job x c is who of clean))

    lawful-its : (AreTimely t → Old t k (standing t job c k)) → (b : Clause) → (MayBreak t c b → ⊥) → Breaks b (history t (suc k)) → ⊥
    lawful-its old b not = lawful-here t story k job x is who sound-here (one-at k) fits-here (files-at k (within-story t k x is))
        (λ timely. old-back (old timely)) b (back t story i c of k x is who (λ c'. MayBreak t c' b → ⊥) not)

  -- the names that it has left are of old files, or of none
  old-at : AreTimely t → (k : ℕ) → k ≤ length t.steps → Old t k (standing t job c k)
  old-at timely = each-moment t (λ k. Old t k (standing t job c k)) (old-first t job c)
      (λ k x is old. by-who x.who job (λ who. old-own k x is who timely old)
      (λ not-own. subst (Old t (suc k)) (sym (stands-beside t job c k x is not-own))
      (old-beside t story k x is (sound-at k (within-story t k x is)) (one-at k) i c of (unmade-at timely k x is) (in_time-at timely k x is)
      (standing t job c k) old)))

  -- what it has taken
  taking-at : (k : ℕ) → k ≤ length t.steps → Taking t job (folder_of c) k (standing t job c k)
  taking-at = each-moment t (λ k. Taking t job (folder_of c) k (standing t job c k)) (taking-first t job (folder_of c) c)
      (λ k x is taking. by-who x.who job (λ who. taking-its k x is who taking)
      (λ not-own. subst (Taking t job (folder_of c) (suc k)) (sym (stands-beside t job c k x is not-own))
      (taking-beside t job (folder_of c) k x is not-own (standing t job c k) taking)))

  counts-all : (n : ℕ) → IsAnswered t job (answer.Cleaned n) → Says t job c (answer.Cleaned n)
  counts-all n gave = is-cleaned t job c clean n (has-cleaned t job (folder_of c) n
      (subst (Taking t job (folder_of c) (length t.steps)) (answered-all t job c own-its (answer.Cleaned n) gave)
      (taking-at (length t.steps) (omega arith))))

  pub keeps : KeepsPromise t job c
  keeps = record {
    as_alone = λ k x is who. (own-its k x is who).as_alone;
    acts = acts t job c own-its;
    says = λ forward a gave. says-its gave.k gave.last.step gave.last.at gave.last.own a gave.answer
        (λ n same. counts-all n (subst (IsAnswered t job) same gave));
    one_path = one-at;
    whole = λ k u bytes e its there. absurd (delivers-none c clean u bytes its);
    never_gone = λ apart spare gave. gone-its gave.k gave.last.step gave.last.at gave.last.own gave.answer;
    lawful = λ k x b is who not broken. lawful-its k x is who (λ timely. old-at timely k (within-story t k x is)) b not broken;
  }

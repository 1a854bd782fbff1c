-- An errand of ours keeps its promise in a story whose directories are sound and in which each message has one path at each moment.
use Rattle.std.proofs.Common.{ℕ, suc, ◌≡◌, ◌≤◌, List, Option, Some, None, refl, sym, ap, subst, ◌∙◌, length, slice_get}
use Rattle.md_dirs.specs.State.{IsSound}
use Rattle.md_jobs.specs.declared.answer.Answer.{Answer}
use Rattle.md_jobs.specs.declared.answer.Answer.TheVariants as answer
use Rattle.md_jobs.specs.declared.call.Call.{Call}
use Rattle.md_jobs.specs.declared.call.Call.TheVariants as call
use Rattle.md_core.specs.Interleaving.{IsDeliveryOf}
use Rattle.md_core.specs.Machine.{Standing}
use Rattle.md_core.specs.Mailbox.{HasOnePath}
use Rattle.md_core.proofs.Answers.Turns.OneMessage.{IsOver, TriesOn, Trying}
use Rattle.md_core.proofs.Machines.Errand.Table.Calls.{sought, tries_in}
use Rattle.md_log.specs.declared.clause.Clause.{Clause}
use Rattle.md_law.specs.Law.{Breaks}
use Rattle.md_law.specs.Clauses.{MovedBack}
use Rattle.md_beside.specs.Story.{Story, Step, ours, step_at, state, history, standing, standing_from}
use Rattle.md_beside.specs.Beside.{IsStory, Says}
use Rattle.md_beside.specs.Jobs.{LooksInBoth, AreForward, AreUsedOnce, MayBreak, KeepsPromise}
use Rattle.md_beside.proofs.Acting.{OwnStep, stands-beside, by-who, acts}
use Rattle.md_beside.proofs.EachMoment.{each-moment}
use Rattle.md_beside.proofs.ErrandClauses.{looks, reads-neither}
use Rattle.md_beside.proofs.ErrandLooks.{HasPassed, passes-beside}
use Rattle.md_beside.proofs.ErrandSteps.{IsErrand, FitsErrand, own-step, never-gone, says-here, reads-next, lawful-here, passed-next, trying, tries-next, over-here}
use Rattle.md_beside.proofs.ErrandTries.{TriedAt, tried-first, tried-beside, tried-on, over, is-lost}
use Rattle.md_beside.proofs.Histories.{next_at}
use Rattle.md_beside.proofs.OneFile.{IsOneFile}
use Rattle.md_beside.proofs.OwnCall.{within-story, its, back}
use Rattle.md_beside.proofs.Readings.{ReadsAlone, reads-first, reads-beside}

-- an errand delivers no message
delivers-none : (c : Call) → IsErrand c → (u bytes : List ℕ) → IsDeliveryOf u bytes c → ⊥
delivers-none (call.Deliver folder v body chunk) errand u bytes its = errand
delivers-none other errand u bytes its = its

module _ (t : Story) (story : IsStory t) (i : ℕ) (c : Call) (of : slice_get t.calls i ≡ Some c) (errand : IsErrand c)
    (sound-at : (k : ℕ) → k ≤ length t.steps → IsSound (state t k)) (one-at : (k : ℕ) → HasOnePath (state t k))
    (fits-at : (k : ℕ) → k ≤ length t.steps → FitsErrand t k c (standing t (suc i) c k))
    (files-at : (k : ℕ) → k ≤ length t.steps → AreUsedOnce t → IsOneFile (history t k))
    (forward-at : AreForward t → (k : ℕ) (x : Step) → step_at t k ≡ Some x → MovedBack (next_at t k x) → ⊥) where
  abbrev job : ℕ
  job = suc i

  abbrev tried : ℕ → Type 0
  tried k = TriedAt t job (sought c) (tries_in c) k (trying (standing t job c k))

  module _ (k : ℕ) (x : Step) (is : step_at t k ≡ Some x) (who : x.who ≡ ours job) where
    low : k ≤ length t.steps
    low = within-story t k x is

    -- what the lemmas on own steps say, and ask
    told : (P : Call → Type 0) → P (story.turns k job x is who).call → P c
    told = its t story i c of k x is who

    of-turn : (P : Call → Type 0) → P c → P (story.turns k job x is who).call
    of-turn = back t story i c of k x is who

    fits-here : FitsErrand t k (story.turns k job x is who).call (standing t job (story.turns k job x is who).call k)
    fits-here = of-turn (λ c'. FitsErrand t k c' (standing t job c' k)) (fits-at k low)

    own-its : OwnStep t k job x c
    own-its = told (OwnStep t k job x) (own-step t story k job x is who (sound-at k low) (one-at k) fits-here)

    gone-its : x.answer ≡ Some answer.TmpGone → ⊥
    gone-its = never-gone t story k job x is who (sound-at k low) (one-at k) fits-here

    alone-call : ReadsAlone t k job (looks c) → ReadsAlone t k job (looks (story.turns k job x is who).call)
    alone-call = of-turn (λ c'. ReadsAlone t k job (looks c'))

    reads-its : (LooksInBoth c → ⊥) → ReadsAlone t k job (looks c) → ReadsAlone t (suc k) job (looks c)
    reads-its not alone = told (λ c'. ReadsAlone t (suc k) job (looks c'))
        (reads-next t story k job x is who (sound-at k low) (one-at k) fits-here (of-turn (λ c'. LooksInBoth c' → ⊥) not)
        (alone-call alone))

    lawful-its : ((LooksInBoth c → ⊥) → ReadsAlone t k job (looks c)) → (b : Clause) → (MayBreak t c b → ⊥) →
        Breaks b (history t (suc k)) → ⊥
    lawful-its alone b not = lawful-here t story k job x is who (sound-at k low) (one-at k) fits-here (files-at k low)
        (of-turn (λ c'. (LooksInBoth c' → ⊥) → ReadsAlone t k job (looks c')) alone) b (of-turn (λ c'. MayBreak t c' b → ⊥) not)

    passed-its : HasPassed t job (suc k) (standing t job c (suc k))
    passed-its = told (λ c'. HasPassed t job (suc k) (standing t job c' (suc k)))
        (passed-next t story k job x is who (sound-at k low) (one-at k) fits-here)

    -- with an answer it has no tries
    tried-its : tried k → tried (suc k)
    tried-its before = by x.answer refl
      where
        by : (o : Option Answer) → x.answer ≡ o → tried (suc k)
        by None none = tried-on t job (sought c) (tries_in c) k x is who (trying (standing t job c k)) (trying (standing t job c (suc k)))
            (told (λ c'. TriesOn (state t k) (state t (suc k)) (sought c') (trying (standing t job c' k))
            (trying (standing t job c' (suc k))))
            (tries-next t story k job x is who (sound-at k low) (one-at k) fits-here none))
            before
        by (Some a) gave = subst (λ (y : Trying). TriedAt t job (sought c) (tries_in c) (suc k) y)
            (sym (ap trying (own-its.answers a gave))) tt

    lost-its : tried k → x.answer ≡ Some answer.Lost → Says t job c answer.Lost
    lost-its before gave = is-lost t job c errand (over t job (sought c) (tries_in c) k x is who (trying (standing t job c k))
        (told (λ c'. IsOver (state t k) (trying (standing t job c' k)))
        (over-here t story k job x is who (sound-at k low) (one-at k) fits-here gave))
        before)

    says-its : (LooksInBoth c → HasPassed t job k (standing t job c k)) → tried k → (a : Answer) → x.answer ≡ Some a → Says t job c a
    says-its passed before a gave = told (λ c'. (LooksInBoth c' → HasPassed t job k (standing t job c' k)) →
        (a ≡ answer.Lost → Says t job c' answer.Lost) → Says t job c' a)
        (λ passed' lost. says-here t story k job x is who (sound-at k low) (one-at k) fits-here passed' a gave lost)
        passed (λ same. lost-its before (gave ∙ ap Some same))

  -- how often it has tried

  tried-step : (k : ℕ) (x : Step) → step_at t k ≡ Some x → tried k → tried (suc k)
  tried-step k x is before = by-who x.who job
      (λ who. tried-its k x is who before)
      (λ not-own. subst (λ (st : Standing). TriedAt t job (sought c) (tries_in c) (suc k) (trying st))
      (sym (stands-beside t job c k x is not-own))
      (tried-beside t job (sought c) (tries_in c) k x is not-own (trying (standing t job c k)) before))

  tried-at : (k : ℕ) → k ≤ length t.steps → tried k
  tried-at = each-moment t tried (tried-first t job c errand) tried-step

  -- where it has read

  reads-at : (LooksInBoth c → ⊥) → (k : ℕ) → k ≤ length t.steps → ReadsAlone t k job (looks c)
  reads-at not = each-moment t (λ k. ReadsAlone t k job (looks c)) (reads-first t job (looks c) (reads-neither c))
      (λ k x is before. by-who x.who job (λ who. reads-its k x is who not before)
      (λ not-own. reads-beside t story k job x is (looks c) before not-own))

  -- what it has passed

  passed-first : (c' : Call) → IsErrand c' → HasPassed t job 0 (standing t job c' 0)
  unfolding standing_from
  passed-first (call.Seen folder u flags tries) its = λ both cur. cc
  passed-first (call.Flag folder u add remove tries) its = λ both cur. cc
  passed-first (call.Move folder u to tries) its = λ both cur. cc
  passed-first (call.Expunge folder u tries) its = λ both cur. cc
  passed-first (call.Copy folder u to fresh tries) its = λ both cur. cc
  passed-first (call.Deliver folder u body chunk) its = absurd its
  passed-first (call.Clean folder) its = absurd its

  passed-at : AreForward t → (k : ℕ) → k ≤ length t.steps → HasPassed t job k (standing t job c k)
  passed-at forward = each-moment t (λ k. HasPassed t job k (standing t job c k)) (passed-first c errand)
      (λ k x is before. by-who x.who job (λ who. passed-its k x is who)
      (λ not-own. subst (HasPassed t job (suc k)) (sym (stands-beside t job c k x is not-own))
      (passes-beside t story k job x is (one-at k) (one-at (suc k)) (forward-at forward k x is) (standing t job c k) before)))

  pub keeps : KeepsPromise t job c
  keeps = record {
    as_alone = λ k x is who. (own-its k x is who).as_alone;
    acts = acts t job c own-its;
    says = λ forward a gave.
        let x = gave.last.step in
        let before = low gave.k x gave.last.at gave.last.own in
        says-its gave.k x gave.last.at gave.last.own (λ both. passed-at (forward both) gave.k before) (tried-at gave.k before) a
        gave.answer;
    one_path = one-at;
    whole = λ k u bytes e its there. absurd (delivers-none c errand u bytes its);
    never_gone = λ apart spare gave. gone-its gave.k gave.last.step gave.last.at gave.last.own gave.answer;
    lawful = λ k x b is who not broken. lawful-its k x is who (λ alone. reads-at alone k (low k x is who)) b not broken;
  }

-- A delivery of ours keeps its promise in a story whose directories are sound, in which each message has one path at each moment, and whose
-- other steps do what is owed to it.
use Rattle.std.proofs.Common.{ℕ, suc, ◌≡◌, ◌≤◌, inl, inr, List, Some, sym, ap, subst, ◌∙◌, arith, length, take, slice_get}
use Rattle.std.proofs.lemmas.Bool.{cases_lt}
use Rattle.std.proofs.lemmas.List.{take_all}
use Rattle.std.specs.FinMap.{get}
use Rattle.md_dirs.specs.State.{IsSound}
use Rattle.md_jobs.specs.declared.answer.Answer.{Answer}
use Rattle.md_jobs.specs.declared.answer.Answer.TheVariants as answer
use Rattle.md_jobs.specs.declared.call.Call.{Call}
use Rattle.md_jobs.specs.declared.call.Call.TheVariants as call
use Rattle.md_core.specs.Accepting.{MakesMessage}
use Rattle.md_core.specs.Interleaving.{IsDelivery, IsDeliveryOf, is_success}
use Rattle.md_core.specs.Machine.{Standing, working, answered}
use Rattle.md_core.specs.Mailbox.{Entry, HasOnePath, mailbox_of}
use Rattle.md_log.specs.declared.clause.Clause.{Clause}
use Rattle.md_law.specs.Law.{Breaks}
use Rattle.md_law.specs.Law.{WrittenLate}
use Rattle.md_beside.specs.Story.{Story, Step, ours, step_at, state, state_after, box, history, standing}
use Rattle.md_beside.specs.Beside.{IsStory, IsAnswered, IsWholeOf, AreApart, Says}
use Rattle.md_beside.specs.Jobs.{AreSparing, MayBreak, KeepsPromise}
use Rattle.md_beside.proofs.Acting.{OwnStep, stands-beside, by-who, acts}
use Rattle.md_beside.proofs.DeliverySteps.{FitsDelivery, There, tells-first, there-first, there-beside, own-step, tells-next, says-here, lawful-here, there-next, not-gone, in_time-here}
use Rattle.md_beside.proofs.DeliverySays.{TellsOf, tells-beside}
use Rattle.md_beside.proofs.EachMoment.{each-moment}
use Rattle.md_beside.proofs.Histories.{next_at}
use Rattle.md_beside.proofs.Others.{IsOther}
use Rattle.md_beside.proofs.OwnCall.{within-story, its, back}
use Rattle.md_beside.proofs.StaysThere.{IsSpared}
use Rattle.md_beside.proofs.WholeBytes.{stage-whole, ended-whole}

-- its message has the bytes of its body
whole-by : (t : Story) (k job : ℕ) (c : Call) (st : Standing) → FitsDelivery t k job c st → IsDelivery c → IsWholeOf t k c
whole-by t k job (call.Deliver folder u body chunk) (working task) f delivery v bytes e its at =
    let same-name : u ≡ f.0.tmp.name = (let of_ = f.2.of in cc) in
    let same-body : body ≡ f.0.body = (let of_ = f.2.of in cc) in
    stage-whole t k f.0 e f.0.stage f.2.stage f.5 (ap (get (box t k)) (sym same-name ∙ its.0) ∙ at) ∙ sym same-body ∙ its.1
whole-by t k job (call.Deliver folder u body chunk) (answered a) f delivery v bytes e its at =
    ended-whole t k job u body e (is_success a) f (ap (get (box t k)) its.0 ∙ at) ∙ its.1
whole-by t k job other st f delivery v bytes e its at = absurd delivery

module _ (t : Story) (story : IsStory t) (i : ℕ) (c : Call) (of : slice_get t.calls i ≡ Some c) (delivery : IsDelivery c)
    (sound-at : (k : ℕ) → k ≤ length t.steps → IsSound (state t k)) (one-at : (k : ℕ) → HasOnePath (state t k))
    (fits-at : (k : ℕ) → k ≤ length t.steps → FitsDelivery t k (suc i) c (standing t (suc i) c k))
    (other-at : (k : ℕ) (x : Step) → step_at t k ≡ Some x → (x.who ≡ ours (suc i) → ⊥) → (u : List ℕ) → MakesMessage c u →
    IsOther t k x (suc i) u) where
  abbrev job : ℕ
  job = suc i

  module _ (k : ℕ) (x : Step) (is : step_at t k ≡ Some x) (who : x.who ≡ ours job) where
    sound-here : IsSound (state t k)
    sound-here = sound-at k (within-story t k x is)

    of-turn : (P : Call → Type 0) → P c → P (story.turns k job x is who).call
    of-turn = back t story i c of k x is who

    fits-here : FitsDelivery t k job (story.turns k job x is who).call (standing t job (story.turns k job x is who).call k)
    fits-here = of-turn (λ c'. FitsDelivery t k job c' (standing t job c' k)) (fits-at k (within-story t k x is))

    own-its : OwnStep t k job x c
    own-its = its t story i c of k x is who (OwnStep t k job x) (own-step t story k job x is who sound-here (one-at k) fits-here)

  -- what it says

  tells-step : (k : ℕ) (x : Step) → step_at t k ≡ Some x → TellsOf t k job (standing t job c k) →
      TellsOf t (suc k) job (standing t job c (suc k))
  tells-step k x is tells = by-who x.who job
      (λ who. its t story i c of k x is who (λ c'. TellsOf t (suc k) job (standing t job c' (suc k)))
      (tells-next t story k job x is who (sound-here k x is who) (one-at k) (fits-here k x is who)
      (of-turn k x is who (λ c'. TellsOf t k job (standing t job c' k)) tells)))
      (λ not-own. subst (TellsOf t (suc k) job) (sym (stands-beside t job c k x is not-own))
      (tells-beside t k job x is not-own (standing t job c k) tells))

  tells-at : (k : ℕ) → k ≤ length t.steps → TellsOf t k job (standing t job c k)
  tells-at = each-moment t (λ k. TellsOf t k job (standing t job c k)) (tells-first t job c) tells-step

  says-its : (k : ℕ) (x : Step) (is : step_at t k ≡ Some x) (who : x.who ≡ ours job) (a : Answer) → x.answer ≡ Some a → Says t job c a
  says-its k x is who a gave = its t story i c of k x is who (λ c'. Says t job c' a)
      (says-here t story k job x is who (sound-here k x is who) (one-at k) (fits-here k x is who)
      (of-turn k x is who (λ c'. TellsOf t k job (standing t job c' k)) (tells-at k (within-story t k x is))) a gave)

  -- its message has the bytes of its body

  whole-now : (k : ℕ) → k ≤ length t.steps → IsWholeOf t k c
  whole-now k low = whole-by t k job c (standing t job c k) (fits-at k low) delivery

  whole-at : (k : ℕ) → IsWholeOf t k c
  whole-at k = elim (cases_lt k (length t.steps)) [
    | inl within ↦ whole-now k (omega (arith, within))
    | inr past ↦
        let all : take k t.steps ≡ take (length t.steps) t.steps =
        take_all k t.steps (omega (arith, past)) ∙ sym (take_all (length t.steps) t.steps (omega arith)) in
        subst (λ (steps : List Step). (u bytes : List ℕ) (e : Entry) → IsDeliveryOf u bytes c →
        get (mailbox_of (state_after t.image steps)) u ≡ Some e → e.bytes ≡ bytes) (sym all)
        (whole-now (length t.steps) (omega arith))
  ]

  -- ---- its file is there

  module _ (apart : AreApart t 14400) where
    there-step : (k : ℕ) (x : Step) → step_at t k ≡ Some x → There t k (standing t job c k) → There t (suc k) (standing t job c (suc k))
    there-step k x is there = by-who x.who job
        (λ who. its t story i c of k x is who (λ c'. There t (suc k) (standing t job c' (suc k)))
        (there-next t story k job x is who (sound-here k x is who) (one-at k) (fits-here k x is who) (apart k x is)
        (of-turn k x is who (λ c'. There t k (standing t job c' k)) there)))
        (λ not-own. subst (There t (suc k)) (sym (stands-beside t job c k x is not-own))
        (there-beside t story k x is (sound-at k (within-story t k x is)) job c (other-at k x is not-own)
        (standing t job c k) (fits-at k (within-story t k x is)) there))

    there-at : (k : ℕ) → k ≤ length t.steps → There t k (standing t job c k)
    there-at = each-moment t (λ k. There t k (standing t job c k)) (there-first t job c) there-step

    module _ (k : ℕ) (x : Step) (is : step_at t k ≡ Some x) (who : x.who ≡ ours job) where
      there-here : There t k (standing t job (story.turns k job x is who).call k)
      there-here = of-turn k x is who (λ c'. There t k (standing t job c' k)) (there-at k (within-story t k x is))

      gone-its : IsSpared t → x.answer ≡ Some answer.TmpGone → ⊥
      gone-its = not-gone t story k job x is who (sound-here k x is who) (one-at k) (fits-here k x is who) (apart k x is) there-here

      pub in_time-its : WrittenLate (next_at t k x) → ⊥
      in_time-its = in_time-here t story k job x is who (sound-here k x is who) (one-at k) (fits-here k x is who) (apart k x is) there-here

    never-gone : IsSpared t → IsAnswered t job answer.TmpGone → ⊥
    never-gone spare gave = gone-its gave.k gave.last.step gave.last.at gave.last.own spare gave.answer

  -- what it does not break

  lawful-its : (k : ℕ) (x : Step) → step_at t k ≡ Some x → x.who ≡ ours job → (b : Clause) → (MayBreak t c b → ⊥) →
      Breaks b (history t (suc k)) → ⊥
  lawful-its k x is who b not = lawful-here t story k job x is who (sound-here k x is who) (one-at k) (fits-here k x is who)
      (λ not' late. not' (of-turn k x is who IsDelivery delivery, λ apart. in_time-its apart k x is who late)) b (of-turn k x is who (λ c'. MayBreak t c' b → ⊥) not)

  pub keeps : (AreSparing t → IsSpared t) → KeepsPromise t job c
  keeps spared = record {
    as_alone = λ k x is who. (own-its k x is who).as_alone;
    acts = acts t job c own-its;
    says = λ forward a gave. says-its gave.k gave.last.step gave.last.at gave.last.own a gave.answer;
    one_path = one-at;
    whole = whole-at;
    never_gone = λ apart spare. never-gone apart (spared spare);
    lawful = λ k x b is who not broken. lawful-its k x is who b not broken;
  }

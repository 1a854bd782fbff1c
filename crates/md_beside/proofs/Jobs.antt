-- Our jobs beside one another, and beside other programs that do what they owe: what is so at each moment, and the promise of each job.
use Rattle.std.proofs.Common.{ℕ, zero, suc, ◌≡◌, ◌≢◌, ◌<◌, ◌≤◌, ◌⊎◌, inl, inr, List, Some, refl, sym, ap, subst, ◌∙◌, arith, length, take, slice_get}
use Rattle.std.proofs.lemmas.Bool.{cases_lt}
use Rattle.md_dirs.specs.State.{IsSound}
use Rattle.md_jobs.specs.declared.call.Call.{Call}
use Rattle.md_jobs.specs.declared.call.Call.TheVariants as call
use Rattle.md_core.specs.Accepting.{MakesMessage, IsFresh}
use Rattle.md_core.specs.Interleaving.{IsDelivery}
use Rattle.md_core.specs.Mailbox.{HasOnePath}
use Rattle.md_core.proofs.Lists.Places.{get-take}
use Rattle.md_log.specs.declared.clause.Clause.TheVariants as clause
use Rattle.md_law.specs.Clauses.{MovedBack, CleanedEarly}
use Rattle.md_law.specs.Law.{UsedTwice, MadeAgain, WrittenLate}
use Rattle.md_beside.specs.Story.{Story, Step, ours, step_at, step_seen, actor_seen, state, state_after, history, standing}
use Rattle.md_beside.specs.Beside.{IsStory, IsAtWork, AreOurs, BringsAbout, IsClean}
use Rattle.md_beside.specs.Jobs.{AreLawful, AreSparing, AreTimely, AreForward, AreUsedOnce, KeepsPromise, JobsBeside}
use Rattle.md_beside.proofs.Acting.{stands-beside, by-who}
use Rattle.md_beside.proofs.CleanKeeps.{keeps as clean-promise}
use Rattle.md_beside.proofs.CleanSteps.{FitsClean, clean-first, clean-step, clean-does, keeps-here as clean-keeps, in_time-here as clean-in_time}
use Rattle.md_beside.proofs.DeliveryKeeps.{in_time-its as delivery-in_time, keeps as delivery-promise}
use Rattle.md_beside.proofs.DeliverySteps.{FitsDelivery, delivery-first, delivery-beside, delivery-next, delivery-does, keeps-here as delivery-keeps}
use Rattle.md_beside.proofs.EachMoment.{each-moment, by-taker}
use Rattle.md_beside.proofs.ErrandKeeps.{keeps as errand-promise}
use Rattle.md_beside.proofs.ErrandSteps.{IsErrand, FitsErrand, fits-first, fits-step, step-does, keeps-here as errand-keeps, in_time-here as errand-in_time}
use Rattle.md_beside.proofs.Histories.{next_at, history-next}
use Rattle.md_beside.proofs.KeepsPaths.{KeepsPaths}
use Rattle.md_beside.proofs.OneFile.{IsOneFile, one-first, one-next}
use Rattle.md_beside.proofs.OnePath.{one_path-stays, one-always}
use Rattle.md_beside.proofs.Others.{IsOther, program-owes, brings-none, by-program}
use Rattle.md_beside.proofs.OwnCall.{within-story, its, back}
use Rattle.md_beside.proofs.Rearranges.{MayByPaths}
use Rattle.md_beside.proofs.StaysBeside.{sound-stays}
use Rattle.md_beside.proofs.StaysThere.{IsSpared}

-- each call is of one kind
kind-of : (c : Call) → IsDelivery c ⊎ (IsErrand c ⊎ IsClean c)
kind-of (call.Deliver folder u body chunk) = inl tt
kind-of (call.Clean folder) = inr (inr tt)
kind-of other = inr (inl tt)

no-clean : (c : Call) → (IsDelivery c ⊎ IsErrand c) → IsClean c → ⊥
no-clean (call.Clean folder) other clean = elim other [ inl delivery ↦ delivery | inr errand ↦ errand ]
no-clean c other clean = clean

module _ (t : Story) (story : IsStory t) (names : AreOurs t) (lawful : AreLawful t) where
  -- ---- two calls make two names

  unmade : (i j : ℕ) (c c' : Call) (u : List ℕ) → slice_get t.calls i ≡ Some c → slice_get t.calls j ≡ Some c' → i < j →
      MakesMessage c u → MakesMessage c' u → ⊥
  unmade i j c c' u of of' low makes makes' = by c' of' makes'
    where
      earlier : (v : List ℕ) → IsFresh t.image (take j t.calls) v → v ≡ u → ⊥
      earlier v fresh same = fresh.unmade i c (get-take j t.calls i low ∙ of) (subst (MakesMessage c) (sym same) makes)

      by : (c' : Call) → slice_get t.calls j ≡ Some c' → MakesMessage c' u → ⊥
      by (call.Deliver folder v body chunk) of' same = earlier v (story.accepted j (call.Deliver folder v body chunk) of').2 same
      by (call.Copy folder v to fresh tries) of' same = earlier fresh (story.accepted j (call.Copy folder v to fresh tries) of').1 same
      by other of' same = same

  two-names : (i j : ℕ) (c c' : Call) (u : List ℕ) → slice_get t.calls i ≡ Some c → slice_get t.calls j ≡ Some c' → i ≢ j →
      MakesMessage c u → MakesMessage c' u → ⊥
  two-names i j c c' u of of' differ makes makes' = elim (cases_lt i j) [
    | inl low ↦ unmade i j c c' u of of' low makes makes'
    | inr high ↦ elim (cases_lt j i) [
      | inl low ↦ unmade j i c' c u of' of low makes' makes
      | inr same ↦ differ (omega (arith, high, same))
    ]
  ]

  -- ---- what is so at each moment

  record Holds (k : ℕ) : Type 0 where
    sound : IsSound (state t k)
    one : HasOnePath (state t k)
    deliveries : (i : ℕ) (c : Call) → slice_get t.calls i ≡ Some c → IsAtWork t (suc i) → IsDelivery c
        → FitsDelivery t k (suc i) c (standing t (suc i) c k)
    errands : (i : ℕ) (c : Call) → slice_get t.calls i ≡ Some c → IsAtWork t (suc i) → IsErrand c
        → FitsErrand t k c (standing t (suc i) c k)
    cleans : (i : ℕ) (c : Call) → slice_get t.calls i ≡ Some c → IsClean c → FitsClean t k c (standing t (suc i) c k)
    files : AreUsedOnce t → IsOneFile (history t k)

  start : Holds zero
  unfolding state_after
  start = record {
    sound = story.sound;
    one = story.one_path;
    deliveries = λ i c of works delivery. delivery-first t story i c of delivery;
    errands = λ i c of works errand. fits-first t story i c of errand;
    cleans = λ i c of clean. clean-first t story i c of clean;
    files = λ ones. one-first t story;
  }

  module _ (k : ℕ) (x : Step) (is : step_at t k ≡ Some x) (h : Holds k) where
    -- ---- a step of one of our jobs

    module _ (i : ℕ) (who : x.who ≡ ours (suc i)) where
      abbrev call-of : Call
      call-of = (story.turns k (suc i) x is who).call

      of-call : slice_get t.calls i ≡ Some call-of
      of-call = (story.turns k (suc i) x is who).of

      works-now : IsAtWork t (suc i)
      works-now = (k, record { step = x; at = is; own = who })

      own-keeps : KeepsPaths t k x (MakesMessage call-of) (MayByPaths t call-of)
      own-keeps = elim (kind-of call-of) [
        | inl delivery ↦
            delivery-keeps t story k (suc i) x is who h.sound h.one (h.deliveries i call-of of-call works-now delivery)
        | inr (inl errand) ↦
            errand-keeps t story k (suc i) x is who h.sound h.one (h.errands i call-of of-call works-now errand) h.files
        | inr (inr clean) ↦ clean-keeps t story k (suc i) x is who h.sound h.one (h.cleans i call-of of-call clean) h.files
      ]

      own-one : HasOnePath (state t (suc k))
      own-one = elim (kind-of call-of) [
        | inl delivery ↦
            (delivery-does t story k (suc i) x is who h.sound h.one (h.deliveries i call-of of-call works-now delivery)).one_path
        | inr (inl errand) ↦ (step-does t story k (suc i) x is who h.sound h.one (h.errands i call-of of-call works-now errand)).one_path
        | inr (inr clean) ↦ (clean-does t story k (suc i) x is who h.sound h.one (h.cleans i call-of of-call clean)).one_path
      ]

      -- it brings no name about that another call makes
      own-brings : (j : ℕ) (c : Call) (v : List ℕ) → slice_get t.calls j ≡ Some c → i ≢ j → MakesMessage c v → BringsAbout t k v → ⊥
      own-brings j c v of differ makes = own-keeps.brings v (λ makes'. two-names i j call-of c v of-call of differ makes' makes)

      -- another delivery takes it as a step of another
      for-others : (j : ℕ) (c : Call) (v : List ℕ) → slice_get t.calls j ≡ Some c → i ≢ j → MakesMessage c v → IsOther t k x (suc j) v
      for-others j c v of differ makes = record {
        actor = t.actor (suc i);
        by = (step_seen t.actor (state t k) x, refl, ap (actor_seen t.actor) who);
        differs = λ one. let both : suc i ≡ suc j = story.apart (suc i) (suc j) one in differ (omega (arith, both));
        owes = record { unmixed = own-keeps.unmixed; unnamed = own-keeps.unnamed };
        brings = own-brings j c v of differ makes;
      }

    -- ---- a step of another, as a job takes it

    module _ (i : ℕ) (c : Call) (of : slice_get t.calls i ≡ Some c) (works : IsAtWork t (suc i)) (not-own : x.who ≡ ours (suc i) → ⊥)
        (u : List ℕ) (makes : MakesMessage c u) where
      other-job : (j : ℕ) → x.who ≡ ours (suc j) → j ≢ i
      other-job j who same = not-own (who ∙ ap (λ (n : ℕ). ours (suc n)) same)

      brings-beside : BringsAbout t k u → ⊥
      brings-beside = by-taker t story k x is (λ j who. own-brings j who i c u of (other-job j who) makes)
          (λ actor who. brings-none t story lawful names k x actor is who (suc i) c u of works makes)

      other-beside : IsDelivery c → IsOther t k x (suc i) u
      other-beside delivery = by-taker t story k x is (λ j who. for-others j who i c u of (other-job j who) makes)
          (λ actor who. by-program t story lawful names k x actor is who (suc i) c u of works makes delivery)

    -- ---- any step

    delivery-step : (i : ℕ) (c : Call) → slice_get t.calls i ≡ Some c → IsAtWork t (suc i) → IsDelivery c →
        FitsDelivery t (suc k) (suc i) c (standing t (suc i) c (suc k))
    delivery-step i c of works delivery = by-who x.who (suc i) own
        (λ not-own. subst (FitsDelivery t (suc k) (suc i) c) (sym (stands-beside t (suc i) c k x is not-own))
        (delivery-beside t story k x is h.sound (suc i) c (λ u makes. other-beside i c of works not-own u makes delivery)
        (standing t (suc i) c k) (h.deliveries i c of works delivery)))
      where
        own : x.who ≡ ours (suc i) → FitsDelivery t (suc k) (suc i) c (standing t (suc i) c (suc k))
        own who = its t story i c of k x is who (λ c'. FitsDelivery t (suc k) (suc i) c' (standing t (suc i) c' (suc k)))
            (delivery-next t story k (suc i) x is who h.sound h.one (h.deliveries i (call-of i who) (of-call i who) works
            (back t story i c of k x is who IsDelivery delivery)))

    one-after : HasOnePath (state t (suc k))
    one-after = by-taker t story k x is own-one
        (λ actor who. let owes = program-owes t story lawful names k x actor is who in
        one_path-stays t story k x is owes.one_name owes.one_folder h.one)

    once : AreUsedOnce t → UsedTwice (next_at t k x) → ⊥
    once ones = by-taker t story k x is (λ i who. (own-keeps i who).one_file)
        (λ actor who used. ones k x actor is who (subst UsedTwice (sym (history-next t k x is)) used))

    next : Holds (suc k)
    next = record {
      sound = sound-stays t story k x is h.sound;
      one = one-after;
      deliveries = delivery-step;
      errands = λ i c of works errand. fits-step t story k x is h.sound h.one i c of (brings-beside i c of works)
          (h.errands i c of works errand);
      cleans = λ i c of clean. clean-step t story k x is h.sound h.one i c of (h.cleans i c of clean);
      files = λ ones. one-next t story k x is one-after (once ones) (h.files ones);
    }

  holds-at : (k : ℕ) → k ≤ length t.steps → Holds k
  holds-at = each-moment t Holds start next

  holds-before : (k : ℕ) (x : Step) → step_at t k ≡ Some x → Holds k
  holds-before k x is = holds-at k (within-story t k x is)

  -- each message has one path, whoever took the steps
  one_path-at : (k : ℕ) → HasOnePath (state t k)
  one_path-at = one-always t (λ k low. (holds-at k low).one)

  -- no message of cur comes back to new, if the others bring none
  forward-at : AreForward t → (k : ℕ) (x : Step) → step_at t k ≡ Some x → MovedBack (next_at t k x) → ⊥
  forward-at forward k x is = by-taker t story k x is
      (λ i who. (own-keeps k x is (holds-before k x is) i who).not_back)
      (λ actor who back. forward k x actor is who (subst MovedBack (sym (history-next t k x is)) back))

  -- no name of tmp is made again, if the others make none
  unmade-at : AreTimely t → (k : ℕ) (x : Step) → step_at t k ≡ Some x → MadeAgain (next_at t k x) → ⊥
  unmade-at timely k x is = by-taker t story k x is
      (λ i who. (own-keeps k x is (holds-before k x is) i who).unmade)
      (λ actor who again. timely.unmade k x actor is who (subst MadeAgain (sym (history-next t k x is)) again))

  -- ---- each job

  others-at : (i : ℕ) (c : Call) → slice_get t.calls i ≡ Some c → IsAtWork t (suc i) → IsDelivery c → (k : ℕ) (x : Step) →
      step_at t k ≡ Some x → (x.who ≡ ours (suc i) → ⊥) → (u : List ℕ) → MakesMessage c u → IsOther t k x (suc i) u
  others-at i c of works delivery k x is not-own u makes =
      other-beside k x is (holds-before k x is) i c of works not-own u makes delivery

  -- no old file is written to, if the others write to none and no clock is far from that of the directories
  in_time-at : AreTimely t → (k : ℕ) (x : Step) → step_at t k ≡ Some x → WrittenLate (next_at t k x) → ⊥
  in_time-at timely k x is = by-taker t story k x is own
      (λ actor who late. timely.in_time k x actor is who (subst WrittenLate (sym (history-next t k x is)) late))
    where
      h : Holds k
      h = holds-before k x is

      own : (i : ℕ) → x.who ≡ ours (suc i) → WrittenLate (next_at t k x) → ⊥
      own i who late = let c = call-of k x is h i who in
          let of = of-call k x is h i who in
          let works = works-now k x is h i who in
          elim (kind-of c) [
            | inl delivery ↦ delivery-in_time t story i c of delivery (λ k low. (holds-at k low).sound) one_path-at
                (λ k low. (holds-at k low).deliveries i c of works delivery) (others-at i c of works delivery) timely.clocks.near k x is
                who late
            | inr (inl errand) ↦ errand-in_time t story k (suc i) x is who h.sound h.one (h.errands i c of works errand) late
            | inr (inr clean) ↦ clean-in_time t story k (suc i) x is who h.sound h.one (h.cleans i c of clean) late
          ]

  keeps-clean : (i : ℕ) (c : Call) → slice_get t.calls i ≡ Some c → IsClean c → KeepsPromise t (suc i) c
  keeps-clean i c of clean = clean-promise t story i c of clean (λ k low. (holds-at k low).sound) one_path-at
      (λ k low. (holds-at k low).cleans i c of clean) (λ k low. (holds-at k low).files) unmade-at in_time-at

  -- no young file of tmp is taken away, if the others take none, and our cleans none where they have no time
  spares-at : AreSparing t → IsSpared t
  spares-at spare k x is = by-taker t story k x is own
      (λ actor who early. spare.others k x actor is who (subst CleanedEarly (sym (history-next t k x is)) early))
    where
      h : Holds k
      h = holds-before k x is

      clean-spares : (i : ℕ) → x.who ≡ ours (suc i) → (c : Call) → slice_get t.calls i ≡ Some c → IsClean c →
          CleanedEarly (history t (suc k)) → ⊥
      clean-spares i who (call.Clean folder) of clean early = spare.cleans
          (λ timely. (keeps-clean i (call.Clean folder) of clean).lawful k x clause.CleanedEarly is who (λ may. may.1 timely) early)
          k (suc i) folder x is who of early
      clean-spares i who other of clean early = clean

      own : (i : ℕ) → x.who ≡ ours (suc i) → CleanedEarly (next_at t k x) → ⊥
      own i who early = let c = call-of k x is h i who in
          elim (kind-of c) [
            | inl delivery ↦ (own-keeps k x is h i who).not_early (no-clean c (inl delivery)) early
            | inr (inl errand) ↦ (own-keeps k x is h i who).not_early (no-clean c (inr errand)) early
            | inr (inr clean) ↦ clean-spares i who c (of-call k x is h i who) clean
                (subst CleanedEarly (sym (history-next t k x is)) early)
          ]

  keeps-job : (i : ℕ) (c : Call) → slice_get t.calls i ≡ Some c → IsAtWork t (suc i) → KeepsPromise t (suc i) c
  keeps-job i c of works = elim (kind-of c) [
    | inl delivery ↦ delivery-promise t story i c of delivery (λ k low. (holds-at k low).sound) one_path-at
        (λ k low. (holds-at k low).deliveries i c of works delivery) (others-at i c of works delivery) spares-at
    | inr (inl errand) ↦ errand-promise t story i c of errand (λ k low. (holds-at k low).sound) one_path-at
        (λ k low. (holds-at k low).errands i c of works errand) (λ k low. (holds-at k low).files) forward-at
    | inr (inr clean) ↦ keeps-clean i c of clean
  ]

-- the law
pub keep-promises : JobsBeside
keep-promises t story names lawful zero c of works = cc
keep-promises t story names lawful (suc i) c of works = keeps-job t story names lawful i c of works

-- A call whose job alone took steps answers, and leaves the mailbox, as it does alone.
use Rattle.std.proofs.Common.{ℕ, zero, suc, ◌≡◌, ◌≢◌, ◌<◌, ◌≤◌, ◌+◌, ◌-◌, ◌++◌, List, [], ◌∷◌, Option, Some, None, true, false, refl, sym, ap, subst, ◌∙◌, inl, inr, length, take, slice_get, is_some, unwrap_or, max, arith, length-append}
use Rattle.std.specs.Prelude.{count_by}
use Rattle.std.proofs.lemmas.Bool.{cases_lt}
use Rattle.std.proofs.lemmas.List.{take_all, drop_all, append-nil}
use Rattle.std.proofs.lemmas.List.Elements.{filter_map-append}
use Rattle.std.proofs.lemmas.Option.{slice_get_within}
use Rattle.md_core.proofs.Values.{Path, Call, Effect, Event, Answer, IsAccepted, alone, is_touch, IsOfSpan, IsTouched, IsLost, IsOutOfTime, IsTimedOut, IsTmpGone, Says, Mailbox, mailbox_of, Occurrence, job_at, answered, Run, machine_at, dirs_of, and_call, IsRun, Succeeds, Trace, Step, IsStepOf, IsAnswered, call_at, step_at, state_after, state, box, effects, trace_of, clock_before, is_success, Acts, TakesEffect, filter_map, cons_option, submit_refusal, next_job, StepsAlone, HasAnswer, AnswersAlone, AnswersAsAlone}
use Rattle.md_jobs.specs.declared.answer.Answer.TheVariants as answer
use Rattle.md_jobs.specs.declared.call.Call.TheVariants as call
use Rattle.md_core.proofs.Lists.Places.{at_place, at_joint, get-pushed, take-one_more}
use Rattle.md_core.proofs.Runs.Events.{goes_on-exact, job_at-within}
use Rattle.md_core.proofs.Runs.ByEvent.{length-jobs}
use Rattle.md_core.proofs.Runs.Extended.{is_run-and_call}
use Rattle.md_core.proofs.Traces.Same.{many-steps}
use Rattle.md_core.proofs.Traces.Clock.{clock-then, event-of}
use Rattle.md_core.proofs.Traces.Stands.{answered-at}
use Rattle.md_core.proofs.Traces.Shown.{shown}
use Rattle.md_core.proofs.Traces.Kept.{steps-keep, call-keeps}
use Rattle.md_core.proofs.Traces.Plain.{is-trace}
use Rattle.md_core.proofs.Traces.Headline.{acts as acts_of, quiet, theorem}
use Rattle.md_core.proofs.Answers.AllSay.{says}
use Rattle.md_core.proofs.Machines.Errand.Table.Calls.{sought, tries_in}
use Rattle.md_core.proofs.Machines.Errand.Table.Checks.{tried}
use Rattle.md_core.proofs.Machines.Errand.Table.Alone.{alone-refused}

module _ (r r' : Run) (run : IsRun r) (asked : Call) (accepted : submit_refusal r asked ≡ None) (now : ℕ) (own : Option ℕ)
    (g : StepsAlone asked now own r r') (run' : IsRun r') where
  abbrev job : ℕ
  job = next_job r

  abbrev start : ℕ
  start = length r.events

  abbrev t : Trace
  t = trace_of r'

  run0 : IsRun (and_call r asked)
  run0 = is_run-and_call r asked run accepted

  call-of : call_at t.calls job ≡ Some asked
  call-of =
      let e : length r.calls + 1 ≡ suc (length r.calls) = omega arith in
      ap (λ (x : Run). call_at x.calls job) g.goes
      ∙ ap (call_at (r.calls ++ asked ∷ [])) e
      ∙ get-pushed r.calls asked

  events-are : r'.events ≡ r.events ++ g.events
  events-are = ap (λ (x : Run). x.events) g.goes

  many : length r'.events ≡ start + length g.events
  many = ap length events-are ∙ length-append r.events g.events

  -- the directories at the submit and at the end
  begins : state t start ≡ dirs_of r
  begins =
      let within : start ≤ start = omega arith in
      ap (λ (x : Run). state (trace_of x) start) g.goes
      ∙ steps-keep (and_call r asked) run0 g.events start within
      ∙ call-keeps r run asked run0 start within
      ∙ (shown r run).dirs

  ends : state t (start + length g.events) ≡ dirs_of r'
  ends = ap (state t) (sym many) ∙ (shown r' run').dirs

  -- the steps since the submit are of the job, and those before are not
  mine : (k : ℕ) (x : Step) → step_at t k ≡ Some x → start ≤ k → x.job ≡ job
  mine k x at since =
      let h = event-of r' run' k x at in
      h.2.job ∙ at_joint r.events g.events k h.0 (ap (λ (es : List Occurrence). slice_get es k) (sym events-are) ∙ h.1)
      (λ early. absurd (let n = slice_get_within r.events k h.0 early in omega (arith, n, since)))
      (λ j _ late. ap (λ e. e.job) (g.each j h.0 late))

  before : (k : ℕ) (x : Step) → step_at t k ≡ Some x → k < start → x.job ≢ job
  before k x at early is =
      let h = event-of r' run' k x at in
      at_joint r.events g.events k h.0 (ap (λ (es : List Occurrence). slice_get es k) (sym events-are) ∙ h.1)
      (λ there.
      let goes = (goes_on-exact (job_at (machine_at r k).jobs h.0.event.job)).0 (run.taken k h.0 there) in
      let within = (job_at-within (machine_at r k).jobs h.0.event.job _ goes.1).1 in
      let as_many = length-jobs r run k in
      let same : h.0.event.job ≡ job = sym h.2.job ∙ is in
      omega (arith, within, as_many, same))
      (λ j e _. omega (arith, e, early))

  since-of : (k : ℕ) → IsStepOf t job k → start ≤ k
  since-of k x = elim (cases_lt k start) [
    | inl early ↦ absurd (before k x.step x.at early x.own)
    | inr late ↦ late
  ]

  -- what only effects change stays over steps that are none
  stays : {X : Type 0} (f : ℕ → X) → ((k : ℕ) → ((x : Step) → step_at t k ≡ Some x → x.effect ≡ None) → f (k + 1) ≡ f k) → (i d : ℕ) →
      ((k : ℕ) (x : Step) → i ≤ k → k < i + d → step_at t k ≡ Some x → x.effect ≡ None) → f (i + d) ≡ f i
  stays f next i zero none = let e : i + 0 ≡ i = omega arith in ap f e
  stays f next i (suc d) none =
      let e : i + suc d ≡ (i + d) + 1 = omega arith in
      ap f e ∙ next (i + d) (λ x at. none (i + d) x (omega arith) (omega arith) at)
      ∙ stays f next i d (λ k x from to at. none k x from (omega (arith, to)) at)

  -- past the end nothing changes, and before it nothing but effects
  box-next : (k : ℕ) → ((x : Step) → step_at t k ≡ Some x → x.effect ≡ None) → box t (k + 1) ≡ box t k
  box-next k none = at_place t.steps k
      (λ x at. quiet r' run' k x at (none x at))
      (λ past. ap (λ (xs : List Step). mailbox_of (state_after t.image xs))
      (take_all (k + 1) t.steps (omega (arith, past)) ∙ sym (take_all k t.steps past)))

  box-stays : (i d : ℕ) → ((k : ℕ) (x : Step) → i ≤ k → k < i + d → step_at t k ≡ Some x → x.effect ≡ None) → box t (i + d) ≡ box t i
  box-stays = stays (box t) box-next

  effects-next : (k : ℕ) → ((x : Step) → step_at t k ≡ Some x → x.effect ≡ None) → effects t (k + 1) ≡ effects t k
  effects-next k none = at_place t.steps k
      (λ x at.
      let last : filter_map (λ (y : Step). y.effect) (x ∷ []) ≡ [] = ap (λ (o : Option Effect). cons_option o []) (none x at) in
      ap (filter_map (λ (y : Step). y.effect)) (take-one_more t.steps k x at)
      ∙ filter_map-append (λ (y : Step). y.effect) (take k t.steps) (x ∷ [])
      ∙ ap (λ es. effects t k ++ es) last
      ∙ append-nil (effects t k))
      (λ past. ap (filter_map (λ (y : Step). y.effect)) (take_all (k + 1) t.steps (omega (arith, past)) ∙ sym (take_all k t.steps past)))

  -- its event is that of the call, and so is its moment by the clock of the host
  event-at : (k : ℕ) (e : Occurrence) → slice_get r'.events k ≡ Some e → start ≤ k → e.event ≡ record { job = job; now = now; own = own }
  event-at k e at since = at_joint r.events g.events k e (ap (λ (es : List Occurrence). slice_get es k) (sym events-are) ∙ at)
      (λ early. absurd (let n = slice_get_within r.events k e early in omega (arith, n, since)))
      (λ j _ late. g.each j e late)

  abbrev clock : ℕ → ℕ
  clock k = max (clock_before r' k) now

  clock-next : (k : ℕ) → start ≤ k → k < length r'.events → clock (k + 1) ≡ clock k
  clock-next k since within = at_place t.steps k
      (λ x at.
      let h = event-of r' run' k x at in
      let its : h.0.event.now ≡ now = ap (λ (e : Event). e.now) (event-at k h.0 h.1 since) in
      let this = h.2.clock in
      let next = clock-then r' run' k x at in
      omega (arith, its, this, next))
      (λ past. absurd (let many = many-steps r' run' in omega (arith, many, within, past)))

  clock-same : (k d : ℕ) → start ≤ k → k + d ≤ length r'.events → clock (k + d) ≡ clock k
  clock-same k zero since within = let e : k + 0 ≡ k = omega arith in ap clock e
  clock-same k (suc d) since within =
      let e : k + suc d ≡ (k + d) + 1 = omega arith in
      ap clock e ∙ clock-next (k + d) (omega (arith, since)) (omega (arith, within)) ∙ clock-same k d since (omega (arith, within))

  own-at : (k : ℕ) (x : Step) → step_at t k ≡ Some x → start ≤ k → x.at.own ≡ unwrap_or own (clock k)
  own-at k x at since =
      let h = event-of r' run' k x at in
      let e = event-at k h.0 h.1 since in
      h.2.own ∙ ap (unwrap_or h.0.event.own) h.2.clock ∙ (λ i. unwrap_or (e i).own (max (clock_before r' k) (e i).now))

  -- no time passes between its steps
  in-time : (p : Path) → IsOutOfTime t job p → ⊥
  in-time p o =
      let i = o.first.k in
      let k = o.end.k in
      let first = o.first.begun in
      let last = o.end.last in
      let since = since-of i first in
      let after : i ≤ k = o.first.first k last in
      let n = slice_get_within t.steps k last.step last.at in
      let m = many-steps r' run' in
      let within : k < length r'.events = omega (arith, n, m) in
      let e : k ≡ i + (k - i) = omega (arith, after) in
      let same : last.step.at.own ≡ first.step.at.own =
      own-at k last.step last.at (omega (arith, since, after))
      ∙ ap (unwrap_or own) (ap clock e ∙ clock-same i (k - i) since (omega (arith, within, after)))
      ∙ sym (own-at i first.step first.at since) in
      let late = o.seconds in
      omega (arith, same, late)

  never-timed-out : (c : Call) → IsTimedOut t job c → ⊥
  never-timed-out (call.Deliver folder u body chunk) h = in-time _ h
  never-timed-out c h = h

  -- no clean stepped
  never-gone : (c : Call) → asked ≡ c → IsTmpGone t job c → ⊥
  never-gone (call.Deliver folder u body chunk) is h =
      let since = since-of h.before.from h.before.begun in
      let after = h.before.after in
      let own = mine h.k h.cleaned.step h.cleaned.at (omega (arith, since, after)) in
      let clean : Some asked ≡ Some (call.Clean h.cleaned.folder) = sym call-of ∙ ap (call_at t.calls) (sym own) ∙ h.cleaned.by in
      let both : Some (call.Deliver folder u body chunk) ≡ Some (call.Clean h.cleaned.folder) = ap Some (sym is) ∙ clean in
      cc
  never-gone c is h = h

  accepted-call : IsAccepted t.image (take (length r.calls) t.calls) asked
  accepted-call = (is-trace r' run').accepted (length r.calls) asked
      (ap (λ (x : Run). slice_get x.calls (length r.calls)) g.goes ∙ get-pushed r.calls asked)

  opening : box t start ≡ mailbox_of (dirs_of r)
  opening = ap mailbox_of begins

  ending : box t (start + length g.events) ≡ mailbox_of (dirs_of r')
  ending = ap mailbox_of ends

  module _ (a : Answer) (has : HasAnswer r' job a) where
    answers : IsAnswered t job a
    answers = (shown r' run').answer job a has

    said : Says t job asked a
    said = says r' run' job asked a call-of answers

    acts : Acts t job asked a
    acts = acts_of r' run' job asked a call-of answers

    -- no step of the job is an effect where its answer is no success
    module _ (failure : is_success a ≡ false) where
      none-since : (k : ℕ) (x : Step) → start ≤ k → step_at t k ≡ Some x → x.effect ≡ None
      none-since k x from at = acts.undone failure k (record { step = x; at = at; own = mine k x at from })

      box-since : (k : ℕ) → start ≤ k → box t k ≡ mailbox_of (dirs_of r)
      box-since k since =
          let e : k ≡ start + (k - start) = omega (arith, since) in
          ap (box t) e ∙ box-stays start (k - start) (λ i x from _ at. none-since i x from at) ∙ opening

      effects-since : (k : ℕ) → start ≤ k → effects t k ≡ effects t start
      effects-since k since =
          let e : k ≡ start + (k - start) = omega (arith, since) in
          ap (effects t) e ∙ stays (effects t) effects-next start (k - start) (λ i x from _ at. none-since i x from at)

      undone : mailbox_of (dirs_of r') ≡ mailbox_of (dirs_of r)
      undone = sym ending ∙ box-since (start + length g.events) (omega arith)

      -- it is answered as it is alone
      refused : IsOfSpan t job asked a → alone asked (mailbox_of (dirs_of r)) ≡ record { answer = a; after = mailbox_of (dirs_of r') }
      refused s =
          let begun = since-of s.in_span.from s.in_span.begun in
          let after = s.in_span.after in
          let from : start ≤ s.k = omega (arith, begun, after) in
          let its : (alone asked (mailbox_of (dirs_of r))).answer ≡ a =
          ap (λ (m : Mailbox). (alone asked m).answer) (sym (box-since s.k from)) ∙ s.is in
          let left : (alone asked (mailbox_of (dirs_of r))).after ≡ mailbox_of (dirs_of r') =
          alone-refused asked (mailbox_of (dirs_of r)) (ap is_success its ∙ failure) ∙ sym undone in
          λ i. record { answer = its i; after = left i }

      -- no other job touched its message
      untouched : (u : List ℕ) (times : ℕ) → 0 < times → IsTouched t job u times → ⊥
      untouched u times some h =
          let from = since-of h.from h.begun in
          let to = since-of h.to h.goes_on in
          let same : effects t (h.to + 1) ≡ effects t h.from = effects-since (h.to + 1) (omega (arith, to)) ∙ sym (effects-since h.from from) in
          let as_many : length (effects t (h.to + 1)) ≡ length (effects t h.from) = ap length same in
          let none = drop_all (length (effects t h.from)) (effects t (h.to + 1)) (omega (arith, as_many)) in
          let few : times ≤ 0 = subst (λ (es : List Effect). times ≤ count_by (is_touch job u) es) none h.touched in
          omega (arith, some, few)

      never-lost : (c : Call) → IsAccepted t.image (take (length r.calls) t.calls) c → IsLost t job c → ⊥
      never-lost (call.Deliver folder u body chunk) accepts lost = lost
      never-lost (call.Clean folder) accepts lost = lost
      never-lost c accepts lost = untouched (sought c) (tries_in c) (tried t.image (take (length r.calls) t.calls) c accepts) lost

    module _ (success : is_success a ≡ true) where
      taken : TakesEffect t job asked a
      taken = acts.done success

      since : start ≤ taken.k
      since = since-of taken.k taken.effect.own

      within : taken.k < start + length g.events
      within =
          let n = slice_get_within t.steps taken.k taken.effect.own.step taken.effect.own.at in
          let m = many-steps r' run' in
          let all = many in
          omega (arith, n, m, all)

      -- all other steps of the job are no effect
      no-other : (k : ℕ) (x : Step) → start ≤ k → k ≢ taken.k → step_at t k ≡ Some x → x.effect ≡ None
      no-other k x from differ at = by x.effect refl
        where
          by : (o : Option Effect) → x.effect ≡ o → o ≡ None
          by None is = refl
          by (Some e) is = absurd (differ (taken.only k (record { step = x; at = at; own = mine k x at from }) (ap is_some is)))

      to-effect : box t taken.k ≡ box t start
      to-effect =
          let e : taken.k ≡ start + (taken.k - start) = (let h = since in omega (arith, h)) in
          ap (box t) e ∙ box-stays start (taken.k - start)
          (λ k x from to at. no-other k x from (λ same. let h = since in omega (arith, same, to, h)) at)

      from-effect : box t (start + length g.events) ≡ box t (taken.k + 1)
      from-effect =
          let rest = (start + length g.events) - (taken.k + 1) in
          let e : start + length g.events ≡ (taken.k + 1) + rest = (let h = within in omega (arith, h)) in
          ap (box t) e ∙ box-stays (taken.k + 1) rest
          (λ k x from to at. no-other k x (let h = since in omega (arith, from, h)) (λ same. omega (arith, same, from)) at)

      done : alone asked (mailbox_of (dirs_of r)) ≡ record { answer = a; after = mailbox_of (dirs_of r') }
      done =
          ap (alone asked) (sym (to-effect ∙ opening))
          ∙ taken.effect.as_alone
          ∙ (λ i. record { answer = a; after = (sym from-effect ∙ ending) i })

    pub answers-alone : AnswersAlone asked (mailbox_of (dirs_of r)) (mailbox_of (dirs_of r')) a
    answers-alone = record { done = done; undone = undone }

    pub succeeds : Succeeds r' job (Some a)
    succeeds = λ success. ((theorem r' run').jobs job asked (answered a) call-of (answered-at r' run' job a answers)).success a refl success

  -- all answers
  pub as-alone : (a : Answer) → HasAnswer r' job a → AnswersAsAlone asked (mailbox_of (dirs_of r)) (mailbox_of (dirs_of r')) a
  as-alone (answer.Cleaned n) has = undone (answer.Cleaned n) has refl
  as-alone answer.NotThere has = refused answer.NotThere has refl (said answer.NotThere has)
  as-alone answer.NotTrashed has = refused answer.NotTrashed has refl (said answer.NotTrashed has)
  as-alone answer.OtherInfo has = refused answer.OtherInfo has refl (said answer.OtherInfo has)
  as-alone answer.Lost has = absurd (never-lost answer.Lost has refl asked accepted-call (said answer.Lost has))
  as-alone answer.TimedOut has = absurd (never-timed-out asked (said answer.TimedOut has))
  as-alone answer.TmpGone has = absurd (never-gone asked refl (said answer.TmpGone has))
  as-alone answer.NameTaken has = absurd (said answer.NameTaken has)
  as-alone answer.Fault has = undone answer.Fault has refl
  as-alone a has = done a has refl

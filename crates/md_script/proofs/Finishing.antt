-- Steps of one job until it is answered.
use Rattle.std.proofs.Common.{ℕ, zero, suc, ◌≡◌, ◌<◌, ◌≤◌, ◌++◌, List, [], inl, inr, Option, Some, None, true, false, is_some, Result, Ok, Err, refl, sym, ap, subst, ◌∙◌, length, arith, append_assoc, append-nil}
use Rattle.std.proofs.lemmas.Option.{slice_get_cases}
use Rattle.md_jobs.specs.declared.error.CoreError.{CoreError}
use Rattle.md_jobs.specs.declared.error.CoreError.TheVariants.{Answered}
use Rattle.md_jobs.specs.declared.answer.Answer.{Answer}
use Rattle.md_jobs.specs.declared.step.Event.{Event}
use Rattle.md_core.specs.Machine.{Occurrence, Standing, working, answered, job_at}
use Rattle.md_core.specs.Laws.{HasJob}
use Rattle.md_core.specs.Stepping.{IsRun}
use Rattle.md_core.proofs.Machines.EachTurn.{each-turn}
use Rattle.md_core.proofs.Runs.Extended.{is_run-and_event}
use Rattle.md_core.proofs.Theorem.Bounds.{steps_left-less}
use Rattle.md_core.specs.Runs.{Run, jobs_of, and_event, answer_of, step_refusal, steps_left}
use Rattle.md_script.specs.declared.error.PlayKind.{PlayKind}
use Rattle.md_script.specs.Step.{Steps}
use Rattle.md_script.specs.Sessions.{step_in, finish_in, steps_of, with_text, without_fault, step_text, event_refusal}
use Rattle.md_script.proofs.Acts.{is_done, was_done, refused_too}

abbrev job_in : Run → ℕ → Option Standing
job_in r job = job_at (jobs_of r) job

-- the law of jobs whose next step is not refused: they are there, a step is left, and leaves the job there
abbrev IsThere : Type 0
IsThere = (r : Run) (job : ℕ) → step_refusal (job_in r job) ≡ None → HasJob r job

abbrev IsLeft : Type 0
IsLeft = (r : Run) (job : ℕ) → step_refusal (job_in r job) ≡ None → 0 < steps_left r job

abbrev Stays : Type 0
Stays = (r : Run) (e : Occurrence) → step_refusal (job_in r e.event.job) ≡ None → HasJob (and_event r e) e.event.job

job_of : (jobs : List Standing) (number : ℕ) → 0 < number → number ≤ length jobs → (job : Standing) × (job_at jobs number ≡ Some job)
job_of jobs zero from within = absurd (omega arith)
job_of jobs (suc i) from within = elim (slice_get_cases jobs i).1 [ inl is ↦ (is.0, is.2) | inr past ↦ absurd (let beyond = past.0 in omega arith) ]

-- a job that is there goes on where it has no answer, and is refused where it has
waits-by : (o : Option Standing) (job : Standing) → o ≡ Some job → answer_of o ≡ None → step_refusal o ≡ None
waits-by None job is none = cc
waits-by (Some (working task)) job is none = refl
waits-by (Some (answered a)) job is none = cc

pub waits : (r : Run) (event : Event) → HasJob r event.job → answer_of (job_in r event.job) ≡ None → event_refusal r event ≡ None
waits r event there none = let at = job_of (jobs_of r) event.job there.from there.within in waits-by (job_in r event.job) at.0 at.1 none

ends-by : (o : Option Standing) (a : Answer) → answer_of o ≡ Some a → step_refusal o ≡ Some Answered
ends-by None a is = cc
ends-by (Some (working task)) a is = cc
ends-by (Some (answered b)) a is = refl

-- what a step that was taken says
pub record Stepped (r : Run) (event : Event) (r' : Run) (text : List ℕ) : Type 0 where
  pub goes_on : event_refusal r event ≡ None
  pub run : and_event r (without_fault event) ≡ r'
  pub text_is : step_text r event ≡ text

pub stepped-is : (r : Run) (event : Event) (r' : Run) (text : List ℕ) → step_in r event ≡ Ok (r', text) → Stepped r event r' text
unfolding step_in
stepped-is r event r' text is =
    let done = was_done (event_refusal r event) _ (r', text) is in
    record { goes_on = done.0; run = ap (λ (x : Run × List ℕ). x.0) done.1; text_is = ap (λ (x : Run × List ℕ). x.1) done.1 }

-- one step, and then the others
step-more : (more : ℕ) (r : Run) (event : Event) (r' : Run) (text : List ℕ) → Stepped r event r' text →
    steps_of (suc more) r event ≡ with_text text (steps_of more r' event)
unfolding steps_of
step-more more r event r' text s =
    let goes_on : is_some (event_refusal r event) ≡ false = ap is_some s.goes_on in
    rw goes_on (λ i. with_text (s.text_is i) (steps_of more (s.run i) event))

-- no step
step-none : (more : ℕ) (r : Run) (event : Event) (e : CoreError) → event_refusal r event ≡ Some e → steps_of more r event ≡ (r, [])
unfolding steps_of
step-none zero r event e refused = refl
step-none (suc more) r event e refused = let is : is_some (event_refusal r event) ≡ true = ap is_some refused in rw is refl

-- The steps since run r led to r' and printed this text, and what is left of them goes on from there.
pub record Finishes (r : Run) (event : Event) (r' : Run) (text : List ℕ) : Type 0 where
  pub goes_on : event_refusal r event ≡ None
  pub there : HasJob r' event.job
  pub more : ℕ
  pub enough : steps_left r' event.job ≤ more
  pub rest : steps_of (steps_left r event.job) r event ≡ with_text text (steps_of more r' event)

there-stepped : Stays → (r : Run) (event : Event) (r' : Run) (text : List ℕ) → Stepped r event r' text → HasJob r' event.job
there-stepped stays r event r' text s = subst (λ (x : Run). HasJob x event.job) s.run (stays r (without_fault event) s.goes_on)

-- so many steps, of which the first is this
first-of : (n : ℕ) (r : Run) (event : Event) (r' : Run) (text : List ℕ) → Stepped r event r' text → 0 < n → steps_left r' event.job < n
    → (more : ℕ) × (steps_left r' event.job ≤ more) × (steps_of n r event ≡ with_text text (steps_of more r' event))
first-of zero r event r' text s some less = absurd (omega arith)
first-of (suc more) r event r' text s some less = (more, omega arith, step-more more r event r' text s)

pub finishes-start : IsLeft → Stays → (r : Run) (event : Event) (r' : Run) (text : List ℕ) → step_in r event ≡ Ok (r', text) →
    steps_left r' event.job < steps_left r event.job → Finishes r event r' text
finishes-start is_left stays r event r' text is less =
    let s = stepped-is r event r' text is in
    let first = first-of (steps_left r event.job) r event r' text s (is_left r event.job s.goes_on) less in
    record { goes_on = s.goes_on; there = there-stepped stays r event r' text s; more = first.0; enough = first.1; rest = first.2 }

pub finishes-more : IsLeft → Stays → (r : Run) (event : Event) (r' : Run) (text : List ℕ) (r'' : Run) (next : List ℕ) → Finishes r event r' text →
    step_in r' event ≡ Ok (r'', next) → steps_left r'' event.job < steps_left r' event.job → Finishes r event r'' (text ++ next)
finishes-more is_left stays r event r' text r'' next f is less =
    let s = stepped-is r' event r'' next is in
    let some = is_left r' event.job s.goes_on in
    let first = first-of f.more r' event r'' next s (omega (arith, some, f.enough)) (omega (arith, less, f.enough)) in
    record {
      goes_on = f.goes_on;
      there = there-stepped stays r' event r'' next s;
      more = first.0;
      enough = first.1;
      rest = f.rest ∙ ap (with_text text) first.2 ∙ (let last = steps_of first.0 r'' event in λ i. (last.0, sym (append_assoc text next last.1) i));
    }

pub finishes-end : (r : Run) (event : Event) (r' : Run) (text : List ℕ) → Finishes r event r' text →
    is_some (answer_of (job_in r' event.job)) ≡ true → finish_in r event ≡ Ok (r', text)
unfolding finish_in
finishes-end r event r' text f is_answered =
    let a = answer_by (answer_of (job_in r' event.job)) is_answered in
    let last = step-none f.more r' event Answered (ends-by (job_in r' event.job) a.0 a.1) in
    is_done (event_refusal r event) _ f.goes_on ∙ ap Ok (f.rest ∙ ap (with_text text) last ∙ λ i. (r', append-nil text i))
  where
    answer_by : (o : Option Answer) → is_some o ≡ true → (a : Answer) × (o ≡ Some a)
    answer_by None is = cc
    answer_by (Some a) is = (a, refl)

-- a job that has no answer after some steps is not refused: memory ran out
pub finishes-unrefused : {S : Type 0} (r : Run) (event : Event) (r' : Run) (text : List ℕ) → Finishes r event r' text →
    is_some (answer_of (job_in r' event.job)) ≡ false
    → (step : Result (S × List ℕ) PlayKind) (s : S) (t : Run) (more with_text after : List ℕ) (kind : PlayKind) →
    Steps (step_in r' event) t more after (Err kind) → Steps step s with_text after (Err kind)
unfolding step_in
finishes-unrefused r event r' text f unanswered step s t more with_text after kind is = λ some.
    let goes_on = waits r' event f.there (none_by (answer_of (job_in r' event.job)) unanswered) in
    let done = is_done (event_refusal r' event) (and_event r' (without_fault event), step_text r' event) goes_on in
    absurd (let no = (is some).0 in cc)
  where
    none_by : (o : Option Answer) → is_some o ≡ false → o ≡ None
    none_by None is = refl
    none_by (Some a) is = cc

pub finishes-refused : (r : Run) (event : Event) (s t : Run) (text text' : List ℕ) (kind : PlayKind) →
    Steps (step_in r event) s text text' (Err kind) → Steps (finish_in r event) t text text' (Err kind)
unfolding step_in finish_in
finishes-refused r event s t text text' kind is =
    refused_too (event_refusal r event) (and_event r (without_fault event), step_text r event)
    (steps_of (steps_left r event.job) r event) s t text text' kind is

-- a job that is there and whose next step is refused has its answer
is_answered : (o : Option Standing) (job : Standing) → o ≡ Some job → is_some (step_refusal o) ≡ true → is_some (answer_of o) ≡ true
is_answered None job is refused = cc
is_answered (Some (working task)) job is refused = cc
is_answered (Some (answered a)) job is refused = refl

answered_by : (r : Run) (job : ℕ) → HasJob r job → is_some (step_refusal (job_in r job)) ≡ true → is_some (answer_of (job_in r job)) ≡ true
answered_by r job there refused = let at = job_of (jobs_of r) job there.from there.within in is_answered (job_in r job) at.0 at.1 refused

-- as many steps as are left answer the job
steps-answer : IsLeft → Stays → (n : ℕ) (r : Run) (event : Event) → IsRun r → HasJob r event.job → steps_left r event.job ≤ n →
    is_some (answer_of (job_in (steps_of n r event).0 event.job)) ≡ true
unfolding steps_of
steps-answer is_left stays zero r event run there few = by (event_refusal r event) refl
  where
    by : (o : Option CoreError) → event_refusal r event ≡ o → is_some (answer_of (job_in r event.job)) ≡ true
    by None is = absurd (let some = is_left r event.job is in omega arith)
    by (Some e) is = answered_by r event.job there (ap is_some is)
steps-answer is_left stays (suc more) r event run there few = by (λ s later there few. steps-answer is_left stays more s event later there few) (event_refusal r event) refl
  where
    by : ((s : Run) → IsRun s → HasJob s event.job → steps_left s event.job ≤ more → is_some (answer_of (job_in (steps_of more s event).0 event.job)) ≡ true) →
        (o : Option CoreError) → event_refusal r event ≡ o → is_some (answer_of (job_in (steps_of (suc more) r event).0 event.job)) ≡ true
    by answers None is =
        let goes_on : is_some (event_refusal r event) ≡ false = ap is_some is in
        let less = steps_left-less r run each-turn (without_fault event) is in
        rw goes_on (answers (and_event r (without_fault event)) (is_run-and_event r (without_fault event) run is) (stays r (without_fault event) is) (omega (arith, less)))
    by answers (Some e) is =
        let ends : is_some (event_refusal r event) ≡ true = ap is_some is in
        rw ends (answered_by r event.job there ends)

-- what `finish` leaves, where it is not refused, has the job's answer
pub finish-answers : IsLeft → Stays → IsThere → (r : Run) → IsRun r → (event : Event) (after : Run × List ℕ) → finish_in r event ≡ Ok after →
    is_some (answer_of (job_in after.0 event.job)) ≡ true
unfolding finish_in
finish-answers is_left stays is_there r run event after is =
    let done = was_done (event_refusal r event) _ after is in
    subst (λ (x : Run × List ℕ). is_some (answer_of (job_in x.0 event.job)) ≡ true) done.1
    (steps-answer is_left stays (steps_left r event.job) r event run (is_there r event.job done.0) (omega arith))

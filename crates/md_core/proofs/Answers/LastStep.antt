-- The steps of a job: each comes at a moment at which the job works, and the last of a job that is answered gives its answer.
use Rattle.std.proofs.Common.{ℕ, zero, suc, ◌≡◌, ◌≢◌, ◌<◌, ◌≤◌, ◌+◌, ◌-◌, List, Option, Some, None, refl, sym, ap, subst, ◌∙◌, length, slice_get, slice_set, arith}
use Rattle.std.proofs.lemmas.Option.{slice_get_within}
use Rattle.md_dirs.proofs.Sound.{by_number, get-set_same, get-set_other}
use Rattle.md_core.proofs.Values.{Call, Answer, DirReply, Task, After, Turn, rows_for, Machine, Standing, working, answered, Occurrence, job_at, new_job, moment_of, turn_of, reply_to, standing_of, step_of, step_by, Step, call_at, IsStepOf, Run, machine_at, beginning, jobs_of, done_at, IsRun, trace_of, option_and_then}
use Rattle.md_jobs.specs.declared.call.Call.TheVariants as call
use Rattle.md_core.proofs.Lists.Places.{at_place}
use Rattle.md_core.proofs.Runs.Events.{goes_on-exact, happens-turned, done-turned, job_at-within}
use Rattle.md_core.proofs.Runs.ByEvent.{moment-start, moment-more, moment-over, moment-end}
use Rattle.md_core.proofs.Induction.GoodRuns.{new_at}
use Rattle.md_core.proofs.Traces.Same.{done-step}

-- the turn that an event is, of a job with this task, and how the job stands after it
abbrev pub turn_by : Machine → Occurrence → Task → Turn Task
turn_by m e task = turn_of e.event.job task (moment_of m.clock e.event)

abbrev pub reply_in : Machine → Occurrence → Task → DirReply
reply_in m e task = reply_to m (moment_of m.clock e.event) (turn_by m e task) e.faulted

abbrev pub after_in : Machine → Occurrence → Task → After Task
after_in m e task = (turn_by m e task).follows (reply_in m e task) (rows_for (turn_by m e task).asked m.dirs)

-- event k is the turn of a job, which has this task then
pub record IsTurn (r : Run) (k job : ℕ) : Type 0 where
  pub event : Occurrence
  pub at : slice_get r.events k ≡ Some event
  pub own : event.event.job ≡ job
  pub task : Task
  pub there : job_at (machine_at r k).jobs job ≡ Some (working task)

abbrev pub done_in : (r : Run) (k job : ℕ) → IsTurn r k job → Step
done_in r k job t = step_by (machine_at r k) t.event t.task

abbrev pub left_by : (r : Run) (k job : ℕ) → IsTurn r k job → After Task
left_by r k job t = after_in (machine_at r k) t.event t.task

-- a number and a list of jobs, in which that number is replaced
set-here : (jobs : List Standing) (number job : ℕ) (old new : Standing) → number ≡ job → job_at jobs job ≡ Some old →
    job_at (slice_set jobs (number - 1) new) job ≡ Some new
set-here jobs number zero old new same is = cc
set-here jobs number (suc j) old new same is =
    let place : number - 1 ≡ j = omega (arith, same) in
    ap (λ i. slice_get (slice_set jobs i new) j) place ∙ get-set_same jobs j new (slice_get_within jobs j old is)

set-there : (jobs : List Standing) (number job : ℕ) (new : Standing) → 0 < number → job ≢ number →
    job_at (slice_set jobs (number - 1) new) job ≡ job_at jobs job
set-there jobs number zero new some differ = refl
set-there jobs number (suc j) new some differ = get-set_other jobs (number - 1) j new (λ same. differ (omega (arith, same, some)))

-- what a turn of a job does, and how jobs stand after it
module _ (r : Run) (k job : ℕ) (t : IsTurn r k job) where
  there-own : job_at (machine_at r k).jobs t.event.event.job ≡ Some (working t.task)
  there-own = ap (job_at (machine_at r k).jobs) t.own ∙ t.there

  pub is_within : k < length r.events
  is_within = slice_get_within r.events k t.event t.at

  pub done-in : done_at r k ≡ Some (done_in r k job t)
  done-in = ap (option_and_then (step_of (machine_at r k))) t.at ∙ done-turned (machine_at r k) t.event t.task there-own

  abbrev S : Standing
  S = standing_of (left_by r k job t).task (left_by r k job t).answer

  jobs-after : (machine_at r (k + 1)).jobs ≡ slice_set (machine_at r k).jobs (t.event.event.job - 1) S
  jobs-after = ap (λ (m : Machine). m.jobs) (moment-more r k t.event t.at ∙ happens-turned (machine_at r k) t.event t.task there-own)

  -- how the job stands after it, and another
  pub stands-after : job_at (machine_at r (k + 1)).jobs job ≡ Some S
  stands-after =
      ap (λ (js : List Standing). job_at js job) jobs-after
      ∙ set-here (machine_at r k).jobs t.event.event.job job (working t.task) S t.own t.there

  pub stands-other : (other : ℕ) → other ≢ job → job_at (machine_at r (k + 1)).jobs other ≡ job_at (machine_at r k).jobs other
  stands-other other differ =
      ap (λ (js : List Standing). job_at js other) jobs-after
      ∙ set-there (machine_at r k).jobs t.event.event.job other S
      (job_at-within (machine_at r k).jobs t.event.event.job (working t.task) there-own).0
      (λ same. differ (same ∙ t.own))

-- a job at the beginning is new
new-there : (calls : List Call) (job : ℕ) (s : Standing) (r : Run) → job_at (beginning r.image r.clock calls).jobs job ≡ Some s →
    (c : Call) × (call_at calls job ≡ Some c) × (s ≡ new_job c)
new-there calls zero s r is = cc
new-there calls (suc i) s r is = new_at calls i s is

-- a new job has no answer
new-works : (c : Call) (a : Answer) → new_job c ≡ answered a → ⊥
new-works (call.Clean folder) a is = cc
new-works c a is = cc

module _ (r : Run) (run : IsRun r) where
  abbrev pub is-step : (k job : ℕ) (t : IsTurn r k job) → IsStepOf (trace_of r) job k
  is-step k job t = record { step = done_in r k job t; at = done-step r run k (done_in r k job t) (done-in r k job t); own = t.own }

  -- each event is the turn of its job
  pub turn-at : (k : ℕ) (e : Occurrence) → slice_get r.events k ≡ Some e → IsTurn r k e.event.job
  turn-at k e at =
      let goes = (goes_on-exact (job_at (machine_at r k).jobs e.event.job)).0 (run.taken k e at) in
      record { event = e; at = at; own = refl; task = goes.0; there = goes.1 }

  -- a job after an event is as it was before, or the event was its turn
  pub by_event : {C : Type 0} (k job : ℕ) → (job_at (machine_at r (k + 1)).jobs job ≡ job_at (machine_at r k).jobs job → C) →
      (IsTurn r k job → C) → C
  by_event {C = C} k job other own = at_place r.events k
      (λ e at. by_number job e.event.job
      (λ same. own (subst (IsTurn r k) (sym same) (turn-at k e at)))
      (λ differ. other (stands-other r k e.event.job (turn-at k e at) job differ)))
      (λ past. other (ap (λ (m : Machine). job_at m.jobs job) (moment-over r k past)))

  -- a job that works at a moment worked at each earlier one
  works-one : (k job : ℕ) (task : Task) → job_at (machine_at r (k + 1)).jobs job ≡ Some (working task) →
      (t : Task) × (job_at (machine_at r k).jobs job ≡ Some (working t))
  works-one k job task is = by_event k job (λ same. (task, sym same ∙ is)) (λ t. (t.task, t.there))

  pub works-before : (i d job : ℕ) (task : Task) → job_at (machine_at r (i + d)).jobs job ≡ Some (working task) →
      (t : Task) × (job_at (machine_at r i).jobs job ≡ Some (working t))
  works-before i zero job task is =
      let e : i + 0 ≡ i = omega arith in (task, subst (λ n. job_at (machine_at r n).jobs job ≡ Some (working task)) e is)
  works-before i (suc d) job task is =
      let e : i + suc d ≡ (i + d) + 1 = omega arith in
      let one = works-one (i + d) job task (subst (λ n. job_at (machine_at r n).jobs job ≡ Some (working task)) e is) in
      works-before i d job one.0 one.1

-- the last step of a job that is answered, and the job unanswered until then
pub record LastStep (r : Run) (job : ℕ) (a : Answer) : Type 0 where
  pub k : ℕ
  pub turn : IsTurn r k job
  pub answer : (left_by r k job turn).answer ≡ Some a
  pub unanswered : (i : ℕ) → i ≤ k → (t : Task) × (job_at (machine_at r i).jobs job ≡ Some (working t))

module _ (r : Run) (run : IsRun r) (job : ℕ) (a : Answer) where
  unanswered-till : (k : ℕ) (task : Task) → job_at (machine_at r k).jobs job ≡ Some (working task) → (i : ℕ) → i ≤ k →
      (t : Task) × (job_at (machine_at r i).jobs job ≡ Some (working t))
  unanswered-till k task is i before =
      let e : k ≡ i + (k - i) = omega (arith, before) in
      works-before r run i (k - i) job task (subst (λ n. job_at (machine_at r n).jobs job ≡ Some (working task)) e is)

  -- a standing that is an answer is that of the turn
  answer-of : (task : Task) (o : Option Answer) → Some (standing_of task o) ≡ Some (answered a) → o ≡ Some a
  answer-of task None is = cc
  answer-of task (Some b) is = let e : answered b ≡ answered a = cc in cc

  till : (k : ℕ) → job_at (machine_at r k).jobs job ≡ Some (answered a) → LastStep r job a
  till zero is =
      let new = new-there r.calls job (answered a) r (ap (λ (m : Machine). job_at m.jobs job) (sym (moment-start r)) ∙ is) in
      absurd (new-works new.0 a (sym new.2))
  till (suc k) is =
      let e : suc k ≡ k + 1 = omega arith in
      let is' : job_at (machine_at r (k + 1)).jobs job ≡ Some (answered a) =
      subst (λ n. job_at (machine_at r n).jobs job ≡ Some (answered a)) e is in
      by_event r run k job
      (λ same. till k (sym same ∙ is'))
      (λ t. record {
        k = k;
        turn = t;
        answer = answer-of (left_by r k job t).task (left_by r k job t).answer (sym (stands-after r k job t) ∙ is');
        unanswered = unanswered-till k t.task t.there;
      })

  pub last-step : job_at (jobs_of r) job ≡ Some (answered a) → LastStep r job a
  last-step is = till (length r.events) (ap (λ (m : Machine). job_at m.jobs job) (moment-end r) ∙ is)

-- What holds of a new task, and is kept by each turn of its job and each of another, holds of a task at each moment.
module _ (r : Run) (run : IsRun r) (P : ℕ → ℕ → Task → Type 0)
    (start : (job : ℕ) (c : Call) (task : Task) → call_at r.calls job ≡ Some c → new_job c ≡ working task → P 0 job task)
    (own : (k job : ℕ) (t : IsTurn r k job) → (left_by r k job t).answer ≡ None → P k job t.task → P (k + 1) job (left_by r k job t).task)
    (other : (k job : ℕ) (task : Task) (e : Occurrence) → slice_get r.events k ≡ Some e → job ≢ e.event.job →
    job_at (machine_at r k).jobs job ≡ Some (working task) → P k job task → P (k + 1) job task) where
  works-on : (task task' : Task) (o : Option Answer) → Some (standing_of task o) ≡ Some (working task') → (o ≡ None) × (task ≡ task')
  works-on task task' None is = let e : working task ≡ working task' = cc in (refl, cc)
  works-on task task' (Some b) is = cc

  pub holds : (k job : ℕ) (task : Task) → k ≤ length r.events → job_at (machine_at r k).jobs job ≡ Some (working task) → P k job task
  holds zero job task within is =
      let new = new-there r.calls job (working task) r (ap (λ (m : Machine). job_at m.jobs job) (sym (moment-start r)) ∙ is) in
      start job new.0 task new.1 (sym new.2)
  holds (suc k) job task within is =
      let e : k + 1 ≡ suc k = omega arith in
      let is' : job_at (machine_at r (k + 1)).jobs job ≡ Some (working task) =
      subst (λ n. job_at (machine_at r n).jobs job ≡ Some (working task)) (sym e) is in
      let before : k ≤ length r.events = omega (arith, within) in
      subst (λ n. P n job task) e (at_place r.events k
      (λ x at. by_number job x.event.job
      (λ same.
      let t : IsTurn r k job = subst (IsTurn r k) (sym same) (turn-at r run k x at) in
      let on = works-on (left_by r k job t).task task (left_by r k job t).answer (sym (stands-after r k job t) ∙ is') in
      subst (P (k + 1) job) on.1 (own k job t on.0 (holds k job t.task before t.there)))
      (λ differ.
      let was : job_at (machine_at r k).jobs job ≡ Some (working task) =
      sym (stands-other r k x.event.job (turn-at r run k x at) job differ) ∙ is' in
      other k job task x at differ was (holds k job task before was)))
      (λ past. absurd (omega (arith, past, within))))

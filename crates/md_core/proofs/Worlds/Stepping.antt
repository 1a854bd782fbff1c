-- A world after one turn of a job keeps what a world keeps, of the run with one more event.
use Rattle.std.proofs.Common.{ℕ, zero, suc, ◌≡◌, ◌<◌, ◌+◌, ◌-◌, ◌++◌, ◌||◌, ◌∙◌, inl, inr, List, [], ◌∷◌, Option, Some, None, Bool, true, false, cond, is_some, refl, sym, ap, subst, length, slice_get, slice_set, arith, map, length-append}
use Rattle.std.specs.Prelude.{count_by}
use Rattle.std.proofs.lemmas.List.Sums.{sum_by_push}
use Rattle.md_jobs.specs.declared.error.CoreError.TheVariants.{Answered}
use Rattle.md_core.proofs.Values.{State, Answer, Call, DirReply, Event, Moment, StepOut, Task, Effect, Turn, After, rows_for, is_fault, Machine, Standing, working, answered, is_working, Occurrence, moment_of, standing_of, after_event, after_turn, turn_of, job_at, step_of, step_out, Run, machine_of, dirs_of, jobs_of, failures_of, and_event, step_refusal, answer_of, is_among, option_to_list, option_map, Device, JobView, TakesTurn, standings, ask_of, state_by, Covers, holds, may_change, Used, IsWorld, AreUsed, run_of, machine_by, occurrences}
use Rattle.md_core.proofs.Induction.Good.{IsGood, TaskFits}
use Rattle.md_core.proofs.Runs.Events.{goes_on-exact, happens-turned, done-turned, job_at-place}
use Rattle.md_core.proofs.Runs.ByEvent.{machine-and_event}
use Rattle.md_core.proofs.Runs.Extended.{is_run-and_event}
use Rattle.md_core.proofs.Worlds.Before.{covered, good-kept}
use Rattle.md_core.proofs.Worlds.Holding.{Changes, may-still, same-used, still-covers, turn-changes}

pub marked-push : (es : List Event) (bs : List Bool) (e : Event) (b : Bool) → length bs ≡ length es →
    occurrences (es ++ e ∷ []) (bs ++ b ∷ []) ≡ occurrences es bs ++ record { event = e; faulted = b } ∷ []
marked-push [] [] e b same = refl
marked-push [] (c ∷ bs) e b same = absurd (omega arith)
marked-push (x ∷ es) [] e b same = absurd (omega arith)
marked-push (x ∷ es) (c ∷ bs) e b same = ap (λ ms. record { event = x; faulted = c } ∷ ms) (marked-push es bs e b (omega arith))

-- the log is the events without their marks
pub marked-events : (es : List Event) (bs : List Bool) → length bs ≡ length es → map (λ m. m.event) (occurrences es bs) ≡ es
marked-events [] bs same = refl
marked-events (x ∷ es) [] same = absurd (omega arith)
marked-events (x ∷ es) (c ∷ bs) same = ap (λ xs. x ∷ xs) (marked-events es bs (omega arith))

-- a job that took its turn keeps its call
calls-set : (jobs : List JobView) (place : ℕ) (old new : JobView) → slice_get jobs place ≡ Some old → new.call ≡ old.call →
    map (λ job. job.call) (slice_set jobs place new) ≡ map (λ job. job.call) jobs
calls-set [] place old new at same = refl
calls-set (x ∷ jobs) zero old new at same = let e : x ≡ old = cc in ap (λ c. c ∷ map (λ job. job.call) jobs) (same ∙ ap (λ (j : JobView). j.call) (sym e))
calls-set (x ∷ jobs) (suc place) old new at same = ap (λ cs. x.call ∷ cs) (calls-set jobs place old new at same)

-- where a job is, its call is
call-there : (jobs : List JobView) (place : ℕ) (job : JobView) → slice_get jobs place ≡ Some job →
    slice_get (map (λ job. job.call) jobs) place ≡ Some job.call
call-there [] place job at = cc
call-there (x ∷ jobs) zero job at = let e : x ≡ job = cc in ap (λ (j : JobView). Some j.call) e
call-there (x ∷ jobs) (suc place) job at = call-there jobs place job at

-- how jobs stand, at a place and after a change of one
standing-at : (jobs : List JobView) (place : ℕ) (job : JobView) → slice_get jobs place ≡ Some job → slice_get (standings jobs) place ≡ Some job.standing
standing-at [] place job at = cc
standing-at (x ∷ jobs) zero job at = let e : x ≡ job = cc in ap (λ (j : JobView). Some j.standing) e
standing-at (x ∷ jobs) (suc place) job at = standing-at jobs place job at

standing-set : (jobs : List JobView) (place : ℕ) (new : JobView) → standings (slice_set jobs place new) ≡ slice_set (standings jobs) place new.standing
standing-set [] place new = refl
standing-set (x ∷ jobs) zero new = refl
standing-set (x ∷ jobs) (suc place) new = ap (λ ss. x.standing ∷ ss) (standing-set jobs place new)

pub count-push : (es : List Occurrence) (e : Occurrence) → count_by (λ m. m.faulted) (es ++ e ∷ []) ≡ count_by (λ m. m.faulted) es + cond e.faulted 1 0
count-push es e = sum_by_push (λ m. cond m.faulted 1 0) es e

-- the moment of a step, by its two clocks
pub moment-is : (clock : ℕ) (e : Event) (at : Moment) → at.clock ≡ (moment_of clock e).clock → at.own ≡ (moment_of clock e).own →
    moment_of clock e ≡ at
moment-is clock e at c o = λ i. record { clock = sym c i; own = sym o i }

module _ (first : Device) (began : ℕ) (jobs : List JobView) (events : List Event) (marks : List Bool) (clock : ℕ) (effects : List Effect)
    (used : Used) (event : Event) (place : ℕ) (out : StepOut) (effect : Option Effect) (job' : JobView) (held' : Device) where
  abbrev run : Run
  run = run_of first began jobs events marks

  abbrev marked_event : Occurrence
  marked_event = record { event = event; faulted = is_fault out.reply }

  abbrev at : Moment
  at = moment_of clock event

  abbrev run' : Run
  run' = run_of first began (slice_set jobs place job') (events ++ event ∷ []) (marks ++ is_fault out.reply ∷ [])

  abbrev kept' : Machine
  kept' = machine_by held' at.clock (slice_set jobs place job') (effects ++ option_to_list effect)

  -- the world after the turn: its run is the run with one more event, which the job was free to take, and this is shown of it
  pub record Stepped : Type 0 where
    pub run_is : run' ≡ and_event run marked_event
    pub world : IsWorld run' kept' held' used (events ++ event ∷ []) (marks ++ is_fault out.reply ∷ [])
    pub goes : step_refusal (job_at (jobs_of run) event.job) ≡ None
    pub shown : option_map step_out (step_of (machine_of run) marked_event) ≡ Some out

  module _ (held : Device) (is : place + 1 ≡ event.job) (job : JobView) (there : slice_get jobs place ≡ Some job)
      (world : IsWorld run (machine_by held clock jobs effects) held used events marks)
      (turned : TakesTurn event.job at job held out effect job' held') where
    abbrev kept : Machine
    kept = machine_by held clock jobs effects

    abbrev turn : Turn Task
    turn = turn_of event.job turned.task at

    abbrev after : DirReply → After Task
    after r = turn.follows r (rows_for turn.asked held.state)

    at_number : job_at kept.jobs event.job ≡ Some (working turned.task)
    at_number = let e : suc place ≡ event.job = omega arith in ap (job_at kept.jobs) (sym e) ∙ standing-at jobs place job there ∙ ap Some turned.was

    run-after : run' ≡ and_event run marked_event
    run-after = λ i. record {
      image = first.state;
      clock = began;
      failures = first.failures;
      calls_made = first.calls;
      calls = calls-set jobs place job job' there turned.call i;
      events = marked-push events marks event (is_fault out.reply) world.as_many i;
    }

    goes-on : after_event kept marked_event ≡ kept'
    goes-on =
        happens-turned kept marked_event turned.task at_number
        ∙ ap (after_turn kept event.job at turn) (sym turned.takes.made.replied)
        ∙ (λ i. record {
          dirs = sym turned.takes.made.state i;
          clock = at.clock;
          jobs = slice_set kept.jobs (place_is i) (standing_of (turned.takes.after i).task (turned.takes.after i).answer);
          effects = effects ++ option_to_list (turned.takes.after i).effect;
        })
        ∙ (λ i. record {
          dirs = held'.state;
          clock = at.clock;
          jobs = slice_set kept.jobs place (sym turned.standing i);
          effects = effects ++ option_to_list effect;
        })
        ∙ (λ i. record { dirs = held'.state; clock = at.clock; jobs = sym (standing-set jobs place job') i; effects = effects ++ option_to_list effect })
      where
        place_is : event.job - 1 ≡ place
        place_is = omega arith

    refusal : step_refusal (job_at (jobs_of run) event.job) ≡ None
    refusal = ap (λ (m : Machine). step_refusal (job_at m.jobs event.job)) (sym world.now) ∙
        (goes_on-exact (job_at kept.jobs event.job)).1 (turned.task, at_number)

    failed : (b : Bool) → held'.failures ≡ cond b (held.failures + 1) held.failures → held.failures ≡ failures_of run →
        held'.failures ≡ first.failures + (count_by (λ m. m.faulted) run.events + cond b 1 0)
    failed true h w = omega arith
    failed false h w = omega arith

    moved : kept' ≡ machine_of (and_event run marked_event)
    moved = sym goes-on ∙ ap (λ (m : Machine). after_event m marked_event) world.now ∙ sym (machine-and_event run marked_event)

    -- what is kept of names serves after the turn
    still-used : AreUsed (and_event run marked_event) used
    still-used = record {
      changed = λ i call here u is. elim (may-still held.state job.call good.sound event.job turned.task at fits out.reply changes call u (to-later call u is)) [
        | inl before ↦ names.changed i call here u (sym (ap (λ (m : Machine). may_change m.dirs call u) world.now) ∙ before)
        | inr mine ↦ marked u mine
      ];
      same = λ u. ap (λ (s : State). is_among u used.since || holds s u) dirs-later
          ∙ same-used held.state later job.call changes used.since u (marked u)
          ∙ ap (λ (m : Machine). is_among u used.since || holds m.dirs u) world.now ∙ names.same u;
      covers = subst (λ (s : State). Covers s used) (sym dirs-later)
          (still-covers held.state later job.call changes used.since used.were marked
          (covered first began jobs events marks held clock effects used world));
    }
      where
        names : AreUsed run used
        names = world.names

        good : IsGood run.calls kept
        good = good-kept first began jobs events marks held clock effects used world

        called : slice_get run.calls place ≡ Some job.call
        called = call-there jobs place job there

        fits : TaskFits held.state job.call turned.task
        fits = good.fits place job.call turned.task called (standing-at jobs place job there ∙ ap Some turned.was)

        later : State
        later = state_by (ask_of turn.asked at.clock) held.state out.reply

        dirs-later : dirs_of (and_event run marked_event) ≡ later
        dirs-later = ap (λ (m : Machine). m.dirs) (sym moved) ∙ turned.takes.made.state

        changes : (u : List ℕ) → Changes held.state job.call later u
        changes = turn-changes held.state job.call good.sound good.one_path at.clock (is_fault out.reply) event.job turned.task at fits out.reply
            turned.takes.made.replied

        to-later : (call : Call) (u : List ℕ) → may_change (dirs_of (and_event run marked_event)) call u ≡ true → may_change later call u ≡ true
        to-later call u is = sym (ap (λ (s : State). may_change s call u) dirs-later) ∙ is

        marked : (u : List ℕ) → may_change held.state job.call u ≡ true → is_among u used.since ≡ true
        marked u may = names.changed place job.call called u (sym (ap (λ (m : Machine). may_change m.dirs job.call u) world.now) ∙ may)

    stepped : IsWorld (and_event run marked_event) kept' held' used (events ++ event ∷ []) (marks ++ is_fault out.reply ∷ [])
    stepped = record {
      run = is_run-and_event run marked_event world.run refusal;
      now = moved;
      failed = failed (is_fault out.reply) turned.takes.made.failed world.failed ∙ ap (λ n. first.failures + n) (sym (count-push run.events marked_event));
      called = simp length-append (let one = turned.takes.made.called in let all = world.called in omega arith);
      names = still-used;
      as_many = simp length-append (let same = world.as_many in omega arith);
    }

    -- what is shown of the step
    step-shown : option_map step_out (step_of (machine_of run) marked_event) ≡ Some out
    step-shown =
        ap (λ (m : Machine). option_map step_out (step_of m marked_event)) (sym world.now)
        ∙ ap (option_map step_out) (done-turned kept marked_event turned.task at_number)
        ∙ ap (λ r. Some (step_out (record {
          job = event.job;
          asked = turn.asked;
          reply = r;
          at = at;
          answer = (after r).answer;
          effect = (after r).effect;
        }))) (sym turned.takes.made.replied)
        ∙ (λ i. Some (record { call = sym turned.takes.call i; reply = out.reply; answer = (turned.takes.after i).answer; effect = effect_is i }))
      where
        effect_is : is_some (after out.reply).effect ≡ out.effect
        effect_is = ap (λ (a : After Task). is_some a.effect) turned.takes.after ∙ sym turned.takes.is_effect

    pub steps : Stepped
    steps = record {
      run_is = run-after;
      world = subst (λ (r : Run). IsWorld r kept' held' used (events ++ event ∷ []) (marks ++ is_fault out.reply ∷ [])) (sym run-after) stepped;
      goes = refusal;
      shown = step-shown;
    }

-- how the job of a number stands, by the job at its place
pub standing-number : (jobs : List JobView) (number : ℕ) (job : JobView) → 0 < number → slice_get jobs (number - 1) ≡ Some job →
    job_at (standings jobs) number ≡ Some job.standing
standing-number jobs number job some at = job_at-place (standings jobs) number some ∙ standing-at jobs (number - 1) job at

-- a job is refused a step exactly where it has its answer, and is at work where it has none
pub refused-by : (jobs : List JobView) (number : ℕ) (job : JobView) (a : Answer) → 0 < number → slice_get jobs (number - 1) ≡ Some job →
    Some a ≡ answer_of (Some job.standing) → step_refusal (job_at (standings jobs) number) ≡ Some Answered
refused-by jobs number job a some at has = ap step_refusal (standing-number jobs number job some at) ∙ by job.standing has
  where
    by : (s : Standing) → Some a ≡ answer_of (Some s) → step_refusal (Some s) ≡ Some Answered
    by (working task) h = cc
    by (answered b) h = refl

pub goes-by : (jobs : List JobView) (number : ℕ) (job : JobView) → 0 < number → slice_get jobs (number - 1) ≡ Some job →
    None ≡ answer_of (Some job.standing) → step_refusal (job_at (standings jobs) number) ≡ None
goes-by jobs number job some at has = ap step_refusal (standing-number jobs number job some at) ∙ by job.standing has
  where
    by : (s : Standing) → None ≡ answer_of (Some s) → step_refusal (Some s) ≡ None
    by (working task) h = refl
    by (answered b) h = cc

-- a job that is there, and whose step isn't refused, is at work
pub working-at : (jobs : List JobView) (place number : ℕ) (job : JobView) → place + 1 ≡ number → slice_get jobs place ≡ Some job →
    step_refusal (job_at (standings jobs) number) ≡ None → is_working job.standing ≡ true
working-at jobs place number job is at goes =
    let e : suc place ≡ number = omega arith in
    let found : job_at (standings jobs) number ≡ Some job.standing = ap (job_at (standings jobs)) (sym e) ∙ standing-at jobs place job at in
    by job.standing (ap step_refusal (sym found) ∙ goes)
  where
    by : (s : Standing) → step_refusal (Some s) ≡ None → is_working s ≡ true
    by (working task) h = refl
    by (answered a) h = cc

-- A run of our jobs is a story, in which no other program takes a step.
use Rattle.std.proofs.Common.{ℕ, zero, suc, ◌≡◌, ◌≢◌, ◌≤◌, ◌+◌, ◌⊎◌, List, [], ◌∷◌, Option, Some, None, Bool, cond, refl, sym, ap, subst, ◌∙◌, arith, length, map, take, slice_get}
use Rattle.std.proofs.lemmas.List.{take-map, length-map, take_all}
use Rattle.std.proofs.lemmas.Option.{slice_get-map}
use Rattle.std.specs.Option.{option_map}
use Rattle.md_dirs.proofs.Sound.{by_number}
use Rattle.md_dirs.specs.State.{State, file_at, file_by}
use Rattle.md_dirs.specs.declared.paths.File.{File}
use Rattle.md_dirs.specs.declared.paths.Path.{Path}
use Rattle.md_jobs.specs.Asked.{ask_of, reply_by, state_by}
use Rattle.md_jobs.specs.Turn.{After, rows_for}
use Rattle.md_jobs.specs.declared.call.Call.{Call}
use Rattle.md_jobs.specs.declared.step.DirReply.TheVariants as reply
use Rattle.md_core.specs.Machine.{Machine, Standing, working, job_at, new_job, turn_of}
use Rattle.md_core.specs.Runs.{Run, machine_at, stamp_of}
use Rattle.md_core.specs.Stepping.{IsRun}
use Rattle.md_core.specs.Trace.{Step as Taken, IsTrace, call_at, IsStepOf as IsStepTaken}
use Rattle.md_core.specs.Tasks.Task.{Task}
use Rattle.md_core.specs.Trace as trace
use Rattle.md_core.specs.Tracing.{trace_of}
use Rattle.md_core.proofs.Answers.LastStep.{IsTurn as IsTurnOf, is-step, turn-at, stands-after, stands-other, done_in}
use Rattle.md_core.proofs.Answers.Moments.{its-call}
use Rattle.md_core.proofs.Lists.Places.{at_place}
use Rattle.md_core.proofs.Runs.ByEvent.{moment-start, moment-over}
use Rattle.md_core.proofs.Traces.Clock.{event-of}
use Rattle.md_core.proofs.Traces.Plain.{is-trace}
use Rattle.md_core.proofs.Traces.Same.{state-same, many-steps}
use Rattle.md_core.proofs.Traces.Stands.{turn-of}
use Rattle.md_core.proofs.Worlds.Loading.Loaded.{first-clock}
use Rattle.md_log.specs.declared.clause.Clause.{Clause}
use Rattle.md_law.specs.Law.{Breaks}
use Rattle.md_beside.specs.Story.{Story, Step, ours, another, asked, step_at, state, state_after, history, standing, standing_from, standing_after, is_by, IsTurn}
use Rattle.md_beside.specs.Beside.{IsStory, reply_due}
use Rattle.md_beside.specs.Jobs.{MayBreak}
use Rattle.md_beside.specs.Runs.{step_told, story_of, AreNames}
use Rattle.md_beside.proofs.Acting.{standing-more, itself, not-by}
use Rattle.md_beside.proofs.Jobs.{keep-promises}

-- the directories after some steps of a run, as the story has them
told-after : (s : State) (steps : List Taken) → state_after s (map step_told steps) ≡ trace.state_after s steps
unfolding state_after trace.state_after
told-after s [] = refl
told-after s (x ∷ steps) = told-after (state_by (ask_of x.asked x.at.clock) s x.reply) steps

standing-first : (job : ℕ) (s : State) (st : Standing) → standing_from job s [] st ≡ st
unfolding standing_from
standing-first job s st = refl

module _ (r : Run) (actor : ℕ → List ℕ) (run : IsRun r) (names : AreNames actor) where
  abbrev t : Story
  t = story_of actor r

  state-told : (k : ℕ) → state t k ≡ trace.state (trace_of r) k
  state-told k = ap (state_after r.image) (take-map step_told k (trace_of r).steps) ∙ told-after r.image (take k (trace_of r).steps)

  state-machine : (k : ℕ) → state t k ≡ (machine_at r k).dirs
  state-machine k = state-told k ∙ state-same r run k

  -- each step of the story is one of the run
  taken : (k : ℕ) (x : Step) → step_at t k ≡ Some x → (y : Taken) × (trace.step_at (trace_of r) k ≡ Some y) × (step_told y ≡ x)
  taken k x is = by (slice_get (trace_of r).steps k) refl (sym (slice_get-map step_told (trace_of r).steps k) ∙ is)
    where
      by : (o : Option Taken) → slice_get (trace_of r).steps k ≡ o → option_map step_told o ≡ Some x →
          (y : Taken) × (trace.step_at (trace_of r) k ≡ Some y) × (step_told y ≡ x)
      by (Some y) at told = (y, at, (let e : Some (step_told y) ≡ Some x = told in cc))
      by None at told = cc

  told : (k : ℕ) (y : Taken) → trace.step_at (trace_of r) k ≡ Some y → step_at t k ≡ Some (step_told y)
  told k y at = slice_get-map step_told (trace_of r).steps k ∙ ap (option_map step_told) at

  -- ---- how far a job is

  module _ (job : ℕ) (c : Call) (of : call_at r.calls job ≡ Some c) where
    -- as far as in the run
    abbrev Agrees : ℕ → Type 0
    Agrees k = job_at (machine_at r k).jobs job ≡ Some (standing t job c k)

    new-at : (n : ℕ) → call_at r.calls n ≡ Some c → job_at (map new_job r.calls) n ≡ Some (new_job c)
    new-at zero none = cc
    new-at (suc i) at = slice_get-map new_job r.calls i ∙ ap (option_map new_job) at

    agrees-first : Agrees 0
    agrees-first = ap (λ (m : Machine). job_at m.jobs job) (moment-start r) ∙ new-at job of
        ∙ ap Some (sym (standing-first job r.image (new_job c)))

    agrees-past : (k : ℕ) → length r.events ≤ k → Agrees k → job_at (machine_at r (k + 1)).jobs job ≡ Some (standing t job c (suc k))
    agrees-past k past before =
        let many : length t.steps ≡ length r.events = length-map (trace_of r).steps step_told ∙ many-steps r run in
        let all : take (suc k) t.steps ≡ take k t.steps =
        take_all (suc k) t.steps (omega (arith, many, past)) ∙ sym (take_all k t.steps (omega (arith, many, past))) in
        ap (λ (m : Machine). job_at m.jobs job) (moment-over r k past) ∙ before
        ∙ ap (λ (steps : List Step). Some (standing_from job r.image steps (new_job c))) (sym all)

    -- the story's step of a turn
    step-of : (n k : ℕ) (u : IsTurnOf r k n) → step_at t k ≡ Some (step_told (done_in r k n u))
    step-of n k u = told k (done_in r k n u) (is-step r run k n u).at

    agrees-own : (k : ℕ) (u : IsTurnOf r k job) → Agrees k → job_at (machine_at r (k + 1)).jobs job ≡ Some (standing t job c (suc k))
    agrees-own k u before = stands-after r k job u ∙ ap Some (sym (
        standing-more job r.image t.steps (new_job c) k x (step-of job k u)
        ∙ ap (λ (n : ℕ). cond (is_by job (ours n)) (standing_after job (state t k) x (standing t job c k)) (standing t job c k)) u.own
        ∙ ap (λ (b : Bool). cond b (standing_after job (state t k) x (standing t job c k)) (standing t job c k)) (itself job)
        ∙ ap (standing_after job (state t k) x) works
        ∙ ap (λ (s : State). standing_after job s x (working u.task)) (state-machine k)
        ∙ ap (λ (n : ℕ). standing_after n (machine_at r k).dirs x (working u.task)) (sym u.own)))
      where
        x : Step
        x = step_told (done_in r k job u)

        works : standing t job c k ≡ working u.task
        works = let both : Some (standing t job c k) ≡ Some (working u.task) = sym before ∙ u.there in cc

    agrees-other : (n k : ℕ) (u : IsTurnOf r k n) → job ≢ n → Agrees k →
        job_at (machine_at r (k + 1)).jobs job ≡ Some (standing t job c (suc k))
    agrees-other n k u differ before = stands-other r k n u job differ ∙ before ∙ ap Some (sym (
        standing-more job r.image t.steps (new_job c) k (step_told (done_in r k n u)) (step-of n k u)
        ∙ ap (λ (b : Bool). cond b (standing_after job (state t k) (step_told (done_in r k n u)) (standing t job c k)) (standing t job c k))
        (not-by job (ours u.event.event.job) (λ own. differ (let one : u.event.event.job ≡ job = cc in sym one ∙ u.own)))))

    agrees : (k : ℕ) → Agrees k
    agrees zero = agrees-first
    agrees (suc k) =
        let e : k + 1 ≡ suc k = omega arith in
        subst (λ (n : ℕ). job_at (machine_at r n).jobs job ≡ Some (standing t job c (suc k))) e (at_place r.events k
        (λ o at. by_number job o.event.job
        (λ same. agrees-own k (subst (IsTurnOf r k) (sym same) (turn-at r run k o at)) (agrees k))
        (λ differ. agrees-other o.event.job k (turn-at r run k o at) differ (agrees k)))
        (λ past. agrees-past k past (agrees k)))

  -- ---- a step is a turn

  its-turn : (k job : ℕ) (u : IsTurnOf r k job) → IsTurn t k (step_told (done_in r k job u)) job
  its-turn k job u = record {
    call = call.0;
    of = call.1;
    task = u.task;
    works = let both : Some (standing t job call.0 k) ≡ Some (working u.task) = sym (agrees job call.0 call.1 k) ∙ u.there in cc;
    made = ap (λ (n : ℕ). asked (turn_of n u.task x.at).asked) u.own;
    answers = ap (λ (after : After Task). after.answer) same;
    affects = ap (λ (after : After Task). after.effect) same;
  }
    where
      call : (c : Call) × (call_at r.calls job ≡ Some c)
      call = its-call r run k job (working u.task) u.there

      x : Step
      x = step_told (done_in r k job u)

      by : ℕ → State → After Task
      by n s = (turn_of n u.task x.at).follows x.reply (rows_for (turn_of n u.task x.at).asked s)

      same : by job (state t k) ≡ by u.event.event.job (machine_at r k).dirs
      same = ap (by job) (state-machine k) ∙ ap (λ (n : ℕ). by n (machine_at r k).dirs) (sym u.own)

  turns : (k job : ℕ) (x : Step) → step_at t k ≡ Some x → x.who ≡ ours job → IsTurn t k x job
  turns k job x is who =
      let y = taken k x is in
      let own : y.0.job ≡ job = (let both : ours y.0.job ≡ ours job = ap (λ (z : Step). z.who) y.2 ∙ who in cc) in
      let turn = turn-of r run job k (record { step = y.0; at = y.1; own = own }) in
      subst (λ (z : Step). IsTurn t k z job) (ap step_told (sym turn.1) ∙ y.2) (its-turn k job turn.0)

  -- ---- the story

  replied : (k : ℕ) (x : Step) → step_at t k ≡ Some x → (x.reply ≡ reply_due (state t k) x.did x.at.clock) ⊎ (x.reply ≡ reply.Fault)
  replied k x is =
      let y = taken k x is in
      subst (λ (z : Step). (z.reply ≡ reply_due (state t k) z.did z.at.clock) ⊎ (z.reply ≡ reply.Fault)) y.2
      (subst (λ (s : State). (y.0.reply ≡ reply_by ((ask_of y.0.asked y.0.at.clock).refusal s)) ⊎ (y.0.reply ≡ reply.Fault))
      (sym (state-told k))
      ((is-trace r run).replied k y.0 y.1))

  begins : (x : Step) → step_at t 0 ≡ Some x → r.clock ≤ x.at.clock
  begins x is =
      let y = taken 0 x is in
      let clock = (event-of r run 0 y.0 y.1).2.clock in
      let same : y.0.at.clock ≡ x.at.clock = ap (λ (z : Step). z.at.clock) y.2 in
      omega (arith, clock, same)

  goes_on : (k : ℕ) (x y : Step) → step_at t k ≡ Some x → step_at t (suc k) ≡ Some y → x.at.clock ≤ y.at.clock
  goes_on k x y is is' =
      let first = taken k x is in
      let then = taken (suc k) y is' in
      let forward = (is-trace r run).forward k (suc k) first.0 then.0 first.1 then.1 (omega arith) in
      let same : first.0.at.clock ≡ x.at.clock = ap (λ (z : Step). z.at.clock) first.2 in
      let same' : then.0.at.clock ≡ y.at.clock = ap (λ (z : Step). z.at.clock) then.2 in
      omega (arith, forward, same, same')

  stamped : (p : Path) (n : ℕ) (file : File) → file_at r.image p ≡ Some n → file_by r.image.files n ≡ Some file → file.stamp ≤ r.clock
  stamped p n file there is =
      let low = first-clock r.image p n there in
      let same : stamp_of (file_by r.image.files n) ≡ file.stamp = ap stamp_of is in
      let clock = run.stamped in
      omega (arith, low, same, clock)

  -- no other program takes a step
  no-other : (k : ℕ) (x : Step) (name : List ℕ) → step_at t k ≡ Some x → x.who ≡ another name → ⊥
  no-other k x name is who =
      let y = taken k x is in let both : ours y.0.job ≡ another name = ap (λ (z : Step). z.who) y.2 ∙ who in cc

  pub is-story : IsStory t
  is-story = record {
    sound = run.sound;
    one_path = (is-trace r run).one_path;
    accepted = (is-trace r run).accepted;
    replied = replied;
    stamped = stamped;
    begins = begins;
    goes_on = goes_on;
    turns = turns;
    apart = names;
    foreign = λ k job x name is who. absurd (no-other k x name is who);
  }

  pub are-lawful : (k job : ℕ) (x : Step) (c : Call) (b : Clause) → step_at t k ≡ Some x → x.who ≡ ours job →
      call_at r.calls job ≡ Some c → (MayBreak t c b → ⊥) → Breaks b (history t (suc k)) → ⊥
  are-lawful k job x c b is who of not =
      (keep-promises t is-story
      (λ n job' z name c' u at by. absurd (no-other n z name at by))
      (record {
        to_jobs = λ n z name at by. absurd (no-other n z name at by);
        to_deliveries = λ job' c' of' works delivery n z name at by. absurd (no-other n z name at by);
      })
      job c of (k, record { step = x; at = is; own = who })).lawful k x b is who not

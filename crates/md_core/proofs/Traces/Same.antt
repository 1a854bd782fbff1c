-- A trace shows the run: its steps are what the events did, and its directories and effects those of the machine at each moment.
use Rattle.std.proofs.Common.{ℕ, zero, suc, ◌≡◌, ◌<◌, ◌≤◌, ◌+◌, ◌++◌, List, [], ◌∷◌, Option, Some, None, refl, sym, ap, subst, ◌∙◌, map, length, take, slice_get, arith}
use Rattle.std.proofs.lemmas.List.{append-nil, append_assoc, map-append, take_all, take_at}
use Rattle.std.proofs.lemmas.Option.{slice_get_within, slice_get_past}
use Rattle.md_core.proofs.Values.{State, Task, Effect, ask_of, state_by, Machine, working, Occurrence, job_at, after_event, step_of, step_by, IsRun, filter_map, option_to_list, option_and_then}
use Rattle.md_core.specs.Trace.{Step, Trace, step_at, state_after, state, effects}
use Rattle.md_core.specs.Runs.{Run, beginning, run_from, machine_at, done_at}
use Rattle.md_core.specs.Tracing.{deeds_from, trace_of}
use Rattle.md_core.proofs.Lists.Places.{at_place, get-take, get-pushed, take-one_more}
use Rattle.md_core.proofs.Runs.Events.{goes_on-exact, happens-turned, done-turned}
use Rattle.md_core.proofs.Runs.ByEvent.{at_moment, moment-start, run_from-more_event}

abbrev pub steps_by : Run → List Occurrence → List Step
steps_by r es = deeds_from (beginning r.image r.clock r.calls) es

pub deeds-more : (m : Machine) (es : List Occurrence) (e : Occurrence) →
    deeds_from m (es ++ e ∷ []) ≡ deeds_from m es ++ option_to_list (step_of (run_from m es) e)
unfolding deeds_from run_from
deeds-more m [] e = append-nil (option_to_list (step_of m e))
deeds-more m (x ∷ es) e =
    ap (λ ds. option_to_list (step_of m x) ++ ds) (deeds-more (after_event m x) es e)
    ∙ sym (append_assoc (option_to_list (step_of m x)) (deeds_from (after_event m x) es) (option_to_list (step_of (run_from (after_event m x) es) e)))

-- what more events did comes after what the first did
pub deeds-append : (m : Machine) (es fs : List Occurrence) → deeds_from m (es ++ fs) ≡ deeds_from m es ++ deeds_from (run_from m es) fs
unfolding deeds_from run_from
deeds-append m [] fs = refl
deeds-append m (x ∷ es) fs =
    ap (λ ds. option_to_list (step_of m x) ++ ds) (deeds-append (after_event m x) es fs)
    ∙ sym (append_assoc (option_to_list (step_of m x)) (deeds_from (after_event m x) es) (deeds_from (run_from (after_event m x) es) fs))

pub deeds-none : (m : Machine) → deeds_from m [] ≡ []
unfolding deeds_from
deeds-none m = refl

pub state-none : (s : State) → state_after s [] ≡ s
unfolding state_after
state-none s = refl

pub state-more : (s : State) (xs : List Step) (x : Step) →
    state_after s (xs ++ x ∷ []) ≡ state_by (ask_of x.asked x.at.clock) (state_after s xs) x.reply
unfolding state_after
state-more s [] x = refl
state-more s (y ∷ xs) x = state-more (state_by (ask_of y.asked y.at.clock) s y.reply) xs x

effects-more : (xs : List Step) (x : Step) → filter_map (λ (y : Step). y.effect) (xs ++ x ∷ [])
    ≡ filter_map (λ (y : Step). y.effect) xs ++ option_to_list x.effect
effects-more [] x = by x.effect
  where
    by : (o : Option Effect) → filter_map (λ (y : Step). y.effect) (record x { effect = o } ∷ []) ≡ option_to_list o
    by None = refl
    by (Some e) = refl
effects-more (y ∷ xs) x = by (effects-more xs x) y.effect
  where
    by : filter_map (λ (z : Step). z.effect) (xs ++ x ∷ []) ≡ filter_map (λ (z : Step). z.effect) xs ++ option_to_list x.effect →
        (o : Option Effect) → filter_map (λ (z : Step). z.effect) (record y { effect = o } ∷ (xs ++ x ∷ []))
        ≡ filter_map (λ (z : Step). z.effect) (record y { effect = o } ∷ xs) ++ option_to_list x.effect
    by rest None = rest
    by rest (Some e) = ap (λ es. e ∷ es) rest

module _ (r : Run) (run : IsRun r) where
  -- the steps of some events, and the machine behind them
  pub record Shows (es : List Occurrence) (m : Machine) : Type 0 where
    pub many : length (steps_by r es) ≡ length es
    pub dirs : state_after r.image (steps_by r es) ≡ m.dirs
    pub effects : filter_map (λ (x : Step). x.effect) (steps_by r es) ≡ m.effects
    pub machine : run_from (beginning r.image r.clock r.calls) es ≡ m
    pub jobs : map (λ (x : Step). x.job) (steps_by r es) ≡ map (λ (e : Occurrence). e.event.job) es

  shows-start : Shows [] (beginning r.image r.clock r.calls)
  shows-start =
      let none : steps_by r [] ≡ [] = deeds-none (beginning r.image r.clock r.calls) in
      record {
        many = ap length none;
        dirs = ap (state_after r.image) none ∙ state-none r.image;
        effects = ap (filter_map (λ (x : Step). x.effect)) none;
        machine = moment-start r;
        jobs = ap (map (λ (x : Step). x.job)) none;
      }

  steps-more : (es : List Occurrence) (m : Machine) (e : Occurrence) (task : Task) → job_at m.jobs e.event.job ≡ Some (working task) → Shows es m →
      steps_by r (es ++ e ∷ []) ≡ steps_by r es ++ step_by m e task ∷ []
  steps-more es m e task is h =
      deeds-more (beginning r.image r.clock r.calls) es e
      ∙ ap (λ (x : Machine). deeds_from (beginning r.image r.clock r.calls) es ++ option_to_list (step_of x e)) h.machine
      ∙ ap (λ (o : Option Step). deeds_from (beginning r.image r.clock r.calls) es ++ option_to_list o) (done-turned m e task is)

  length-more : {X : Type 0} (xs : List X) (x : X) → length (xs ++ x ∷ []) ≡ length xs + 1
  length-more [] x = refl
  length-more (y ∷ xs) x = let h = length-more xs x in omega (arith, h)

  shows-more : (es : List Occurrence) (m : Machine) (e : Occurrence) (task : Task) → job_at m.jobs e.event.job ≡ Some (working task) → Shows es m →
      Shows (es ++ e ∷ []) (after_event m e)
  shows-more es m e task is h =
      let x = step_by m e task in
      let more = steps-more es m e task is h in
      record {
        many = ap length more ∙ length-more (steps_by r es) x ∙ ap (λ n. n + 1) h.many ∙ sym (length-more es e);
        dirs = ap (state_after r.image) more ∙ state-more r.image (steps_by r es) x
            ∙ ap (λ (s : State). state_by (ask_of x.asked x.at.clock) s x.reply) h.dirs ∙ ap (λ (y : Machine). y.dirs) (sym (happens-turned m e task is));
        effects = ap (filter_map (λ (y : Step). y.effect)) more ∙ effects-more (steps_by r es) x
            ∙ ap (λ (y : List Effect). y ++ option_to_list x.effect) h.effects ∙ ap (λ (y : Machine). y.effects) (sym (happens-turned m e task is));
        machine = run_from-more_event (beginning r.image r.clock r.calls) es e ∙ ap (λ (y : Machine). after_event y e) h.machine;
        jobs = ap (map (λ (y : Step). y.job)) more ∙ map-append (λ (y : Step). y.job) (steps_by r es) (x ∷ [])
            ∙ ap (λ ns. ns ++ e.event.job ∷ []) h.jobs ∙ sym (map-append (λ (y : Occurrence). y.event.job) es (e ∷ []));
      }

  pub shows-moment : (k : ℕ) → Shows (take k r.events) (machine_at r k)
  shows-moment = at_moment r run Shows shows-start shows-more

  abbrev t : Trace
  t = trace_of r

  pub many-steps : length t.steps ≡ length r.events
  many-steps =
      let all : take (length r.events) r.events ≡ r.events = take_all (length r.events) r.events (omega arith) in
      subst (λ (es : List Occurrence). length (steps_by r es) ≡ length es) all (shows-moment (length r.events)).many

  pub same-jobs : map (λ (x : Step). x.job) t.steps ≡ map (λ (e : Occurrence). e.event.job) r.events
  same-jobs =
      let all : take (length r.events) r.events ≡ r.events = take_all (length r.events) r.events (omega arith) in
      subst (λ (es : List Occurrence). map (λ (x : Step). x.job) (steps_by r es) ≡ map (λ (e : Occurrence). e.event.job) es) all (shows-moment (length r.events)).jobs

  length-take : {X : Type 0} (k : ℕ) (xs : List X) → k ≤ length xs → length (take k xs) ≡ k
  length-take zero xs within = refl
  length-take (suc k) [] within = absurd (omega arith)
  length-take (suc k) (x ∷ xs) within = ap suc (length-take k xs (omega arith))

  take-rest : {X : Type 0} (k : ℕ) (xs : List X) → (ys : List X) × (xs ≡ take k xs ++ ys)
  take-rest zero xs = (xs, refl)
  take-rest (suc k) [] = ([], refl)
  take-rest (suc k) (x ∷ xs) = let h = take-rest k xs in (h.0, ap (λ zs. x ∷ zs) h.1)

  pub first-steps : (k : ℕ) → take k t.steps ≡ steps_by r (take k r.events)
  first-steps k = at_within (λ within.
      let rest = take-rest k r.events in
      let m = beginning r.image r.clock r.calls in
      let split : t.steps ≡ steps_by r (take k r.events) ++ deeds_from (run_from m (take k r.events)) rest.0 =
      ap (λ (es : List Occurrence). steps_by r es) rest.1 ∙ deeds-append m (take k r.events) rest.0 in
      let many : k ≡ length (steps_by r (take k r.events)) = sym ((shows-moment k).many ∙ length-take k r.events within) in
      ap (take k) split ∙ take_at (steps_by r (take k r.events)) (deeds_from (run_from m (take k r.events)) rest.0) k (sym many))
      (λ past. take_all k t.steps (let n = many-steps in omega (arith, n, past)) ∙ ap (λ (es : List Occurrence). steps_by r es) (sym (take_all k r.events past)))
    where
      at_within : {C : Type 0} → (k ≤ length r.events → C) → (length r.events ≤ k → C) → C
      at_within within past = at_place r.events k (λ e at. within (let h = slice_get_within r.events k e at in omega (arith, h))) past

  pub state-same : (k : ℕ) → state t k ≡ (machine_at r k).dirs
  state-same k = ap (state_after r.image) (first-steps k) ∙ (shows-moment k).dirs

  pub effects-same : (k : ℕ) → effects t k ≡ (machine_at r k).effects
  effects-same k = ap (filter_map (λ (x : Step). x.effect)) (first-steps k) ∙ (shows-moment k).effects

  pub step-same : (k : ℕ) → step_at t k ≡ done_at r k
  step-same k = at_place r.events k
      (λ e at.
      let goes = (goes_on-exact (job_at (machine_at r k).jobs e.event.job)).0 (run.taken k e at) in
      let x = step_by (machine_at r k) e goes.0 in
      let within : k < length r.events = slice_get_within r.events k e at in
      let more : take (k + 1) t.steps ≡ steps_by r (take k r.events) ++ x ∷ [] =
      first-steps (k + 1) ∙ ap (λ (es : List Occurrence). steps_by r es) (take-one_more r.events k e at)
      ∙ steps-more (take k r.events) (machine_at r k) e goes.0 goes.1 (shows-moment k) in
      let many : length (steps_by r (take k r.events)) ≡ k = (shows-moment k).many ∙ length-take k r.events (omega (arith, within)) in
      sym (get-take (k + 1) t.steps k (omega arith))
      ∙ ap (λ (xs : List Step). slice_get xs k) more
      ∙ ap (slice_get (steps_by r (take k r.events) ++ x ∷ [])) (sym many)
      ∙ get-pushed (steps_by r (take k r.events)) x
      ∙ sym (ap (option_and_then (step_of (machine_at r k))) at ∙ done-turned (machine_at r k) e goes.0 goes.1))
      (λ past.
      slice_get_past t.steps k (let n = many-steps in omega (arith, n, past))
      ∙ ap (option_and_then (step_of (machine_at r k))) (sym (slice_get_past r.events k past)))

  -- a step is what its event did
  pub step-done : (k : ℕ) (x : Step) → step_at t k ≡ Some x → done_at r k ≡ Some x
  step-done k x at = sym (step-same k) ∙ at

  pub done-step : (k : ℕ) (x : Step) → done_at r k ≡ Some x → step_at t k ≡ Some x
  done-step k x at = step-same k ∙ at

-- A try is over only where another job touched the message since it began: so a call that is lost was touched once for each of its tries.
use Rattle.std.proofs.Common.{ℕ, ◌≡◌, ◌≢◌, ◌≤◌, ◌+◌, ◌⊎◌, inl, inr, List, Some, None, refl, sym, ap, subst, ◌∙◌, length, slice_get, arith}
use Rattle.md_core.proofs.Values.{State, Call, DirReply, Task, Deliver, Errand, Clean, Path, unique_of, names_of, working, Occurrence, job_at, new_job, Run, machine_at, box_in, call_at, IsStepOf, After, IsRun, IsTouched, IsLost, trace_of, get}
use Rattle.md_jobs.specs.declared.call.Call.TheVariants as call
use Rattle.md_core.proofs.Induction.Good.{TaskFits}
use Rattle.md_core.proofs.Answers.LastStep.{IsTurn, reply_in, left_by, is-step, is_within, holds}
use Rattle.md_core.proofs.Answers.Turns.OneMessage.{Trying, idle, looking, acting, trying_of, TriesOn, IsOver}
use Rattle.md_core.proofs.Answers.Turns.EachSays.{TaskSays, UndoesTask, IsClean, is-good, turn-says, fits-at}
use Rattle.md_core.proofs.Answers.Turns.Told.{at-none}
use Rattle.md_core.proofs.Answers.Touches.Paths.{IsListed, path-listed, listed-path}
use Rattle.md_core.proofs.Answers.Touches.Counted.{touches, touches-between, touches-rise, touched-or_not}
use Rattle.md_core.proofs.Machines.Errand.Table.Calls.{call_by, sought, tries_in, IfWorking, new-task}
use Rattle.md_core.proofs.Machines.Errand.Table.Rows.{no-delivery, no-clean}

-- Since a step of the job the name was touched so often that with the tries that are left these are at least so many.
record Since (r : Run) (job : ℕ) (u : List ℕ) (all left k : ℕ) : Type 0 where
  from : ℕ
  begun : IsStepOf (trace_of r) job from
  before : from ≤ k
  enough : touches r job u from + all ≤ touches r job u k + left

-- Where a job is with its tries at a moment: it has not begun, or each try that is over was touched; and where it acts, its path is there,
-- or this try was touched too.
abbrev IsTrying : Run → ℕ → List ℕ → ℕ → ℕ → Trying → Type 0
IsTrying r job u all k idle = Unit {0}
IsTrying r job u all k (looking tries) = (tries ≡ all) ⊎ Since r job u all tries k
IsTrying r job u all k (acting p tries) =
    (unique_of p.name ≡ u) × ((Since r job u all tries k × IsListed (machine_at r k).dirs p) ⊎ Since r job u (all + 1) tries k)

abbrev Tries : Run → ℕ → ℕ → Task → Type 0
Tries r k job task = (c : Call) → call_at r.calls job ≡ Some c → IsTrying r job (sought c) (tries_in c) k (trying_of task)

module _ (r : Run) (run : IsRun r) (job : ℕ) (u : List ℕ) (all : ℕ) where
  -- what was touched stays so
  since-later : (n left k : ℕ) → Since r job u n left k → Since r job u n left (k + 1)
  since-later n left k h = record {
    from = h.from;
    begun = h.begun;
    before = (let b = h.before in omega (arith, b));
    enough = (let more = touches-rise r run job u k (k + 1) (omega arith) in let e = h.enough in omega (arith, more, e));
  }

  -- a turn of the job
  module _ (k : ℕ) (step : IsStepOf (trace_of r) job k) where
    -- the first step of a job, or a later one
    since-step : (tries : ℕ) → (tries ≡ all) ⊎ Since r job u all tries k → Since r job u all tries (k + 1)
    since-step tries (inl is) = record {
      from = k;
      begun = step;
      before = omega arith;
      enough = (let more = touches-rise r run job u k (k + 1) (omega arith) in omega (arith, more, is));
    }
    since-step tries (inr h) = since-later all tries k h

    turn-tries : (before next : Trying) → TriesOn (machine_at r k).dirs (machine_at r (k + 1)).dirs u before next →
        IsTrying r job u all k before → IsTrying r job u all (k + 1) next
    turn-tries idle next on was = absurd on
    turn-tries (looking tries) idle on was = absurd on
    turn-tries (looking tries) (looking left) on was =
        subst (λ n. (n ≡ all) ⊎ Since r job u all n (k + 1)) (sym on) (inr (since-step tries was))
    turn-tries (looking tries) (acting p left) on was = (
      on.1.unique,
      inl (
        subst (λ n. Since r job u all n (k + 1)) (sym on.0) (since-step tries was),
        path-listed (machine_at r (k + 1)).dirs u p (is-good r run (k + 1)).one_path on.1,
      ),
    )
    turn-tries (acting p tries) idle on was = absurd on
    turn-tries (acting p tries) (looking left) on was = elim was.1 [
      | inl there ↦ let at = listed-path (machine_at r k).dirs p there.1 in let gone = on.1 in let is = at.1 in cc
      | inr touched ↦ inr (record {
        from = touched.from;
        begun = touched.begun;
        before = (let b = touched.before in omega (arith, b));
        enough =
            (let more = touches-rise r run job u k (k + 1) (omega arith) in
            let e = touched.enough in
            let one = on.0 in
            omega (arith, more, e, one));
      })
    ]
    turn-tries (acting p tries) (acting q left) on was = absurd on

  -- an event of another job
  module _ (k : ℕ) (e : Occurrence) (at : slice_get r.events k ≡ Some e) (differ : job ≢ e.event.job) where
    since-touched : (tries : ℕ) → Since r job u all tries k → touches r job u (k + 1) ≡ touches r job u k + 1 →
        Since r job u (all + 1) tries (k + 1)
    since-touched tries h one = record {
      from = h.from;
      begun = h.begun;
      before = (let b = h.before in omega (arith, b));
      enough = (let e = h.enough in omega (arith, one, e));
    }

    still-listed : (p : Path) → unique_of p.name ≡ u → get (names_of (box_in (machine_at r (k + 1)))) u ≡ get (names_of (box_in (machine_at r k))) u →
        IsListed (machine_at r k).dirs p → IsListed (machine_at r (k + 1)).dirs p
    still-listed p is same h =
        record {
          size = h.size;
          at = ap (get (names_of (box_in (machine_at r (k + 1))))) is ∙ same
              ∙ ap (get (names_of (box_in (machine_at r k)))) (sym is) ∙ h.at;
        }

    other-tries : (now : Trying) → IsTrying r job u all k now → IsTrying r job u all (k + 1) now
    other-tries idle was = tt
    other-tries (looking tries) (inl is) = inl is
    other-tries (looking tries) (inr h) = inr (since-later all tries k h)
    other-tries (acting p tries) was = (
      was.0,
      elim was.1 [
        | inl there ↦ elim (touched-or_not r run k e at job differ u) [
          | inl one ↦ inr (since-touched tries there.0 one)
          | inr same ↦ inl (since-later all tries k there.0, still-listed p was.0 same there.1)
        ]
        | inr touched ↦ inr (since-later (all + 1) tries k touched)
      ],
    )

  -- a job whose last try is over
  over-touched : (k : ℕ) → IsStepOf (trace_of r) job k → (now : Trying) → IsOver (machine_at r k).dirs now → IsTrying r job u all k now →
      IsTouched (trace_of r) job u all
  over-touched k step idle over was = absurd over
  over-touched k step (looking tries) over was = absurd over
  over-touched k step (acting p tries) over was = elim was.1 [
    | inl there ↦ let at = listed-path (machine_at r k).dirs p there.1 in let gone = over.1 in let is = at.1 in cc
    | inr touched ↦ record {
      from = touched.from;
      to = k;
      begun = touched.begun;
      goes_on = step;
      touched =
          (let more = touches-rise r run job u k (k + 1) (omega arith) in
          let b = touched.before in
          let between = touches-between r run job u touched.from (k + 1) (omega (arith, b)) in
          let e = touched.enough in
          let few = over.0 in
          omega (arith, more, between, e, few));
    }
  ]

-- ---- at each moment

new-tries : (r : Run) (job : ℕ) (c : Call) → IfWorking (λ task. IsTrying r job (sought c) (tries_in c) 0 (trying_of task)) (new_job c)
new-tries r job (call.Deliver folder u body chunk) = tt
new-tries r job (call.Clean folder) = tt
new-tries r job c = inl refl

module _ (r : Run) (run : IsRun r) where
  -- a delivery and a clean go on with no tries
  undoing-tries : (job : ℕ) (u : List ℕ) (all k : ℕ) (given : DirReply) (task : Task) → UndoesTask given task →
      IsTrying r job u all k (trying_of task)
  undoing-tries job u all k given (Deliver d) h = tt
  undoing-tries job u all k given task h = absurd h

  clean-tries : (job : ℕ) (u : List ℕ) (all k : ℕ) (task : Task) → IsClean task → IsTrying r job u all k (trying_of task)
  clean-tries job u all k (Clean c) h = tt
  clean-tries job u all k task h = absurd h

  tries-on : (k job : ℕ) (c : Call) (step : IsStepOf (trace_of r) job k) (task : Task) (given : DirReply) (after : After Task) →
      TaskSays (machine_at r k).dirs (machine_at r (k + 1)).dirs c given task after →
      after.answer ≡ None → IsTrying r job (sought c) (tries_in c) k (trying_of task) →
      IsTrying r job (sought c) (tries_in c) (k + 1) (trying_of after.task)
  tries-on k job c step (Deliver d) given after says none was =
      undoing-tries job (sought c) (tries_in c) (k + 1) given after.task (at-none after.answer _ _ none says)
  tries-on k job c step (Errand e) given after says none was =
      turn-tries r run job (sought c) (tries_in c) k step (trying_of (Errand e)) (trying_of after.task)
      (at-none after.answer _ _ none says).tries was
  tries-on k job c step (Clean x) given after says none was =
      clean-tries job (sought c) (tries_in c) (k + 1) after.task (at-none after.answer _ _ none says)

  tries-at : (k job : ℕ) (task : Task) → k ≤ length r.events → job_at (machine_at r k).jobs job ≡ Some (working task) → Tries r k job task
  tries-at = holds r run (Tries r)
      (λ job c task of new c' of'.
      let same : c ≡ c' = (let e : Some c ≡ Some c' = sym of ∙ of' in cc) in
      subst (λ (x : Call). IsTrying r job (sought x) (tries_in x) 0 (trying_of task)) same
      (new-task (λ task. IsTrying r job (sought c) (tries_in c) 0 (trying_of task)) c task (new-tries r job c) new))
      (λ k job t none was c of.
      tries-on k job c (is-step r run k job t) t.task (reply_in (machine_at r k) t.event t.task) (left_by r k job t)
      (turn-says r run k job c of t) none (was c of))
      (λ k job task e at differ there was c of. other-tries r run job (sought c) (tries_in c) k e at differ (trying_of task) (was c of))

  -- a touched call of a task that has tries is lost
  lost-call : (s : State) (job : ℕ) (c : Call) (task : Task) → TaskFits s c task → IsOver s (trying_of task) →
      IsTouched (trace_of r) job (sought c) (tries_in c) → IsLost (trace_of r) job c
  lost-call s job c (Deliver d) fits over touched = absurd over
  lost-call s job c (Errand e) fits over touched = by c fits.of touched
    where
      by : (x : Call) → x ≡ call_by e.folder e.unique e.purpose fits.tries → IsTouched (trace_of r) job (sought x) (tries_in x) → IsLost (trace_of r) job x
      by (call.Deliver folder u body chunk) is h = absurd (no-delivery e.purpose e.folder e.unique fits.tries folder u body chunk is)
      by (call.Clean folder) is h = absurd (no-clean e.purpose e.folder e.unique fits.tries folder is)
      by x is h = h
  lost-call s job c (Clean x) fits over touched = absurd over

  -- a job that ends with its last try
  pub says-lost : (k job : ℕ) (c : Call) → call_at r.calls job ≡ Some c → (t : IsTurn r k job) →
      IsOver (machine_at r k).dirs (trying_of t.task) → IsLost (trace_of r) job c
  says-lost k job c of t over =
      let within = is_within r k job t in
      lost-call (machine_at r k).dirs job c t.task (fits-at r run k job c of t.task t.there) over
      (over-touched r run job (sought c) (tries_in c) k (is-step r run k job t) (trying_of t.task) over
      (tries-at k job t.task (omega (arith, within)) t.there c of))

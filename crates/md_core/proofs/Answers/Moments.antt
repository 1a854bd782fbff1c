-- Runs by the numbers of their moments: what a turn finds and leaves, and what holds at each moment by induction.
use Rattle.std.proofs.Common.{ℕ, zero, suc, ◌≡◌, ◌≢◌, ◌≤◌, ◌+◌, ◌-◌, List, [], ◌∷◌, Some, None, Bool, true, false, cond, not, ◌==◌, sym, ap, subst, ◌∙◌, length, slice_get, arith}
use Rattle.std.proofs.lemmas.Bool.Decides.{nat_tests}
use Rattle.std.proofs.lemmas.Option.{slice_get_within, slice_get_past}
use Rattle.md_core.proofs.Values.{IsSound, Call, DirReply, Moment, Task, Asked, ask_of, state_by, After, rows_for, Machine, Standing, working, Occurrence, step_of, job_at, moment_of, turn_of, after_turn, Step, call_at, IsStepOf, Run, machine_at, done_at, first_step, IsRun, MakesMessage, trace_of, position_or_len, option_and_then}
use Rattle.md_dirs.proofs.Sound.{by_number}
use Rattle.md_core.proofs.Induction.Good.{IsGood, TaskFits}
use Rattle.md_core.proofs.Machines.EachTurn.{each-turn}
use Rattle.md_core.proofs.Runs.Events.{happens-turned}
use Rattle.md_core.proofs.Induction.Going.{AllApart}
use Rattle.md_core.proofs.Induction.GoodRuns.{good-moment}
use Rattle.md_core.proofs.Lists.Places.{at_place}
use Rattle.md_core.proofs.Runs.ByEvent.{moment-more, moment-over}
use Rattle.md_core.proofs.Answers.LastStep.{IsTurn, turn_by, reply_in, done_in, done-in, turn-at}
use Rattle.md_core.proofs.Traces.Same.{done-step}

-- a job that works has its call, which its task fits
call-there : (calls : List Call) (m : Machine) (n : ℕ) (job : Standing) → IsGood calls m → job_at m.jobs n ≡ Some job →
    (asked : Call) × (call_at calls n ≡ Some asked)
call-there calls m zero job good is = cc
call-there calls m (suc i) job good is = at_place calls i
    (λ asked of. (asked, of))
    (λ past. absurd (let within = slice_get_within m.jobs i job is in let same = good.as_many in omega arith))

fits-there : (calls : List Call) (m : Machine) (n : ℕ) (asked : Call) (task : Task) → IsGood calls m → call_at calls n ≡ Some asked →
    job_at m.jobs n ≡ Some (working task) → TaskFits m.dirs asked task
fits-there calls m zero asked task good of is = cc
fits-there calls m (suc i) asked task good of is = good.fits i asked task of is

module _ (r : Run) (run : IsRun r) (k : ℕ) where
  good-now : IsGood r.calls (machine_at r k)
  good-now = good-moment r run each-turn k

  pub its-call : (n : ℕ) (job : Standing) → job_at (machine_at r k).jobs n ≡ Some job → (asked : Call) × (call_at r.calls n ≡ Some asked)
  its-call n job is = call-there r.calls (machine_at r k) n job good-now is

  pub its-fits : (n : ℕ) (asked : Call) (task : Task) → call_at r.calls n ≡ Some asked →
      job_at (machine_at r k).jobs n ≡ Some (working task) → TaskFits (machine_at r k).dirs asked task
  its-fits n asked task of is = fits-there r.calls (machine_at r k) n asked task good-now of is

  pub sound-now : IsSound (machine_at r k).dirs
  sound-now = good-now.sound

-- what a turn leaves
module _ (r : Run) (k n : ℕ) (t : IsTurn r k n) where
  abbrev pub at : Moment
  at = moment_of (machine_at r k).clock t.event.event

  -- what a task would ask at this event, and how it would stand after a reply
  abbrev pub asked_by : Task → Asked
  asked_by task = (turn_of t.event.event.job task at).asked

  abbrev pub after_task : Task → DirReply → After Task
  after_task task rep = (turn_of t.event.event.job task at).follows rep (rows_for (asked_by task) (machine_at r k).dirs)

  next-machine : machine_at r (k + 1) ≡ after_turn (machine_at r k) t.event.event.job at (turn_by (machine_at r k) t.event t.task)
      (reply_in (machine_at r k) t.event t.task)
  next-machine = moment-more r k t.event t.at ∙ happens-turned (machine_at r k) t.event t.task (ap (job_at (machine_at r k).jobs) t.own ∙ t.there)

  pub next-dirs : (machine_at r (k + 1)).dirs ≡ state_by (ask_of (turn_by (machine_at r k) t.event t.task).asked at.clock) (machine_at r k).dirs
      (reply_in (machine_at r k) t.event t.task)
  next-dirs = ap (λ (m : Machine). m.dirs) next-machine

  pub next-clock : (machine_at r (k + 1)).clock ≡ at.clock
  next-clock = ap (λ (m : Machine). m.clock) next-machine

  pub clock-grows : (machine_at r k).clock ≤ at.clock
  clock-grows = omega arith

-- what an event did is what the turn of its job did
pub turn-done : (r : Run) → IsRun r → (k : ℕ) (what : Step) → done_at r k ≡ Some what →
    (n : ℕ) × (t : IsTurn r k n) × (what ≡ done_in r k n t)
turn-done r run k what is = at_place r.events k
    (λ e at.
    let t = turn-at r run k e at in
    (e.event.job, t, (let same : Some what ≡ Some (done_in r k e.event.job t) = sym is ∙ done-in r k e.event.job t in cc)))
    (λ past. let none : done_at r k ≡ None = ap (option_and_then (step_of (machine_at r k))) (slice_get_past r.events k past) in cc)

-- the clock never goes back
clock-next : (r : Run) → IsRun r → (k : ℕ) → (machine_at r k).clock ≤ (machine_at r (k + 1)).clock
clock-next r run k = at_place r.events k
    (λ e at.
    let t = turn-at r run k e at in
    let now = next-clock r k e.event.job t in
    let grows = clock-grows r k e.event.job t in
    omega (arith, now, grows))
    (λ past. let same = ap (λ (m : Machine). m.clock) (moment-over r k past) in omega (arith, same))

clock-behind : (r : Run) → IsRun r → (i d : ℕ) → (machine_at r i).clock ≤ (machine_at r (i + d)).clock
clock-behind r run i zero = let e : i ≡ i + 0 = omega arith in subst (λ (n : ℕ). (machine_at r i).clock ≤ (machine_at r n).clock) e (omega arith)
clock-behind r run i (suc d) =
    let e : (i + d) + 1 ≡ i + suc d = omega arith in
    let before = clock-behind r run i d in
    let next = clock-next r run (i + d) in
    subst (λ (n : ℕ). (machine_at r i).clock ≤ (machine_at r n).clock) e (omega (arith, before, next))

pub clock-later : (r : Run) → IsRun r → (i k : ℕ) → i ≤ k → (machine_at r i).clock ≤ (machine_at r k).clock
clock-later r run i k before =
    let e : i + (k - i) ≡ k = omega (arith, before) in
    subst (λ (n : ℕ). (machine_at r i).clock ≤ (machine_at r n).clock) e (clock-behind r run i (k - i))

-- What holds at the beginning, and is kept by each turn, holds at each moment.
module _ (r : Run) (run : IsRun r) (P : ℕ → Type 0) (start : P 0) (step : (k n : ℕ) → IsTurn r k n → P k → P (k + 1)) where
  pub each-moment : (k : ℕ) → k ≤ length r.events → P k
  each-moment zero within = start
  each-moment (suc k) within =
      let e1 : k + 1 ≡ suc k = omega arith in
      subst P e1 (at_place r.events k
      (λ e at. step k e.event.job (turn-at r run k e at) (each-moment k (omega arith)))
      (λ past. absurd (omega arith)))

-- two jobs whose calls make one name are one
pub one-maker : (calls : List Call) → AllApart calls → (i j : ℕ) (a b : Call) (u : List ℕ) → call_at calls i ≡ Some a →
    call_at calls j ≡ Some b → MakesMessage a u → MakesMessage b u → i ≡ j
one-maker calls apart zero j a b u ata atb ma mb = cc
one-maker calls apart (suc i) zero a b u ata atb ma mb = cc
one-maker calls apart (suc i) (suc j) a b u ata atb ma mb =
    by_number i j (λ same. ap suc same) (λ differ. absurd (apart i j a b differ ata atb u ma mb))

-- the first of a kind in a list, where none came before a place
module _ {X : Type 0} (p : X → Bool) where
  first-later : (xs : List X) (k : ℕ) (x : X) → slice_get xs k ≡ Some x → p x ≡ false → k ≤ position_or_len p xs →
      k + 1 ≤ position_or_len p xs
  first-later [] k x is not_this below = cc
  first-later (z ∷ zs) zero x is not_this below =
      let same : z ≡ x = cc in
      let none : p z ≡ false = ap p same ∙ not_this in
      subst (λ (b : Bool). 0 + 1 ≤ cond (not b) (1 + position_or_len p zs) 0) (sym none) (omega arith)
  first-later (z ∷ zs) (suc k) x is not_this below = by (p z) (first-later zs k x is not_this) below
    where
      by : (b : Bool) → (k ≤ position_or_len p zs → k + 1 ≤ position_or_len p zs) → suc k ≤ cond (not b) (1 + position_or_len p zs) 0 →
          suc k + 1 ≤ cond (not b) (1 + position_or_len p zs) 0
      by true rest h = absurd (omega arith)
      by false rest h = let more = rest (omega arith) in omega (arith, more)

  first-now : (xs : List X) (k : ℕ) (x : X) → slice_get xs k ≡ Some x → p x ≡ true → k ≤ position_or_len p xs → position_or_len p xs ≡ k
  first-now [] k x is this below = cc
  first-now (z ∷ zs) zero x is this below =
      let same : z ≡ x = cc in
      ap (λ (b : Bool). cond (not b) (1 + position_or_len p zs) 0) (ap p same ∙ this)
  first-now (z ∷ zs) (suc k) x is this below = by (p z) (first-now zs k x is this) below
    where
      by : (b : Bool) → (k ≤ position_or_len p zs → position_or_len p zs ≡ k) → suc k ≤ cond (not b) (1 + position_or_len p zs) 0 →
          cond (not b) (1 + position_or_len p zs) 0 ≡ suc k
      by true rest h = absurd (omega arith)
      by false rest h = let more = rest (omega arith) in omega (arith, more)

-- where a job has taken no step before this event, it is its first, or another's
module _ (r : Run) (k n j : ℕ) (t : IsTurn r k n) (none : k ≤ first_step r j) where
  pub not-yet : j ≢ n → k + 1 ≤ first_step r j
  not-yet differ =
      let its = t.own in
      let not_this : (t.event.event.job == j) ≡ false = grind (arith, nat_tests) in
      first-later (λ (e : Occurrence). e.event.job == j) r.events k t.event t.at not_this none

  pub is-first : j ≡ n → first_step r j ≡ k
  is-first same =
      let its = t.own in
      let this : (t.event.event.job == j) ≡ true = grind (arith, nat_tests) in
      first-now (λ (e : Occurrence). e.event.job == j) r.events k t.event t.at this none

  abbrev pub first-is : IsRun r → j ≡ n → IsStepOf (trace_of r) j (first_step r j)
  first-is run same = record {
    step = done_in r k n t;
    at = done-step r run (first_step r j) (done_in r k n t) (ap (done_at r) (is-first same) ∙ done-in r k n t);
    own = t.own ∙ sym same;
  }

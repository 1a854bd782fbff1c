-- The steps of a job and those left are never more than at its first step, and each step leaves less.
use Rattle.std.proofs.Common.{ℕ, zero, suc, ◌≡◌, ◌≢◌, ◌<◌, ◌≤◌, ◌+◌, ◌++◌, ◌⊎◌, inl, inr, List, [], ◌∷◌, Option, Some, None, true, false, cond, MatchOption, refl, ◌↔◌, sym, ap, subst, ◌∙◌, length, take, slice_get, arith, ◌==◌}
use Rattle.std.specs.Prelude.{count_by}
use Rattle.std.proofs.lemmas.Bool.Decides.{nat_tests}
use Rattle.std.proofs.lemmas.List.{take_all, take-append-le}
use Rattle.std.proofs.lemmas.List.Sums.{sum_by-append}
use Rattle.md_core.proofs.Values.{State, Call, Task, Deliver, Errand, Clean, Answer, Step, call_at, Run, beginning, run_from, machine_of, dirs_of, jobs_of, and_event, step_refusal, dirs_at_first, IsRun, position_or_len, searches}
use Rattle.md_jobs.specs.Tasks.Cleaning as cleaning
use Rattle.md_jobs.specs.Machines.Clean as cleaned_by
use Rattle.md_core.specs.Machine.{Machine, Standing, working, Occurrence, job_at, steps_left, standing_of, new_job, after_event, step_by}
use Rattle.md_core.specs.Runs as runs
use Rattle.md_core.proofs.Theorem.RunLaw.{steps_of}
use Rattle.md_core.proofs.Induction.Good.{EachTurn, IsGood, IsFixed}
use Rattle.md_core.proofs.Runs.Events.{goes_on-exact}
use Rattle.md_core.proofs.Induction.Keeping.{good-kept}
use Rattle.md_core.proofs.Lists.Places.{none-of_kind, some-of_kind, first-of_kind}
use Rattle.md_core.proofs.Runs.ByEvent.{at_last, machine-and_event, run_from-none, run_from-more_event}
use Rattle.md_core.proofs.Induction.Going.{Goes, goes, goes-cases, goes-here, goes-others}
use Rattle.md_core.proofs.Induction.GoodRuns.{new_at, all-apart, good-beginning, good-machine}
use Rattle.md_jobs.proofs.Replies.{errand-left, delivery-left}

-- a turn leaves less to its job
pub nearer : (calls : List Call) (m m' : Machine) (what : Step) (g : Goes calls m m' what) →
    steps_left m'.dirs (Some (standing_of g.task' what.answer)) < steps_left m.dirs (Some (working g.task))
nearer calls m m' what g = by what.answer g.does.nearer
  where
    by : (a : Option Answer) → MatchOption a (steps_left m'.dirs (Some (working g.task')) < steps_left m.dirs (Some (working g.task))) (λ _. 0 < steps_left m.dirs (Some (working g.task))) →
        steps_left m'.dirs (Some (standing_of g.task' a)) < steps_left m.dirs (Some (working g.task))
    by None less = less
    by (Some a) some = some

-- how many steps are left to a job, whatever others do to the directories
abbrev StaysFixed : Standing → Type 0
StaysFixed job = (s s' : State) → steps_left s (Some job) ≡ steps_left s' (Some job)

-- a job that took its turn
fixed-then : (calls : List Call) (m m' : Machine) (what : Step) (g : Goes calls m m' what) → StaysFixed (standing_of g.task' what.answer)
fixed-then calls m m' what g = by what.answer g.does.fixed
  where
    by : (a : Option Answer) → (a ≡ None → IsFixed g.task') → StaysFixed (standing_of g.task' a)
    by None fixed = fixed refl
    by (Some a) fixed = λ s s'. refl

-- something is left to each task
pub steps_left-some : (s : State) (task : Task) → 0 < steps_left s (Some (working task))
steps_left-some s (Deliver d) = delivery-left d d.stage
steps_left-some s (Errand e) = errand-left (searches e.purpose) e.stage
steps_left-some s (Clean c) = by c.stage
  where
    by : (stage : cleaning.Stage) → 0 < cleaned_by.steps_left s c.folder stage
    by cleaning.Look = omega arith
    by (cleaning.Remove name rest files) = omega arith

-- a step is refused exactly where nothing is left
pub steps_left-exact : (s : State) (o : Option Standing) → (step_refusal o ≡ None) ↔ (0 < steps_left s o)
steps_left-exact s (Some (working task)) = (λ h. steps_left-some s task, λ h. refl)
steps_left-exact s other = (λ h. cc, λ h. absurd (omega arith))

-- how many events are of a job, with one more
abbrev of_job : ℕ → List Occurrence → ℕ
of_job number es = count_by (λ (e : Occurrence). e.event.job == number) es

of_job-same : (number : ℕ) (es : List Occurrence) (e : Occurrence) → e.event.job ≡ number → of_job number (es ++ e ∷ []) ≡ of_job number es + 1
of_job-same number es e is =
    let yes : (e.event.job == number) ≡ true = grind (arith, nat_tests) in
    let one : cond {A = ℕ} (e.event.job == number) 1 0 ≡ 1 = ap (λ b. cond b 1 0) yes in
    let split = sum_by-append (λ (x : Occurrence). cond (x.event.job == number) 1 0) es (e ∷ []) in
    omega (arith, one, split)

of_job-other : (number : ℕ) (es : List Occurrence) (e : Occurrence) → e.event.job ≢ number → of_job number (es ++ e ∷ []) ≡ of_job number es
of_job-other number es e differ =
    let no : (e.event.job == number) ≡ false = grind (arith, nat_tests) in
    let none : cond {A = ℕ} (e.event.job == number) 1 0 ≡ 0 = ap (λ b. cond b 1 0) no in
    let split = sum_by-append (λ (x : Occurrence). cond (x.event.job == number) 1 0) es (e ∷ []) in
    omega (arith, none, split)

-- the directories before the first of these events that is of a job, or behind all of them
module _ (r : Run) where
  abbrev from : Machine
  from = beginning r.image r.clock r.calls

  abbrev at_first : ℕ → List Occurrence → State
  at_first number es = dirs_at_first (record r { events = es }) number

  first-none : (number : ℕ) (es : List Occurrence) → of_job number es ≡ 0 → at_first number es ≡ (run_from from es).dirs
  first-none number es none = ap (λ (fs : List Occurrence). (run_from from fs).dirs)
      (ap (λ n. take n es) (none-of_kind (λ (e : Occurrence). e.event.job == number) es none) ∙ take_all (length es) es (omega arith))

  first-own : (number : ℕ) (es : List Occurrence) (e : Occurrence) → of_job number es ≡ 0 → e.event.job ≡ number →
      at_first number (es ++ e ∷ []) ≡ (run_from from es).dirs
  first-own number es e none is =
      let yes : (e.event.job == number) ≡ true = grind (arith, nat_tests) in
      ap (λ (fs : List Occurrence). (run_from from fs).dirs)
      (ap (λ n. take n (es ++ e ∷ [])) (first-of_kind (λ (e : Occurrence). e.event.job == number) es e none yes)
      ∙ take-append-le (length es) es (e ∷ []) (omega arith) ∙ take_all (length es) es (omega arith))

  first-kept : (number : ℕ) (es : List Occurrence) (e : Occurrence) → 0 < of_job number es → at_first number (es ++ e ∷ []) ≡ at_first number es
  first-kept number es e some =
      let k = some-of_kind (λ (e : Occurrence). e.event.job == number) es e some in
      ap (λ (fs : List Occurrence). (run_from from fs).dirs)
      (ap (λ n. take n (es ++ e ∷ [])) k.0 ∙ take-append-le (position_or_len (λ (e : Occurrence). e.event.job == number) es) es (e ∷ []) k.1)

  -- a job that has taken no step is new
  abbrev IsNew : List Occurrence → ℕ → Standing → Call → Type 0
  IsNew es number job asked = (of_job number es ≡ 0) × (job ≡ new_job asked)

  -- and one that has is bound by the directories before its first, and is fixed
  record IsBegun (es : List Occurrence) (m : Machine) (number : ℕ) (job : Standing) (asked : Call) : Type 0 where
    some : 0 < of_job number es
    fixed : StaysFixed job
    bounded : of_job number es + steps_left m.dirs (Some job) ≤ steps_left (at_first number es) (Some (new_job asked))

  abbrev Bounded : List Occurrence → Machine → Type 0
  Bounded es m = (j : ℕ) (job : Standing) (asked : Call) → slice_get m.jobs j ≡ Some job → slice_get r.calls j ≡ Some asked →
      IsNew es (suc j) job asked ⊎ IsBegun es m (suc j) job asked

  bounded-start : Bounded [] from
  bounded-start j job asked at of =
      let new = new_at r.calls j job at in
      let is : new.0 ≡ asked = (let e : Some new.0 ≡ Some asked = sym new.1 ∙ of in cc) in
      inl (refl, new.2 ∙ ap new_job is)

  module _ (es : List Occurrence) (m m' : Machine) (e : Occurrence) (what : Step) (is_job : what.job ≡ e.event.job) (now : m ≡ run_from from es)
      (g : Goes r.calls m m' what) where
    -- the job that took its turn
    own-more : (j : ℕ) (job : Standing) (asked : Call) → suc j ≡ e.event.job → job ≡ standing_of g.task' what.answer →
        IsNew es (suc j) (working g.task) asked ⊎ IsBegun es m (suc j) (working g.task) asked → IsBegun (es ++ e ∷ []) m' (suc j) job asked
    own-more j job asked number is before =
        let count = of_job-same (suc j) es e (sym number) in
        let less = nearer r.calls m m' what g in
        let left : steps_left m'.dirs (Some job) ≡ steps_left m'.dirs (Some (standing_of g.task' what.answer)) = ap (λ (x : Standing). steps_left m'.dirs (Some x)) is in
        record {
          some = omega (arith, count);
          fixed = subst StaysFixed (sym is) (fixed-then r.calls m m' what g);
          bounded = elim before [
            | inl new ↦
                let whole : steps_left m.dirs (Some (working g.task)) ≡ steps_left m.dirs (Some (new_job asked)) = ap (λ (x : Standing). steps_left m.dirs (Some x)) new.1 in
                let at : at_first (suc j) (es ++ e ∷ []) ≡ m.dirs = first-own (suc j) es e new.0 (sym number) ∙ ap (λ (x : Machine). x.dirs) (sym now) in
                let same : steps_left (at_first (suc j) (es ++ e ∷ [])) (Some (new_job asked)) ≡ steps_left m.dirs (Some (new_job asked)) =
                ap (λ (s : State). steps_left s (Some (new_job asked))) at in
                let none = new.0 in
                omega (arith, count, less, left, whole, same, none)
            | inr begun ↦
                let same : steps_left (at_first (suc j) (es ++ e ∷ [])) (Some (new_job asked)) ≡ steps_left (at_first (suc j) es) (Some (new_job asked)) =
                ap (λ (s : State). steps_left s (Some (new_job asked))) (first-kept (suc j) es e begun.some) in
                let bound = begun.bounded in
                omega (arith, count, less, left, same, bound)
          ];
        }

    -- another
    other-more : (j : ℕ) (job : Standing) (asked : Call) → suc j ≢ e.event.job → IsNew es (suc j) job asked ⊎ IsBegun es m (suc j) job asked →
        IsNew (es ++ e ∷ []) (suc j) job asked ⊎ IsBegun (es ++ e ∷ []) m' (suc j) job asked
    other-more j job asked differ before =
        let count = of_job-other (suc j) es e (λ is. differ (sym is)) in
        elim before [
          | inl new ↦ inl (count ∙ new.0, new.1)
          | inr begun ↦
              let some = begun.some in
              let bound = begun.bounded in
              let left = begun.fixed m'.dirs m.dirs in
              let same : steps_left (at_first (suc j) (es ++ e ∷ [])) (Some (new_job asked)) ≡ steps_left (at_first (suc j) es) (Some (new_job asked)) =
              ap (λ (s : State). steps_left s (Some (new_job asked))) (first-kept (suc j) es e some) in
              inr (record { some = omega (arith, count, some); fixed = begun.fixed; bounded = omega (arith, count, bound, left, same) })
        ]

    bounded-more : Bounded es m → Bounded (es ++ e ∷ []) m'
    bounded-more bounded j job asked at of = goes-cases r.calls m m' what g j job at
        (λ same is. inr (own-more j job asked (ap suc same ∙ sym g.number_is ∙
        is_job) is (bounded j (working g.task) asked (ap (slice_get m.jobs) same ∙ g.there) of)))
        (λ differ was. other-more j job asked (λ is. differ (let h : suc g.place ≡ suc j = sym g.number_is ∙ is_job ∙ sym is in omega arith))
        (bounded j job asked was of))

module _ (r : Run) (run : IsRun r) (turns : EachTurn) where
  -- all is good and bounded behind these events
  record IsThere (es : List Occurrence) (m : Machine) : Type 0 where
    now : m ≡ run_from (beginning r.image r.clock r.calls) es
    good : IsGood r.calls m
    bounded : Bounded r es m

  there-more : (es : List Occurrence) (m : Machine) (e : Occurrence) (task : Task) → job_at m.jobs e.event.job ≡ Some (working task) → IsThere es m →
      IsThere (es ++ e ∷ []) (after_event m e)
  there-more es m e task at was =
      let g = goes turns r.calls m e task was.good at in
      record {
        now = ap (λ (x : Machine). after_event x e) was.now ∙ sym (run_from-more_event (beginning r.image r.clock r.calls) es e);
        good = good-kept r.calls (all-apart r run) m (after_event m e) (step_by m e task) g was.good;
        bounded = bounded-more r es m (after_event m e) e (step_by m e task) refl was.now g was.bounded;
      }

  there : IsThere r.events (machine_of r)
  there = at_last r run IsThere (record {
    now = sym (run_from-none (beginning r.image r.clock r.calls));
    good = good-beginning r run;
    bounded = bounded-start r;
  }) there-more

  pub bounded-machine : (number : ℕ) (asked : Call) (job : Standing) → call_at r.calls number ≡ Some asked → job_at (jobs_of r) number ≡ Some job →
      steps_of r number + steps_left (dirs_of r) (Some job) ≤ steps_left (dirs_at_first r number) (Some (new_job asked))
  bounded-machine zero asked job from at = cc
  bounded-machine (suc j) asked job from at = elim (there.bounded j job asked at from) [
    | inl new ↦
        let none = new.0 in
        let left : steps_left (dirs_of r) (Some job) ≡ steps_left (dirs_of r) (Some (new_job asked)) = ap (λ (x : Standing). steps_left (dirs_of r) (Some x)) new.1 in
        let same : steps_left (dirs_at_first r (suc j)) (Some (new_job asked)) ≡ steps_left (dirs_of r) (Some (new_job asked)) =
        ap (λ (s : State). steps_left s (Some (new_job asked))) (first-none r (suc j) r.events none) in
        omega (arith, none, left, same)
    | inr begun ↦ begun.bounded
  ]

  -- one more event of a job leaves less to it, and each other job as it was
  module _ (e : Occurrence) (goes_on : step_refusal (job_at (jobs_of r) e.event.job) ≡ None) where
    waits : (task : Task) × (job_at (jobs_of r) e.event.job ≡ Some (working task))
    waits = (goes_on-exact (job_at (jobs_of r) e.event.job)).0 goes_on

    abbrev what : Step
    what = step_by (machine_of r) e waits.0

    going : Goes r.calls (machine_of r) (after_event (machine_of r) e) what
    going = goes turns r.calls (machine_of r) e waits.0 (good-machine r run turns) waits.1

    after-is : (number : ℕ) → runs.steps_left (and_event r e) number ≡ steps_left (after_event (machine_of r) e).dirs (job_at (after_event (machine_of r) e).jobs number)
    after-is number = ap (λ (m : Machine). steps_left m.dirs (job_at m.jobs number)) (machine-and_event r e)

    pub steps_left-less : runs.steps_left (and_event r e) e.event.job < runs.steps_left r e.event.job
    steps_left-less =
        let m' = after_event (machine_of r) e in
        let after = after-is e.event.job ∙ ap (λ n. steps_left m'.dirs (job_at m'.jobs n)) going.number_is ∙
        ap (steps_left m'.dirs) (goes-here r.calls (machine_of r) m' what going) in
        let before : runs.steps_left r e.event.job ≡ steps_left (dirs_of r) (Some (working going.task)) =
        ap (λ n. steps_left (dirs_of r) (job_at (jobs_of r) n)) going.number_is ∙ ap (steps_left (dirs_of r)) going.there in
        let less = nearer r.calls (machine_of r) m' what going in
        omega (arith, after, before, less)

    pub jobs-same : (number : ℕ) → number ≢ e.event.job → job_at (jobs_of (and_event r e)) number ≡ job_at (jobs_of r) number
    jobs-same number differ = ap (λ (m : Machine). job_at m.jobs number) (machine-and_event r e) ∙ by number differ
      where
        by : (n : ℕ) → n ≢ e.event.job → job_at (after_event (machine_of r) e).jobs n ≡ job_at (jobs_of r) n
        by zero differ = refl
        by (suc j) differ = goes-others r.calls (machine_of r) (after_event (machine_of r) e) what going j (λ same. differ (ap suc same ∙ sym going.number_is))

-- What a clean still has to take away was old when it looked: of a delivery's file, the delivery had begun long before.
use Rattle.md_core.proofs.Machines.Errand.Table.Rows.{no-clean}
use Rattle.std.proofs.Common.{ℕ, ◌≡◌, ◌≤◌, ◌+◌, ◌-◌, inl, inr, List, [], ◌∷◌, Some, None, length, refl, sym, ap, subst, ◌∙◌, arith}
use Rattle.std.proofs.lemmas.Bool.Decides.{nat_tests}
use Rattle.md_core.proofs.Values.{State, file_at, Path, Tmp, Call, DirReply, Task, Deliver, Errand, Clean, path_of as path, rows_of, Step, call_at, IsStepOf, working, job_at, new_job, Turn, rows_for, unlink, Run, machine_at, first_step, IsRun, IsCleanedAway, trace_of, AreApart}
use Rattle.md_jobs.specs.declared.call.Call.TheVariants as call
use Rattle.md_jobs.specs.Tasks.Cleaning.{Cleaning, Stage, Look, Remove}
use Rattle.md_jobs.specs.declared.step.DirReply.TheVariants as reply
use Rattle.md_jobs.specs.Machines.Clean.{least_seconds, old_names, after_next, at_stage, tmp, stage_turn}
use Rattle.md_core.proofs.Induction.Good.{TaskFits}
use Rattle.lists.proofs.Members.{Has}
use Rattle.md_core.proofs.Answers.LastStep.{IsTurn, is_within, left_by, turn-at, holds, reply_in, done_in, done-in}
use Rattle.md_core.proofs.Answers.Moments.{its-fits, at, asked_by, after_task, next-clock, clock-grows, turn-done}
use Rattle.md_core.proofs.Answers.Files.Stamps.{stamped-at}
use Rattle.md_core.proofs.Answers.Files.Listed.{has-old, listed-file}
use Rattle.md_core.proofs.Machines.Errand.Table.Calls.{new-looks}
use Rattle.md_core.proofs.Traces.Same.{step-done, done-step}

-- a job has begun, and its first step was 36 hours less these seconds before the clock of moment k
pub record IsLate (r : Run) (seconds job k : ℕ) : Type 0 where
  pub begun : IsStepOf (trace_of r) job (first_step r job)
  pub late : begun.step.at.clock + least_seconds ≤ (machine_at r k).clock + seconds

-- a name is among those that a clean still has to take away
abbrev pub IsLeft : List ℕ → Stage → Type 0
IsLeft u Look = ⊥
IsLeft u (Remove name rest files) = Has (name ∷ rest) u

module _ (u : List ℕ) (c : Cleaning) where
  left-next : (names : List (List ℕ)) (files : ℕ) → (after_next c names files).answer ≡ None → IsLeft u (after_next c names files).task.stage →
      Has names u
  left-next [] files unanswered left = cc
  left-next (name ∷ rest) files unanswered left = left

  folder-next : (names : List (List ℕ)) (files : ℕ) → (after_next c names files).task.folder ≡ c.folder
  folder-next [] files = refl
  folder-next (name ∷ rest) files = refl

-- the task of a clean
pub cleans : (s : State) (f : ℕ) (task : Task) → TaskFits s (call.Clean f) task → (c : Cleaning) × (task ≡ Clean c)
cleans s f (Deliver d) fits = let e = fits.of in cc
cleans s f (Errand e) fits = absurd (no-clean e.purpose e.folder e.unique fits.tries f fits.of)
cleans s f (Clean c) fits = (c, refl)

-- what is left to a clean of the folder, at moment k
abbrev LateTask : Run → ℕ → ℕ → ℕ → List ℕ → ℕ → Task → Type 0
LateTask r seconds job folder u k (Clean c) = c.folder ≡ folder → IsLeft u c.stage → IsLate r seconds job k
LateTask r seconds job folder u k other = Unit {0}

module _ (r : Run) (run : IsRun r) (seconds : ℕ) (apart : AreApart (trace_of r) seconds) (job folder : ℕ) (u body : List ℕ) (chunk : ℕ)
    (of : call_at r.calls job ≡ Some (call.Deliver folder u body chunk)) where
  abbrev AtTask : ℕ → ℕ → Task → Type 0
  AtTask k n task = LateTask r seconds job folder u k task

  abbrev IsLateAt : ℕ → Type 0
  IsLateAt k = IsLate r seconds job k

  module _ (k n : ℕ) (t : IsTurn r k n) where
    late-more : IsLateAt k → IsLateAt (k + 1)
    late-more h =
        let late = h.late in
        let now = next-clock r k n t in
        let grows = clock-grows r k n t in
        record { begun = h.begun; late = omega (arith, late, now, grows) }

    abbrev s : State
    s = (machine_at r k).dirs

    -- a clean looks
    late-look : (c : Cleaning) → c.folder ≡ folder → Has (old_names (at r k n t).own (rows_of s c.folder Tmp)) u → IsLateAt (k + 1)
    late-look c in_folder left =
        let old = has-old (at r k n t).own (rows_of s c.folder Tmp) u left in
        let row = old.0 in
        let file = listed-file s c.folder Tmp row old.1 in
        let same : path c.folder Tmp row.name ≡ path folder Tmp u = (λ i. path (in_folder i) Tmp (old.3 i)) in
        let within : k ≤ length r.events = (let less = is_within r k n t in omega (arith, less)) in
        let h = stamped-at r run job folder u body chunk of k within file.0 (ap (file_at s) (sym same) ∙ file.1) in
        let stamped = h.stamped in
        let shown = file.2 in
        let long : least_seconds ≤ (at r k n t).own - row.stamp = (let is = old.2 in grind (arith, nat_tests)) in
        let ahead = (apart k (done_in r k n t) (done-step r run k (done_in r k n t) (done-in r k n t))).0 in
        let now = next-clock r k n t in
        record { begun = h.begun; late = omega (arith, stamped, shown, long, ahead, now) }

    -- what is left behind a turn of a clean was left before it, or was old now
    abbrev Leads : Turn Cleaning → DirReply → Type 0
    Leads turn rep =
        (turn.follows rep (rows_for turn.asked s)).answer ≡ None → (turn.follows rep (rows_for turn.asked s)).task.folder ≡ folder →
        IsLeft u (turn.follows rep (rows_for turn.asked s)).task.stage → IsLateAt (k + 1)

    stage-leads : (c : Cleaning) (stage : Stage) → (c.folder ≡ folder → IsLeft u stage → IsLateAt k) → (rep : DirReply) →
        Leads (stage_turn (at_stage c stage) (at r k n t).own stage) rep
    stage-leads c Look before reply.Ok unanswered in_folder left =
        let old = old_names (at r k n t).own (rows_of s c.folder Tmp) in
        late-look c (sym (folder-next u (at_stage c Look) old (length old)) ∙ in_folder)
        (left-next u (at_stage c Look) old (length old) unanswered left)
    stage-leads c (Remove name rest files) before reply.Ok unanswered in_folder left =
        let x = at_stage c (Remove name rest files) in
        late-more (before (sym (folder-next u x rest files) ∙ in_folder) (inr (left-next u x rest files unanswered left)))
    stage-leads c (Remove name rest files) before reply.Exists unanswered in_folder left = cc
    stage-leads c (Remove name rest files) before reply.NotFound unanswered in_folder left =
        let x = at_stage c (Remove name rest files) in
        late-more (before (sym (folder-next u x rest (files - 1)) ∙ in_folder) (inr (left-next u x rest (files - 1) unanswered left)))
    stage-leads c (Remove name rest files) before reply.Fault unanswered in_folder left = cc
    stage-leads c Look before other unanswered in_folder left = cc

    own-turn : (left_by r k n t).answer ≡ None → AtTask k n t.task → AtTask (k + 1) n (left_by r k n t).task
    own-turn unanswered h = by t.task h (reply_in (machine_at r k) t.event t.task) unanswered
      where
        by : (task : Task) → AtTask k n task → (rep : DirReply) → (after_task r k n t task rep).answer ≡ None →
            AtTask (k + 1) n (after_task r k n t task rep).task
        by (Deliver d) now rep none = tt
        by (Errand e) now rep none = tt
        by (Clean c) now rep none = stage-leads c c.stage now rep none

    other-turn : (task : Task) → AtTask k n task → AtTask (k + 1) n task
    other-turn (Clean c) h = λ in_folder left. late-more (h in_folder left)
    other-turn other h = tt

  -- a new clean has nothing to take away yet
  new-at : (n : ℕ) (c : Call) (task : Task) → new_job c ≡ working task → AtTask 0 n task
  new-at n c (Clean x) is = λ in_folder left. absurd (subst (IsLeft u) (new-looks x c is) left)
  new-at n c other is = tt

  late-task : (k n : ℕ) (task : Task) → k ≤ length r.events → job_at (machine_at r k).jobs n ≡ Some (working task) → AtTask k n task
  late-task = holds r run AtTask (λ n c task of-c is. new-at n c task is) own-turn
      (λ k n task e at-k differ is h. other-turn k e.event.job (turn-at r run k e at-k) task h)

  -- a path that a clean's turn asks to be taken away was left to it
  left-now : (c : Cleaning) (own : ℕ) (stage : Stage) → (stage_turn (at_stage c stage) own stage).asked ≡ unlink (path folder Tmp u) →
      (c.folder ≡ folder) × IsLeft u stage
  left-now c own Look is = cc
  left-now c own (Remove name rest files) is =
      let same : tmp c name ≡ path folder Tmp u = cc in
      (ap (λ (p : Path). p.folder) same, inl (ap (λ (p : Path). p.name) (sym same)))

  -- a clean that takes the file of the delivery away comes late
  pub late-clean : (k : ℕ) (cleaned : IsCleanedAway (trace_of r) k (path folder Tmp u)) →
      (begun : IsStepOf (trace_of r) job (first_step r job)) × (begun.step.at.clock + least_seconds ≤ cleaned.step.at.clock + seconds)
  late-clean k cleaned =
      let done = turn-done r run k cleaned.step (step-done r run k cleaned.step cleaned.at) in
      let n = done.0 in
      let t = done.1 in
      let its : call_at r.calls n ≡ Some (call.Clean cleaned.folder) =
      ap (call_at r.calls) (sym t.own ∙ ap (λ (d : Step). d.job) (sym done.2)) ∙ cleaned.by in
      let clean = cleans (machine_at r k).dirs cleaned.folder t.task (its-fits r run k n (call.Clean cleaned.folder) t.task its t.there) in
      let asks = ap (λ (d : Step). d.asked) (sym done.2) ∙ cleaned.asked in
      let left = left-now clean.0 (at r k n t).own clean.0.stage (ap (asked_by r k n t) (sym clean.1) ∙ asks) in
      let within : k ≤ length r.events = (let less = is_within r k n t in omega (arith, less)) in
      let late = subst (λ (x : Task). AtTask k n x) clean.1 (late-task k n t.task within t.there) left.0 left.1 in
      let before = late.late in
      let clock : cleaned.step.at.clock ≡ (at r k n t).clock = ap (λ (d : Step). d.at.clock) done.2 in
      let grows = clock-grows r k n t in
      (late.begun, omega (arith, before, clock, grows))

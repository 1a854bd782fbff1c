-- A delivery that writes has begun, at the moment of its own clock that it keeps, and has its file in tmp, or a clean took that away since.
use Rattle.std.proofs.Common.{ℕ, ◌≡◌, ◌≢◌, ◌<◌, ◌≤◌, ◌⊎◌, ◌+◌, inl, inr, List, Some, None, Bool, true, false, cond, length, nat_lt, slice_get, refl, sym, ap, subst, ◌∙◌, arith}
use Rattle.md_core.proofs.Values.{State, file_at, Tmp, Row, Call, DirReply, Task, Deliver, Errand, Clean, Path, Delivery, Stage, Start, Writing, Linked, Undo, Occurrence, working, job_at, new_job, Turn, append, ask_of, state_by, Run, machine_at, first_step, call_at, IsStepOf, IsRun, IsCleanedAway, trace_of, refused_by}
use Rattle.md_dirs.proofs.PathOrder.{path_total, path_exact}
use Rattle.lists.proofs.Maps as maps
use Rattle.md_jobs.specs.declared.answer.Answer.TheVariants as answer
use Rattle.md_jobs.specs.declared.call.Call.TheVariants as call
use Rattle.md_jobs.specs.declared.step.DirReply.TheVariants as reply
use Rattle.md_jobs.specs.Machines.Deliver.{at_stage, piece, append_turn, link_turn, unlink_turn, stage_turn, is_in_time}
use Rattle.md_core.proofs.Induction.Good.{DeliveryFits, TaskFits}
use Rattle.md_core.proofs.Directories.Frames.{makes-delivery}
use Rattle.md_core.proofs.Answers.LastStep.{IsTurn, left_by, turn-at, holds, reply_in}
use Rattle.md_core.proofs.Answers.Moments.{its-call, its-fits, sound-now, at, asked_by, after_task, next-dirs, not-yet, is-first, first-is}
use Rattle.md_core.proofs.Answers.Files.Tmp.{KeepsPath, touches}
use Rattle.md_core.proofs.Answers.Files.Touched.{touched}
use Rattle.md_core.proofs.Machines.Errand.Table.Calls.{IfWorking, new-task}

-- between the first step of a job and a moment, a clean took a path away
pub record IsTaken (r : Run) (job k : ℕ) (p : Path) : Type 0 where
  pub event : ℕ
  pub cleaned : IsCleanedAway (trace_of r) event p
  pub after : first_step r job < event
  pub before : event < k

pub record HasBegun (r : Run) (job k start : ℕ) (p : Path) : Type 0 where
  pub begun : IsStepOf (trace_of r) job (first_step r job)
  pub own : begun.step.at.own ≡ start
  pub before : first_step r job < k
  pub there : ((n : ℕ) × (file_at (machine_at r k).dirs p ≡ Some n)) ⊎ IsTaken r job k p

-- what is known of a delivery by its stage, at moment k
abbrev pub AtStage : Run → ℕ → ℕ → Path → Stage → Type 0
AtStage r k job p Start = k ≤ first_step r job
AtStage r k job p (Writing start n) = HasBegun r job k start p
AtStage r k job p Linked = Unit {0}
AtStage r k job p (Undo a) = (refused_by a ≡ answer.Fault) ⊎ (refused_by a ≡ answer.NameTaken)

abbrev pub AtTask : Run → ℕ → ℕ → Task → Type 0
AtTask r k job (Deliver d) = AtStage r k job d.tmp d.stage
AtTask r k job other = Unit {0}

-- the path stays there, or is taken away now, or has been
module _ (r : Run) (job k start : ℕ) (p : Path) (h : HasBegun r job k start p) where
  taken-more : IsTaken r job k p → IsTaken r job (k + 1) p
  taken-more t = let less = t.before in record { event = t.event; cleaned = t.cleaned; after = t.after; before = omega (arith, less) }

  begun-more : ((n : ℕ) × (file_at (machine_at r (k + 1)).dirs p ≡ Some n)) ⊎ IsTaken r job (k + 1) p → HasBegun r job (k + 1) start p
  begun-more there = let less = h.before in record { begun = h.begun; own = h.own; before = omega (arith, less); there = there }

  begun-kept : (clock : ℕ) → KeepsPath (machine_at r k).dirs (machine_at r (k + 1)).dirs p clock → HasBegun r job (k + 1) start p
  begun-kept clock keeps = begun-more (elim h.there [
    | inl file ↦ inl (file.0, keeps.names ∙ file.1)
    | inr taken ↦ inr (taken-more taken)
  ])

  begun-taken : IsCleanedAway (trace_of r) k p → HasBegun r job (k + 1) start p
  begun-taken cleaned = begun-more (inr (record { event = k; cleaned = cleaned; after = h.before; before = omega arith }))

-- the turn of a delivery
module _ (r : Run) (run : IsRun r) (k job : ℕ) (t : IsTurn r k job) (d : Delivery) (in_tmp : d.tmp.place ≡ Tmp) (rows : List Row) where
  abbrev s : State
  s = (machine_at r k).dirs

  abbrev n : ℕ
  n = t.event.event.job

  abbrev clock : ℕ
  clock = (at r k job t).clock

  -- how it stands after a turn with a reply, where it goes on
  abbrev Leads : Turn Delivery → DirReply → Type 0
  Leads turn rep =
      (machine_at r (k + 1)).dirs ≡ state_by (ask_of turn.asked clock) s rep → (turn.follows rep rows).answer ≡ None →
      AtStage r (k + 1) job (turn.follows rep rows).task.tmp (turn.follows rep rows).task.stage

  start-leads : k ≤ first_step r job → (rep : DirReply) → Leads (stage_turn n (at_stage d Start) (at r k job t) Start) rep
  start-leads none reply.Ok dirs unanswered =
      let first = is-first r k job job t none refl in
      record {
        begun = first-is r k job job t none run refl;
        own = refl;
        before = omega (arith, first);
        there = inl (
          length s.files,
          ap (λ (x : State). file_at x d.tmp) dirs
              ∙ maps.at_put path_total path_exact s.names d.tmp d.tmp (length s.files) refl,
        );
      }
  start-leads none other dirs unanswered = cc

  module _ (start i : ℕ) (h : HasBegun r job k start d.tmp) where
    abbrev x : Delivery
    x = at_stage d (Writing start i)

    append-leads : (rep : DirReply) → Leads (append_turn x start i) rep
    append-leads reply.Ok dirs unanswered = elim (touches s d.tmp in_tmp (sound-now r run k) clock (append d.tmp (piece x i)) reply.Ok tt) [
      | inl keeps ↦ begun-kept r job k start d.tmp h clock (subst (λ (y : State). KeepsPath s y d.tmp clock) (sym dirs) keeps)
      | inr other ↦ elim other [ inl makes ↦ (let e = makes.call in cc) | inr takes ↦ (let e = takes.call in cc) ]
    ]
    append-leads reply.Exists dirs unanswered = cc
    append-leads reply.NotFound dirs unanswered = cc
    append-leads reply.Fault dirs unanswered = inl refl

    link-leads : (rep : DirReply) → Leads (link_turn n x) rep
    link-leads reply.Ok dirs unanswered = tt
    link-leads reply.Exists dirs unanswered = inr refl
    link-leads reply.NotFound dirs unanswered = cc
    link-leads reply.Fault dirs unanswered = inl refl

    writing-leads : (b more : Bool) (rep : DirReply) →
        Leads (cond b (cond more (append_turn x start i) (link_turn n x)) (unlink_turn x answer.TimedOut)) rep
    writing-leads true true rep = append-leads rep
    writing-leads true false rep = link-leads rep
    writing-leads false more rep = λ dirs unanswered. cc

  stage-leads : (stage : Stage) → AtStage r k job d.tmp stage → (rep : DirReply) →
      Leads (stage_turn n (at_stage d stage) (at r k job t) stage) rep
  stage-leads Start h rep = start-leads h rep
  stage-leads (Writing start i) h rep = writing-leads start i h (is_in_time start (at r k job t).own) (nat_lt i (length d.body)) rep
  stage-leads other h rep = λ dirs unanswered. cc

-- a new delivery has not begun
new-at : (r : Run) (job : ℕ) (c : Call) (task : Task) → call_at r.calls job ≡ Some c → new_job c ≡ working task → AtTask r 0 job task
new-at r job c task of is = new-task (AtTask r 0 job) c task (by c) is
  where
    by : (c : Call) → IfWorking (AtTask r 0 job) (new_job c)
    by (call.Deliver folder u body chunk) = omega arith
    by c = tt

module _ (r : Run) (run : IsRun r) where
  -- the turn of the job
  own-turn : (k job : ℕ) (t : IsTurn r k job) → (left_by r k job t).answer ≡ None → AtTask r k job t.task →
      AtTask r (k + 1) job (left_by r k job t).task
  own-turn k job t unanswered h =
      let asked = its-call r run k job _ t.there in
      by asked.0 t.task (its-fits r run k job asked.0 t.task asked.1 t.there) h (reply_in (machine_at r k) t.event t.task)
      (next-dirs r k job t) unanswered
    where
      by : (asked : Call) (task : Task) → TaskFits (machine_at r k).dirs asked task → AtTask r k job task → (rep : DirReply) →
          (machine_at r (k + 1)).dirs ≡ state_by (ask_of (asked_by r k job t task) (at r k job t).clock) (machine_at r k).dirs rep →
          (after_task r k job t task rep).answer ≡ None → AtTask r (k + 1) job (after_task r k job t task rep).task
      by asked (Deliver d) fits now rep dirs none = stage-leads r run k job t d fits.in_tmp _ d.stage now rep dirs none
      by asked (Errand e) fits now rep dirs none = tt
      by asked (Clean c) fits now rep dirs none = tt

  -- the turn of another job
  module _ (k job : ℕ) (e : Occurrence) (at-k : slice_get r.events k ≡ Some e) (differ : job ≢ e.event.job) where
    abbrev t : IsTurn r k e.event.job
    t = turn-at r run k e at-k

    still-writing : (d : Delivery) (asked : Call) (start : ℕ) → call_at r.calls job ≡ Some asked →
        DeliveryFits (machine_at r k).dirs asked d → HasBegun r job k start d.tmp → HasBegun r job (k + 1) start d.tmp
    still-writing d asked start of fits h =
        elim (touched r run k e.event.job t job asked of d.tmp fits.in_tmp (makes-delivery (machine_at r k).dirs asked d fits)) [
          | inl keeps ↦ begun-kept r job k start d.tmp h _ keeps
          | inr other ↦ elim other [
            | inl made ↦ absurd (differ made.own)
            | inr gone ↦ elim gone.1 [ inl same ↦ absurd (differ same) | inr cleaned ↦ begun-taken r job k start d.tmp h cleaned ]
          ]
        ]

    still-stage : (d : Delivery) (asked : Call) → call_at r.calls job ≡ Some asked → DeliveryFits (machine_at r k).dirs asked d →
        (stage : Stage) → AtStage r k job d.tmp stage → AtStage r (k + 1) job d.tmp stage
    still-stage d asked of fits Start none = not-yet r k e.event.job job t none differ
    still-stage d asked of fits (Writing start i) h = still-writing d asked start of fits h
    still-stage d asked of fits Linked h = tt
    still-stage d asked of fits (Undo a) h = h

    other-turn : (task : Task) → job_at (machine_at r k).jobs job ≡ Some (working task) → AtTask r k job task → AtTask r (k + 1) job task
    other-turn (Deliver d) is h =
        let asked = its-call r run k job _ is in
        still-stage d asked.0 asked.1 (its-fits r run k job asked.0 (Deliver d) asked.1 is) d.stage h
    other-turn other is h = tt

  pub at-task : (k job : ℕ) (task : Task) → k ≤ length r.events → job_at (machine_at r k).jobs job ≡ Some (working task) → AtTask r k job task
  at-task = holds r run (AtTask r) (new-at r) own-turn (λ k job task e at-k differ is h. other-turn k job e at-k differ task is h)

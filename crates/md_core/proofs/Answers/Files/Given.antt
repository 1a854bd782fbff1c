-- The answers of a time, of a lost file in tmp and of a clean: which tasks give them, and what a delivery then knows.
use Rattle.std.proofs.Common.{ℕ, ◌≡◌, ◌≤◌, ◌⊎◌, inl, inr, List, [], ◌∷◌, Option, Some, None, Bool, true, false, cond, nat_lt, length, is_some, refl, sym, subst, arith}
use Rattle.std.proofs.lemmas.Bool.Decides.{nat_tests}
use Rattle.md_core.proofs.Values.{Path, Call, Answer, DirReply, Task, Deliver, Errand, Clean, State, file_at, has_folder, Row, Delivery, Stage, Start, Writing, Linked, Undo, working, Turn, reply_of, rows_for, ask_of, reply_by, Run, machine_at, IsRun, DirError, Exists, NotFound, Cleaning, refused_by}
use Rattle.md_jobs.specs.declared.answer.Answer.TheVariants as answer
use Rattle.md_jobs.specs.Tasks.Cleaning as cleaning
use Rattle.md_jobs.specs.declared.step.DirReply.TheVariants as reply
use Rattle.md_jobs.specs.Machines.Clean as cleaned_by
use Rattle.md_jobs.specs.Machines.Deliver.{at_stage, target, create_turn, append_turn, link_turn, unlink_turn, stage_turn, is_in_time}
use Rattle.md_core.proofs.Induction.Good.{DeliveryFits, TaskFits}
use Rattle.md_core.proofs.Answers.LastStep.{IsTurn, is_within, LastStep, reply_in}
use Rattle.md_core.proofs.Answers.Moments.{its-call, its-fits, at, asked_by, after_task}
use Rattle.md_core.proofs.Answers.OfFault.{last-tells}
use Rattle.md_core.proofs.Answers.Turns.OneMessage.{Tells}
use Rattle.md_core.proofs.Answers.Turns.Told.{Told}
use Rattle.md_core.proofs.Answers.Files.Writing.{IsTaken, HasBegun, AtStage, AtTask, at-task}

-- what a delivery knows that gives an answer at moment k, by its own clock
abbrev pub DeliverySays : Run → ℕ → ℕ → Path → ℕ → Answer → Type 0
DeliverySays r k job p own answer.TimedOut = (start : ℕ) × HasBegun r job k start p × (is_in_time start own ≡ false)
DeliverySays r k job p own answer.TmpGone = (start : ℕ) × HasBegun r job k start p × (is_in_time start own ≡ true) × IsTaken r job k p
DeliverySays r k job p own (answer.Cleaned n) = ⊥
DeliverySays r k job p own a = Unit {0}

-- a clean gives Cleaned or Fault
abbrev CleanSays : Answer → Type 0
CleanSays a = (a ≡ answer.Fault) ⊎ ((n : ℕ) × (a ≡ answer.Cleaned n))

abbrev pub TaskSays : Run → ℕ → ℕ → ℕ → Task → Answer → Type 0
TaskSays r k job own (Deliver d) a = DeliverySays r k job d.tmp own a
TaskSays r k job own (Errand e) a = (asked : Call) × (rep : DirReply) × Tells (machine_at r k).dirs asked (Errand e) rep a
TaskSays r k job own (Clean c) a = CleanSays a

-- a reply that a file was not found, where a file is there
no-file : (o : Option ℕ) (rest : Option DirError) (faulted : Bool) →
    reply.NotFound ≡ cond faulted reply.Fault (reply_by (cond (is_some o) rest (Some NotFound))) → (reply.NotFound ≡ reply_by rest → ⊥) →
    o ≡ None
no-file o rest true is other = cc
no-file None rest false is other = refl
no-file (Some n) rest false is other = absurd (other is)

-- an answer of a clean
next-says : (c : Cleaning) (names : List (List ℕ)) (files : ℕ) (a : Answer) → (cleaned_by.after_next c names files).answer ≡ Some a → CleanSays a
next-says c [] files a is = inr (files, cc)
next-says c (name ∷ rest) files a is = cc

clean-says : (c : Cleaning) (own : ℕ) (stage : cleaning.Stage) (rep : DirReply) (rows : List Row) (a : Answer) →
    ((cleaned_by.stage_turn c own stage).follows rep rows).answer ≡ Some a → CleanSays a
clean-says c own cleaning.Look reply.Ok rows a is = next-says c _ _ a is
clean-says c own (cleaning.Remove name rest files) reply.Ok rows a is = next-says c _ _ a is
clean-says c own (cleaning.Remove name rest files) reply.Exists rows a is = inl cc
clean-says c own (cleaning.Remove name rest files) reply.NotFound rows a is = next-says c _ _ a is
clean-says c own (cleaning.Remove name rest files) reply.Fault rows a is = inl cc
clean-says c own cleaning.Look other rows a is = inl cc

module _ (r : Run) (run : IsRun r) (k job : ℕ) (t : IsTurn r k job) where
  abbrev s : State
  s = (machine_at r k).dirs

  abbrev own : ℕ
  own = (at r k job t).own

  abbrev n : ℕ
  n = t.event.event.job

  module _ (d : Delivery) (asked : Call) (fits : DeliveryFits s asked d) (rows : List Row) where
    abbrev Gives : Option Answer → Type 0
    Gives None = Unit {0}
    Gives (Some a) = DeliverySays r k job d.tmp own a

    abbrev Says : Turn Delivery → DirReply → Type 0
    Says turn rep = rep ≡ reply_of (ask_of turn.asked (at r k job t).clock) s t.event.faulted → Gives (turn.follows rep rows).answer

    create-says : (rep : DirReply) → Says (create_turn (at_stage d Start) own) rep
    create-says reply.Ok is = tt
    create-says other is = tt

    module _ (start i : ℕ) (h : HasBegun r job k start d.tmp) where
      abbrev x : Delivery
      x = at_stage d (Writing start i)

      -- its file is gone, so a clean took it
      cleaned-away : file_at s d.tmp ≡ None → IsTaken r job k d.tmp
      cleaned-away gone = elim h.there [ inl file ↦ (let there = file.1 in cc) | inr taken ↦ taken ]

      append-says : is_in_time start own ≡ true → (rep : DirReply) → Says (append_turn x start i) rep
      append-says in_time reply.NotFound is =
          (start, h, in_time, cleaned-away (no-file (file_at s d.tmp) None t.event.faulted is (λ e. cc)))
      append-says in_time other is = tt

      found-folder : (b c : Bool) → b ≡ true → reply.NotFound ≡ reply_by (cond b (cond c (Some Exists) None) (Some NotFound)) → ⊥
      found-folder true true within is = cc
      found-folder true false within is = cc
      found-folder false c within is = cc

      link-says : is_in_time start own ≡ true → (rep : DirReply) → Says (link_turn n x) rep
      link-says in_time reply.NotFound is =
          let inside = fits.in_folder in
          let within : has_folder s (target d) ≡ true = grind (arith, nat_tests) in
          let other = found-folder (has_folder s (target d)) (is_some (file_at s (target d))) within in (
            start,
            h,
            in_time,
            cleaned-away
                (no-file (file_at s d.tmp)
                (cond (has_folder s (target d)) (cond (is_some (file_at s (target d))) (Some Exists) None)
                (Some NotFound)) t.event.faulted is other),
          )
      link-says in_time other is = tt

      writing-says : (b : Bool) → is_in_time start own ≡ b → (more : Bool) (rep : DirReply) →
          Says (cond b (cond more (append_turn x start i) (link_turn n x)) (unlink_turn x answer.TimedOut)) rep
      writing-says true in_time true rep = append-says in_time rep
      writing-says true in_time false rep = link-says in_time rep
      writing-says false late more rep = λ is. (start, h, late)

    -- an unlink behind a fault or a name that was taken
    undo-says : (a : Answer) → (a ≡ answer.Fault) ⊎ (a ≡ answer.NameTaken) → DeliverySays r k job d.tmp own a
    undo-says a which = elim which [
      | inl is ↦ subst (DeliverySays r k job d.tmp own) (sym is) tt
      | inr is ↦ subst (DeliverySays r k job d.tmp own) (sym is) tt
    ]

    stage-says : (stage : Stage) → AtStage r k job d.tmp stage → (rep : DirReply) →
        Says (stage_turn n (at_stage d stage) (at r k job t) stage) rep
    stage-says Start h rep = create-says rep
    stage-says (Writing start i) h rep = writing-says start i h (is_in_time start own) refl (nat_lt i (length d.body)) rep
    stage-says Linked h rep = λ is. tt
    stage-says (Undo a) h rep = λ is. undo-says (refused_by a) h

    delivery-says : AtStage r k job d.tmp d.stage → (rep : DirReply) → Says (stage_turn n d (at r k job t) d.stage) rep
    delivery-says h rep = stage-says d.stage h rep

  -- any task
  by-task : (asked : Call) (task : Task) → TaskFits s asked task → AtTask r k job task → (rep : DirReply) →
      rep ≡ reply_of (ask_of (asked_by r k job t task) (at r k job t).clock) s t.event.faulted → (a : Answer) →
      (after_task r k job t task rep).answer ≡ Some a → Told s asked task rep a → TaskSays r k job own task a
  by-task asked (Deliver d) fits now rep replied a is told =
      subst (Gives d asked fits []) is
      (delivery-says d asked fits (rows_for (stage_turn n d (at r k job t) d.stage).asked s) now rep replied)
  by-task asked (Errand e) fits now rep replied a is told = (asked, rep, told)
  by-task asked (Clean c) fits now rep replied a is told = clean-says c own c.stage rep _ a is

-- what the task of the last step says with its answer
pub task-says : (r : Run) → IsRun r → (job : ℕ) (a : Answer) → (last : LastStep r job a) →
    TaskSays r last.k job (at r last.k job last.turn).own last.turn.task a
task-says r run job a last =
    let k = last.k in
    let t = last.turn in
    let asked = its-call r run k job (working t.task) t.there in
    let within : k ≤ length r.events = (let less = is_within r k job t in omega (arith, less)) in
    by-task r run k job t asked.0 t.task (its-fits r run k job asked.0 t.task asked.1 t.there) (at-task r run k job t.task within t.there)
    (reply_in (machine_at r k) t.event t.task) refl a last.answer (last-tells r run job asked.0 asked.1 a last)

-- TimedOut and TmpGone are answers of deliveries
abbrev pub OfDelivery : Run → ℕ → ℕ → ℕ → Task → Answer → Type 0
OfDelivery r k job own task a = (d : Delivery) × (task ≡ Deliver d) × DeliverySays r k job d.tmp own a

pub gone-of : (r : Run) (k job own : ℕ) (task : Task) → TaskSays r k job own task answer.TmpGone →
    OfDelivery r k job own task answer.TmpGone
gone-of r k job now (Deliver d) says = (d, refl, says)
gone-of r k job now (Errand e) says = absurd says.2
gone-of r k job now (Clean c) says = elim says [ inl is ↦ cc | inr is ↦ (let e = is.1 in cc) ]

pub timed-of : (r : Run) (k job own : ℕ) (task : Task) → TaskSays r k job own task answer.TimedOut →
    OfDelivery r k job own task answer.TimedOut
timed-of r k job now (Deliver d) says = (d, refl, says)
timed-of r k job now (Errand e) says = absurd says.2
timed-of r k job now (Clean c) says = elim says [ inl is ↦ cc | inr is ↦ (let e = is.1 in cc) ]

-- Cleaned is an answer of a clean
pub clean-of : (r : Run) (k job own : ℕ) (task : Task) (n : ℕ) → TaskSays r k job own task (answer.Cleaned n) →
    (c : Cleaning) × (task ≡ Clean c)
clean-of r k job now (Deliver d) n says = absurd says
clean-of r k job now (Errand e) n says = absurd says.2
clean-of r k job now (Clean c) n says = (c, refl)

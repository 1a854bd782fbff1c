-- Turns of tasks that are alike: which call a job makes and which answer it has doesn't hang on its number, nor on the clock of the
-- directories, nor on what a reading shows besides the names by which the job goes on.
use Rattle.std.proofs.Common.{ℕ, ◌≡◌, List, [], Option, Bool, true, false, cond, nat_lt, length, refl, sym, ap, ◌∙◌}
use Rattle.md_dirs.specs.declared.rows.Row.{Row}
use Rattle.md_jobs.specs.Machines.Clean.{cleaning_turn, old_names, after_old}
use Rattle.md_jobs.specs.Machines.Clean as cleaned_by
use Rattle.md_jobs.specs.Machines.Deliver.{delivery_turn, is_in_time, append_turn, link_turn, unlink_turn}
use Rattle.md_jobs.specs.Machines.Deliver as delivered_by
use Rattle.md_jobs.specs.Machines.Refusals.{refused_by}
use Rattle.md_jobs.specs.Tasks.Cleaning.{Cleaning}
use Rattle.md_jobs.specs.Tasks.Cleaning as cleaning
use Rattle.md_jobs.specs.Tasks.Delivery.{Delivery}
use Rattle.md_jobs.specs.declared.deliver.Stage.{Stage}
use Rattle.md_jobs.specs.declared.deliver.Stage.TheVariants.{Start, Writing, Linked, Undo}
use Rattle.md_jobs.specs.Turn.{Turn, After}
use Rattle.md_jobs.specs.declared.answer.Answer.{Answer}
use Rattle.md_jobs.specs.declared.refusal.Refusal.TheVariants.{TimedOut}
use Rattle.md_jobs.specs.declared.step.DirReply.{DirReply}
use Rattle.md_jobs.specs.declared.step.DirReply.TheVariants as reply
use Rattle.md_jobs.specs.declared.step.Moment.{Moment}
use Rattle.md_core.specs.Machine.{turn_of}
use Rattle.md_core.specs.Tasks.Task.{Task}
use Rattle.md_core.specs.Tasks.Task as task

-- what a job shows of what follows: its answer, and how far it is
abbrev pub Shown : Type 0 → Type 0
Shown T = Option Answer × T

abbrev pub shown_of : {T : Type 0} → After T → Shown T
shown_of after = (after.answer, after.task)

-- Turns of tasks that are alike make the same call, and have the same answer where the reply is the same and, of a listing that was done,
-- the names; and then the tasks are alike again.
pub record AreAlike {T : Type 0} (turn : T → Moment → Turn T) (job : ℕ) (found : ℕ → List Row → List (List ℕ))
    (Like : T → Task → Type 0) : Type 0 where
  pub call : (t : T) (x : Task) (at at' : Moment) → at'.own ≡ at.own → Like t x → (turn_of job x at').asked ≡ (turn t at).asked
  pub answer : (t : T) (x : Task) (at at' : Moment) → at'.own ≡ at.own → Like t x → (r : DirReply) (rows rows' : List Row)
      → (r ≡ reply.Ok → found at.own rows ≡ found at.own rows')
      → ((turn_of job x at').follows r rows').answer ≡ ((turn t at).follows r rows).answer
  pub task : (t : T) (x : Task) (at at' : Moment) → at'.own ≡ at.own → Like t x → (r : DirReply) (rows rows' : List Row)
      → (r ≡ reply.Ok → found at.own rows ≡ found at.own rows')
      → Like ((turn t at).follows r rows).task ((turn_of job x at').follows r rows').task

-- ---- deliveries

module _ (number job : ℕ) (d : Delivery) (own : ℕ) (start k : ℕ) where
  -- the turn of a job, by whether it is in time and has more to write
  abbrev writes : ℕ → Bool → Bool → Turn Delivery
  writes n in_time more =
      cond in_time (cond more (append_turn d start k) (link_turn n d)) (unlink_turn d (refused_by TimedOut))

  writing-asks : (in_time more : Bool) → (writes job in_time more).asked ≡ (writes number in_time more).asked
  writing-asks true true = refl
  writing-asks true false = refl
  writing-asks false more = refl

  writing-shows : (in_time more : Bool) (r : DirReply) (rows rows' : List Row) →
      shown_of ((writes job in_time more).follows r rows') ≡ shown_of ((writes number in_time more).follows r rows)
  writing-shows true true r rows rows' = refl
  writing-shows true false reply.Ok rows rows' = refl
  writing-shows true false reply.Exists rows rows' = refl
  writing-shows true false reply.NotFound rows rows' = refl
  writing-shows true false reply.Fault rows rows' = refl
  writing-shows false more r rows rows' = refl

-- the turn of a delivery by its own clock
abbrev delivery_by : ℕ → Delivery → ℕ → Stage → Turn Delivery
delivery_by job d own stage = delivered_by.stage_turn job d (record { clock = 0; own = own }) stage

module _ (number job : ℕ) (d : Delivery) where
  delivery-clock : (at : Moment) (stage : Stage) → delivered_by.stage_turn job d at stage ≡ delivery_by job d at.own stage
  delivery-clock at Start = refl
  delivery-clock at (Writing start k) = refl
  delivery-clock at Linked = refl
  delivery-clock at (Undo refusal) = refl

  delivery-asks : (own : ℕ) (stage : Stage) → (delivery_by job d own stage).asked ≡ (delivery_by number d own stage).asked
  delivery-asks own Start = refl
  delivery-asks own (Writing start k) = writing-asks number job d own start k (is_in_time start own) (nat_lt k (length d.body))
  delivery-asks own Linked = refl
  delivery-asks own (Undo refusal) = refl

  delivery-shows : (own : ℕ) (stage : Stage) (r : DirReply) (rows rows' : List Row) →
      shown_of ((delivery_by job d own stage).follows r rows') ≡ shown_of ((delivery_by number d own stage).follows r rows)
  delivery-shows own Start r rows rows' = refl
  delivery-shows own (Writing start k) r rows rows' =
      writing-shows number job d own start k (is_in_time start own) (nat_lt k (length d.body)) r rows rows'
  delivery-shows own Linked r rows rows' = refl
  delivery-shows own (Undo refusal) r rows rows' = refl

-- a delivery is that of the task
abbrev pub LikeDelivery : Delivery → Task → Type 0
LikeDelivery d (task.Deliver d') = d' ≡ d
LikeDelivery d x = ⊥

module _ (number job : ℕ) (d : Delivery) (at at' : Moment) (same : at'.own ≡ at.own) where
  delivery-call : (delivery_turn job d at').asked ≡ (delivery_turn number d at).asked
  delivery-call =
      ap (λ (u : Turn Delivery). u.asked) (delivery-clock number job d at' d.stage)
      ∙ ap (λ (own : ℕ). (delivery_by job d own d.stage).asked) same
      ∙ delivery-asks number job d at.own d.stage
      ∙ ap (λ (u : Turn Delivery). u.asked) (sym (delivery-clock number number d at d.stage))

  delivery-after : (r : DirReply) (rows rows' : List Row) →
      shown_of ((delivery_turn job d at').follows r rows') ≡ shown_of ((delivery_turn number d at).follows r rows)
  delivery-after r rows rows' =
      ap (λ (u : Turn Delivery). shown_of (u.follows r rows')) (delivery-clock number job d at' d.stage)
      ∙ ap (λ (own : ℕ). shown_of ((delivery_by job d own d.stage).follows r rows')) same
      ∙ delivery-shows number job d at.own d.stage r rows rows'
      ∙ ap (λ (u : Turn Delivery). shown_of (u.follows r rows)) (sym (delivery-clock number number d at d.stage))

-- a delivery reads no directory
abbrev pub no_names : ℕ → List Row → List (List ℕ)
no_names own rows = []

pub deliveries-alike : (number job : ℕ) → AreAlike (delivery_turn number) job no_names LikeDelivery
deliveries-alike number job = record {
  call = call;
  answer = answer;
  task = next;
}
  where
    call : (d : Delivery) (x : Task) (at at' : Moment) → at'.own ≡ at.own → LikeDelivery d x →
        (turn_of job x at').asked ≡ (delivery_turn number d at).asked
    call d (task.Deliver d') at at' same like =
        ap (λ (y : Delivery). (delivery_turn job y at').asked) like ∙ delivery-call number job d at at' same
    call d (task.Errand e) at at' same like = absurd like
    call d (task.Clean c) at at' same like = absurd like

    answer : (d : Delivery) (x : Task) (at at' : Moment) → at'.own ≡ at.own → LikeDelivery d x → (r : DirReply) (rows rows' : List Row) →
        (r ≡ reply.Ok → no_names at.own rows ≡ no_names at.own rows') →
        ((turn_of job x at').follows r rows').answer ≡ ((delivery_turn number d at).follows r rows).answer
    answer d (task.Deliver d') at at' same like r rows rows' names =
        ap (λ (y : Delivery). ((delivery_turn job y at').follows r rows').answer) like
        ∙ ap (λ (p : Shown Delivery). p.0) (delivery-after number job d at at' same r rows rows')
    answer d (task.Errand e) at at' same like r rows rows' names = absurd like
    answer d (task.Clean c) at at' same like r rows rows' names = absurd like

    next : (d : Delivery) (x : Task) (at at' : Moment) → at'.own ≡ at.own → LikeDelivery d x → (r : DirReply) (rows rows' : List Row) →
        (r ≡ reply.Ok → no_names at.own rows ≡ no_names at.own rows') →
        LikeDelivery ((delivery_turn number d at).follows r rows).task ((turn_of job x at').follows r rows').task
    next d (task.Deliver d') at at' same like r rows rows' names =
        ap (λ (y : Delivery). ((delivery_turn job y at').follows r rows').task) like
        ∙ ap (λ (p : Shown Delivery). p.1) (delivery-after number job d at at' same r rows rows')
    next d (task.Errand e) at at' same like r rows rows' names = absurd like
    next d (task.Clean c) at at' same like r rows rows' names = absurd like

-- ---- cleans

-- a clean is that of the task
abbrev pub LikeCleaning : Cleaning → Task → Type 0
LikeCleaning c (task.Clean c') = c' ≡ c
LikeCleaning c x = ⊥

abbrev cleaning_by : ℕ → Cleaning → DirReply → List Row → After Cleaning
cleaning_by own c r rows = (cleaning_turn c own).follows r rows

-- a clean goes on from the names of old files
cleaning-after : (c : Cleaning) (own : ℕ) (r : DirReply) (rows rows' : List Row) →
    (r ≡ reply.Ok → old_names own rows ≡ old_names own rows') → cleaning_by own c r rows' ≡ cleaning_by own c r rows
cleaning-after c own r rows rows' names = by c.stage r names
  where
    by : (stage : cleaning.Stage) (r : DirReply) → (r ≡ reply.Ok → old_names own rows ≡ old_names own rows') →
        (cleaned_by.stage_turn c own stage).follows r rows' ≡ (cleaned_by.stage_turn c own stage).follows r rows
    by cleaning.Look reply.Ok names = ap (λ (old : List (List ℕ)). after_old c old) (sym (names refl))
    by cleaning.Look reply.Exists names = refl
    by cleaning.Look reply.NotFound names = refl
    by cleaning.Look reply.Fault names = refl
    by (cleaning.Remove name rest files) r names = refl

pub cleans-alike : (job : ℕ) → AreAlike (λ c at. cleaning_turn c at.own) job old_names LikeCleaning
cleans-alike job = record { call = call; answer = answer; task = next }
  where
    call : (c : Cleaning) (x : Task) (at at' : Moment) → at'.own ≡ at.own → LikeCleaning c x →
        (turn_of job x at').asked ≡ (cleaning_turn c at.own).asked
    call c (task.Clean c') at at' same like =
        ap (λ (y : Cleaning). (cleaning_turn y at'.own).asked) like ∙ ap (λ (own : ℕ). (cleaning_turn c own).asked) same
    call c (task.Deliver d) at at' same like = absurd like
    call c (task.Errand e) at at' same like = absurd like

    after : (c c' : Cleaning) (at at' : Moment) → at'.own ≡ at.own → c' ≡ c → (r : DirReply) (rows rows' : List Row) →
        (r ≡ reply.Ok → old_names at.own rows ≡ old_names at.own rows') → cleaning_by at'.own c' r rows' ≡ cleaning_by at.own c r rows
    after c c' at at' same like r rows rows' names =
        ap (λ (y : Cleaning). cleaning_by at'.own y r rows') like ∙ ap (λ (own : ℕ). cleaning_by own c r rows') same
        ∙ cleaning-after c at.own r rows rows' names

    answer : (c : Cleaning) (x : Task) (at at' : Moment) → at'.own ≡ at.own → LikeCleaning c x → (r : DirReply) (rows rows' : List Row) →
        (r ≡ reply.Ok → old_names at.own rows ≡ old_names at.own rows') →
        ((turn_of job x at').follows r rows').answer ≡ ((cleaning_turn c at.own).follows r rows).answer
    answer c (task.Clean c') at at' same like r rows rows' names =
        ap (λ (a : After Cleaning). a.answer) (after c c' at at' same like r rows rows' names)
    answer c (task.Deliver d) at at' same like r rows rows' names = absurd like
    answer c (task.Errand e) at at' same like r rows rows' names = absurd like

    next : (c : Cleaning) (x : Task) (at at' : Moment) → at'.own ≡ at.own → LikeCleaning c x → (r : DirReply) (rows rows' : List Row) →
        (r ≡ reply.Ok → old_names at.own rows ≡ old_names at.own rows') →
        LikeCleaning ((cleaning_turn c at.own).follows r rows).task ((turn_of job x at').follows r rows').task
    next c (task.Clean c') at at' same like r rows rows' names =
        ap (λ (a : After Cleaning). a.task) (after c c' at at' same like r rows rows' names)
    next c (task.Deliver d) at at' same like r rows rows' names = absurd like
    next c (task.Errand e) at at' same like r rows rows' names = absurd like

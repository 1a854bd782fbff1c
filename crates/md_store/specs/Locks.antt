-- What is kept inside the lock, and what a step tells.
use Rattle.std.specs.Prelude.{◌≡◌, ◌≤◌, ◌+◌, ◌⊎◌, ◌∷◌, ◌++◌, ℕ, length, slice_get, List, [], Option, Some, None, IfSome, Bool, true, false}
use Rattle.std.specs.Option.{option_map}
use Rattle.std.specs.FinMap as finmap
use Rattle.logbook.specs.Pages.{Book}
use Rattle.md_jobs.specs.declared.call.Call.{Call}
use Rattle.md_jobs.specs.declared.effect.Effect.{Effect}
use Rattle.md_jobs.specs.declared.step.StepOut.{StepOut}
use Rattle.md_core.specs.Stepping.{IsRun, ShowsStep}
use Rattle.md_core.specs.Machine.{occurrence, job_at}
use Rattle.md_core.specs.Mailbox.{Entry, mailbox_of}
use Rattle.md_core.specs.Interleaving.{IsWhole, is_success}
use Rattle.md_core.specs.Tracing.{trace_of}
use Rattle.md_jobs.specs.declared.error.CoreError.{CoreError}
use Rattle.md_core.specs.Runs.{Run, dirs_of, jobs_of, effects_of, and_event, step_refusal, IsRefusal}
use Rattle.md_core.specs.Submitting.{submit_refusal}
use Rattle.md_jobs.specs.Asked.{is_fault}
use Rattle.md_view.specs.Named.{Named, named_of}
use Rattle.md_store.specs.Ongoing.{IsSince, GoesOn}
use Rattle.md_store.specs.Pages.{Course, Held, Page, Note}
use Rattle.md_store.specs.Publishing.{knower, WaitsFor}
use Rattle.md_store.specs.declared.rule.Knowledge.{Knowledge}
use mathlib.Core.List.{IsPrefix}
use Rattle.md_jobs.specs.declared.answer.Answer.{Answer}
use Rattle.md_core.specs.Trace.{IsAnswered}
use Rattle.md_store.specs.declared.step.StoreStep.{StoreStep}
use Rattle.md_store.specs.declared.step.News.{News}
use Rattle.md_store.specs.declared.step.News.TheVariants.{NoEffect, Told, Later}

-- all effects are published, or all but the last
abbrev pub Lags : List Effect → List Effect → Type 0
Lags all published = (rest : List Effect) × (all ≡ published ++ rest) × (length rest ≤ 1)

-- a store: its run, and the effects that listings may see
pub record Both : Type 0 where
  pub run : Run
  pub published : List Effect

-- The run goes on from the one that the store was opened with, which had the opening names. Its effects are published, or all but the
-- last, of which a note may wait. The journal has all effects, and a beginning of the run.
pub record IsLocked (begun : Run) (opening : Named) (book : Book) (run : Run) (shown : Page)
    (seat : Knowledge) (journal : Course) (pending : List Note) : Type 0 where
  pub since : IsSince begun run
  pub image : named_of run.image ≡ opening
  pub book_is : shown.front.book ≡ book
  pub seat_is : seat ≡ knower opening shown
  pub lag : Lags (effects_of run) shown.front.log
  pub journal_book : journal.book ≡ book
  pub goes : GoesOn journal.run run
  pub entered : effects_of run ≡ effects_of journal.run
  pub waits : (pending ≡ []) ⊎ WaitsFor (effects_of run) opening shown pending

-- a world with no event
abbrev pub IsFresh : Run → Type 0
IsFresh r = r.events ≡ []

-- a store to be opened: its run, the book of its history, and how many passes it gets
pub record Ready : Type 0 where
  pub run : Run
  pub book : Book
  pub passes : ℕ

-- the number is that of a job of this call, which was submitted in some run that goes on from the one that the store was opened with
pub record SubmitsSince (begun : Run) (call : Call) (job : ℕ) : Type 0 where
  pub run : Run
  pub since : IsSince begun run
  pub is_run : IsRun run
  pub accepted : submit_refusal run call ≡ None
  pub number : job ≡ length run.calls + 1

-- the call was refused so in some run that goes on from the one that the store was opened with
pub record RefusesCall (begun : Run) (call : Call) (e : CoreError) : Type 0 where
  pub run : Run
  pub since : IsSince begun run
  pub is_run : IsRun run
  pub refused : IsRefusal (submit_refusal run call) e

-- The mailbox had a message of this unique name with these bytes, or none of that name, in some run that goes on from the one that the
-- store was opened with. The bytes are whole.
pub record ReadsSince (begun : Run) (unique : List ℕ) (bytes : Option (List ℕ)) : Type 0 where
  pub run : Run
  pub since : IsSince begun run
  pub is_run : IsRun run
  pub read : bytes ≡ option_map (λ (e : Entry). e.bytes) (finmap.get (mailbox_of (dirs_of run)) unique)
  pub whole : IfSome bytes (λ b. IsWhole (trace_of run) (length run.events) unique b)

-- a step of this job was taken, and showed this, in a run that goes on from the one at the opening, and from this one of the store's own
pub record StepsSince (begun held : Run) (job now : ℕ) (own : Option ℕ) (out : StepOut) : Type 0 where
  pub run : Run
  pub since : IsSince begun run
  pub goes : GoesOn held run
  pub is_run : IsRun run
  pub taken : step_refusal (job_at (jobs_of run) job) ≡ None
  pub shows : ShowsStep run (and_event run (occurrence job now own (is_fault out.reply))) (occurrence job now own (is_fault out.reply)) out

-- a pass holds just the effects of the run that it holds
abbrev pub HoldsAll : Held → Type 0
HoldsAll held = held.history ≡ effects_of held.run

-- the history ends with an effect of this job, behind all that was held before
abbrev pub EndsAfter : List Effect → ℕ → List Effect → Type 0
EndsAfter before job history = (base : List Effect) × (e : Effect) × (history ≡ base ++ e ∷ []) × (e.job ≡ job) × IsPrefix before base

-- What a step tells, by its news: of whether it was an effect, of the store after it, of the job, and of what the pass held before and
-- holds now. The pass then holds all effects and no more, or what it held.
abbrev pub Tells : News → Bool → Both → ℕ → List Effect → List Effect → Type 0
Tells NoEffect effect s job before now = (effect ≡ false) × (s.published ≡ effects_of s.run) × (now ≡ s.published)
Tells Told effect s job before now =
    (effect ≡ true) × (s.published ≡ effects_of s.run) × EndsAfter before job s.published × (now ≡ s.published)
Tells Later effect s job before now =
    (effect ≡ true) × EndsAfter before job (effects_of s.run) × ((e : Effect) × (effects_of s.run ≡ s.published ++ e ∷ [])) × (now ≡ before)

-- where an answer of a job says that its call took effect, that effect is in the history
abbrev pub Stands : Option Answer → ℕ → List Effect → Type 0
Stands None job history = Unit {0}
Stands (Some a) job history = is_success a ≡ true → (e : Effect) × (k : ℕ) × (slice_get history k ≡ Some e) × (e.job ≡ job) × (e.answer ≡ a)

-- What the news of a step says: whether the step was an effect; and where that isn't published yet, the pass was told of no effect.
abbrev pub IsNews : News → Bool → List Effect → List Effect → Type 0
IsNews NoEffect effect before now = effect ≡ false
IsNews Told effect before now = effect ≡ true
IsNews Later effect before now = (effect ≡ true) × (now ≡ before)

-- what a pass holds after a step, by its news: a history that ends with the effect told, new to it, and the effect of an answer of success
abbrev pub IsTold : News → Option Answer → ℕ → List Effect → List Effect → Type 0
IsTold Told a job before now = EndsAfter before job now × Stands a job now
IsTold NoEffect a job before now = Stands a job now
IsTold Later a job before now = Unit {0}

-- what a pass holds after a step, by its news: all effects so far, or what it held
abbrev pub HoldsAfter : News → List Effect → List Effect → List Effect → Type 0
HoldsAfter NoEffect all before now = now ≡ all
HoldsAfter Told all before now = now ≡ all
HoldsAfter Later all before now = now ≡ before

-- A step of this job was taken, and showed this. The pass then holds the run behind that step, which goes on from the one that it held. By
-- its news it holds the effects of that run, or those that it held.
pub record TellsSince (begun : Run) (job now : ℕ) (own : Option ℕ) (s : StoreStep) (before after : Held) : Type 0 where
  pub step : StepsSince begun before.run job now own s.out
  pub run : after.run ≡ and_event step.run (occurrence job now own (is_fault s.out.reply))
  pub told : HoldsAfter s.news (effects_of after.run) before.history after.history
  pub answered : IfSome s.out.answer (IsAnswered (trace_of after.run) job)

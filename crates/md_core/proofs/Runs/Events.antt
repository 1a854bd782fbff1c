-- One event: which job it is of, where it is refused, and that it would go the same with one more job.
use Rattle.std.proofs.Common.{ℕ, zero, suc, ◌≡◌, ◌<◌, ◌≤◌, ◌-◌, ◌++◌, ◌↔◌, List, [], ◌∷◌, Option, Some, None, refl, sym, ap, ◌∙◌, length, slice_get, arith}
use Rattle.std.proofs.lemmas.Option.{slice_get_within}
use Rattle.md_core.proofs.Values.{DirReply, Task, Moment, Turn, rows_for, Machine, Standing, working, Occurrence, job_at, task_of, turn_of, moment_of, standing_of, after_turn, reply_to, after_turn_of, after_event, step_of, step_by, step_refusal, option_map}
use Rattle.md_core.proofs.Lists.Places.{get-more, set-more}

-- numbers are places from 1 on
pub job_at-place : (jobs : List Standing) (number : ℕ) → 0 < number → job_at jobs number ≡ slice_get jobs (number - 1)
job_at-place jobs zero h = absurd (omega arith)
job_at-place jobs (suc i) h = let e : i ≡ suc i - 1 = omega arith in ap (slice_get jobs) e

pub job_at-within : (jobs : List Standing) (number : ℕ) (job : Standing) → job_at jobs number ≡ Some job → (0 < number) × (number ≤ length jobs)
job_at-within jobs zero job is = cc
job_at-within jobs (suc i) job is = let h = slice_get_within jobs i job is in (omega arith, omega arith)

-- an event goes on exactly where its job is there and has no answer
pub goes_on-exact : (o : Option Standing) → (step_refusal o ≡ None) ↔ ((task : Task) × (o ≡ Some (working task)))
goes_on-exact (Some (working task)) = (λ h. (task, refl), λ h. refl)
goes_on-exact other = (λ h. cc, λ h. cc)

-- of a job that is there and has no answer, an event is its turn
module _ (m : Machine) (e : Occurrence) (task : Task) (is : job_at m.jobs e.event.job ≡ Some (working task)) where
  abbrev pub at : Moment
  at = moment_of m.clock e.event

  abbrev pub turn : Turn Task
  turn = turn_of e.event.job task at

  pub happens-turned : after_event m e ≡ after_turn m e.event.job at turn (reply_to m at turn e.faulted)
  happens-turned = ap (λ o. after_turn_of m e (task_of o)) is

  pub done-turned : step_of m e ≡ Some (step_by m e task)
  done-turned = ap (λ o. option_map (step_by m e) (task_of o)) is

-- a machine with one more job
abbrev pub with_job : Machine → Standing → Machine
with_job m new = record { dirs = m.dirs; clock = m.clock; jobs = m.jobs ++ new ∷ []; effects = m.effects }

pub job_at-more : (jobs more : List Standing) (number : ℕ) (job : Standing) → job_at jobs number ≡ Some job → job_at (jobs ++ more) number ≡ Some job
job_at-more jobs more zero job is = cc
job_at-more jobs more (suc i) job is = get-more jobs more i job is

-- what happens to a job that was there would happen with one more job too
module _ (m : Machine) (new job : Standing) (e : Occurrence) (at : job_at m.jobs e.event.job ≡ Some job) where
  abbrev n : ℕ
  n = e.event.job

  within : n - 1 < length m.jobs
  within = let h = job_at-within m.jobs n job at in omega (arith, h.0, h.1)

  taken-with_job : (moment : Moment) (turn : Turn Task) (r : DirReply) → after_turn (with_job m new) n moment turn r ≡ with_job (after_turn m n moment turn r) new
  taken-with_job moment turn r =
      let after = turn.follows r (rows_for turn.asked m.dirs) in
      λ i. record {
        dirs = (after_turn m n moment turn r).dirs;
        clock = moment.clock;
        jobs = set-more m.jobs new (n - 1) (standing_of after.task after.answer) within i;
        effects = (after_turn m n moment turn r).effects;
      }

  met-with_job : (o : Option Task) → after_turn_of (with_job m new) e o ≡ with_job (after_turn_of m e o) new
  met-with_job None = refl
  met-with_job (Some task) = let moment = moment_of m.clock e.event in let turn =
      turn_of n task moment in taken-with_job moment turn (reply_to m moment turn e.faulted)

  pub happens-with_job : after_event (with_job m new) e ≡ with_job (after_event m e) new
  happens-with_job =
      ap (λ o. after_turn_of (with_job m new) e (task_of o)) (job_at-more m.jobs (new ∷ []) n job at)
      ∙ met-with_job (task_of (Some job))
      ∙ ap (λ (x : Machine). with_job x new) (sym (ap (λ o. after_turn_of m e (task_of o)) at))

-- All is good at each moment of a run.
use Rattle.std.proofs.Common.{ℕ, zero, suc, ◌+◌, ◌≡◌, ◌<◌, ◌++◌, inl, inr, List, [], ◌∷◌, Some, refl, sym, ap, subst, ◌∙◌, length, take, map, slice_get}
use Rattle.std.proofs.lemmas.Bool.{cases_order}
use Rattle.std.proofs.lemmas.List.{length-map}
use Rattle.md_core.proofs.Values.{Call, Task, Machine, Standing, working, answered, Occurrence, job_at, new_job, after_event, step_of, step_by, Step, Run, beginning, machine_at, machine_of, done_at, IsRun, MakesMessage, IsAccepted, Purpose, new_delivery, new_errand, option_and_then}
use Rattle.md_jobs.specs.declared.call.Call.TheVariants.{Deliver, Clean}
use Rattle.md_core.specs.Tasks.Task as task
use Rattle.md_core.proofs.Induction.Good.{IsGood, EachTurn, TaskFits, Found}
use Rattle.md_core.proofs.Lists.Places.{get-take}
use Rattle.md_core.proofs.Runs.Events.{goes_on-exact, done-turned}
use Rattle.md_core.proofs.Runs.ByEvent.{at_moment, at_last, moment-end, moment-more}
use Rattle.md_core.proofs.Worlds.Loading.Loaded.{loaded-one_path}
use Rattle.md_core.proofs.Induction.Going.{Goes, AllApart, goes}
use Rattle.md_core.proofs.Induction.Keeping.{good-kept}
use Rattle.md_core.proofs.Directories.Frames.{unused-no_message}
use Rattle.md_core.proofs.Machines.Errand.Table.Calls.{call_by, each-new}
use Rattle.md_core.proofs.Worlds.UniqueNames.{unique_name}
use Rattle.md_core.proofs.Machines.Errand.Table.Checks.{accepted, makes-fresh, accepted-errand}

-- a job at the beginning is a new job of the call of its place
pub new_at : (calls : List Call) (i : ℕ) (job : Standing) → slice_get (map new_job calls) i ≡ Some job →
    (call : Call) × (slice_get calls i ≡ Some call) × (job ≡ new_job call)
new_at [] i job at = cc
new_at (call ∷ calls) zero job at = (call, refl, cc)
new_at (call ∷ calls) (suc i) job at = new_at calls i job at

module _ (r : Run) (run : IsRun r) where
  -- what the call of a place was accepted with
  pub accepted-at : (i : ℕ) (asked : Call) → slice_get r.calls i ≡ Some asked → IsAccepted r.image (take i r.calls) asked
  accepted-at i asked at = accepted (record r { calls = take i r.calls }) asked (run.accepted i asked at)

  -- a new task fits the directories at the beginning
  module _ (earlier : List Call) where
    abbrev Fits : Call → Standing → Type 0
    Fits c job = IsAccepted r.image earlier c → (task : Task) → job ≡ working task → TaskFits r.image c task

    as-new : (c : Call) (new task : Task) → TaskFits r.image c new → working new ≡ working task → TaskFits r.image c task
    as-new c new task fits is = subst (TaskFits r.image c) (let e : new ≡ task = cc in e) fits

    fits-delivery : (folder : ℕ) (u body : List ℕ) (chunk : ℕ) → Fits (Deliver folder u body chunk) (working (task.Deliver (new_delivery folder u body chunk)))
    fits-delivery folder u body chunk a task = as-new (Deliver folder u body chunk) _ task (record {
      of = refl;
      in_tmp = refl;
      in_folder = a.0;
      name = unique_name u a.2.valid;
      chunked = a.1;
      stage = a.2.unused;
    })

    fits-errand : (folder : ℕ) (u : List ℕ) (p : Purpose) (tries : ℕ) → Fits (call_by folder u p tries) (working (task.Errand (new_errand folder u p tries)))
    fits-errand folder u p tries a task = let e = accepted-errand r.image earlier folder u p tries a in
        as-new (call_by folder u p tries) _ task (record {
          tries = tries;
          of = refl;
          in_folder = e.in_folder;
          to_folder = e.to_folder;
          valid = e.valid;
          is_for = e.is_for;
          none = λ v its. unused-no_message r.image v (makes-fresh r.image earlier (call_by folder u p tries) v a its).unused;
          stage = inl refl;
        })

    fits-new : (c : Call) → Fits c (new_job c)
    fits-new = each-new Fits fits-delivery fits-errand (λ folder a task. as-new (Clean folder) _ task refl)

  -- of two calls, the later doesn't make the name of the earlier
  not_again : (i j : ℕ) (a b : Call) (u : List ℕ) → i < j → slice_get r.calls i ≡ Some a → slice_get r.calls j ≡ Some b → MakesMessage a u →
      MakesMessage b u → ⊥
  not_again i j a b u less ata atb mine its =
      (makes-fresh r.image (take j r.calls) b u (accepted-at j b atb) its).unmade i a (get-take j r.calls i less ∙ ata) mine

  -- a new task has found nothing
  abbrev NoneFound : Standing → Type 0
  NoneFound (working task) = (u : List ℕ) (size : ℕ) → Found task u size → ⊥
  NoneFound (answered a) = Unit {0}

  none-found : (asked : Call) → NoneFound (new_job asked)
  none-found = each-new (λ c job. NoneFound job) (λ _ _ _ _ u size its. its) (λ _ _ _ _ u size its. its) (λ _ u size its. its)

  pub all-apart : AllApart r.calls
  all-apart i j a b differ ata atb u mine its = elim (cases_order i j) [
    | inl same ↦ differ same
    | inr other ↦ elim other [
      | inl less ↦ not_again i j a b u less ata atb mine its
      | inr more ↦ not_again j i b a u more atb ata its mine
    ]
  ]

  pub good-beginning : IsGood r.calls (beginning r.image r.clock r.calls)
  good-beginning = record {
    sound = run.sound;
    one_path = loaded-one_path r.image run.loaded;
    fits = λ i asked job of at.
        let new = new_at r.calls i (working job) at in
        let same : new.0 ≡ asked = (let e : Some new.0 ≡ Some asked = sym new.1 ∙ of in cc) in
        fits-new (take i r.calls) asked (accepted-at i asked of) job (ap new_job (sym same) ∙ sym new.2);
    found = λ i job u size at its. let new = new_at r.calls i (working job) at in absurd (subst NoneFound (sym new.2) (none-found new.0) u size its);
    as_many = length-map r.calls new_job;
  }

  module _ (turns : EachTurn) where
    pub good-moment : (k : ℕ) → IsGood r.calls (machine_at r k)
    good-moment = at_moment r run (λ es m. IsGood r.calls m) good-beginning
        (λ es m e t at good. good-kept r.calls all-apart m (after_event m e) (step_by m e t) (goes turns r.calls m e t good at) good)

    pub good-machine : IsGood r.calls (machine_of r)
    good-machine = subst (IsGood r.calls) (moment-end r) (good-moment (length r.events))

    -- event k, as it goes
    module _ (k : ℕ) (e : Occurrence) (at : slice_get r.events k ≡ Some e) where
      pub waits : (task : Task) × (job_at (machine_at r k).jobs e.event.job ≡ Some (working task))
      waits = (goes_on-exact (job_at (machine_at r k).jobs e.event.job)).0 (run.taken k e at)

      abbrev pub what-at : Step
      what-at = step_by (machine_at r k) e waits.0

      pub going-at : Goes r.calls (machine_at r k) (machine_at r (k + 1)) what-at
      going-at = subst (λ (m : Machine). Goes r.calls (machine_at r k) m what-at) (sym (moment-more r k e at))
          (goes turns r.calls (machine_at r k) e waits.0 (good-moment k) waits.1)

      pub done-what : done_at r k ≡ Some what-at
      done-what = ap (option_and_then (step_of (machine_at r k))) at ∙ done-turned (machine_at r k) e waits.0 waits.1

    -- What holds at the beginning, and is kept by each turn where all is good, holds at each moment.
    module _ (P : List Occurrence → Machine → Type 0) (start : P [] (beginning r.image r.clock r.calls))
        (step : (es : List Occurrence) (m m' : Machine) (e : Occurrence) (what : Step) → what.job ≡ e.event.job → IsGood r.calls m → Goes r.calls m m' what →
        P es m → P (es ++ e ∷ []) m') where
      abbrev Both : List Occurrence → Machine → Type 0
      Both es m = IsGood r.calls m × P es m

      both-more : (es : List Occurrence) (m : Machine) (e : Occurrence) (job : Task) → job_at m.jobs e.event.job ≡ Some (working job) → Both es m →
          Both (es ++ e ∷ []) (after_event m e)
      both-more es m e job at both =
          let g = goes turns r.calls m e job both.0 at in
          (good-kept r.calls all-apart m (after_event m e) (step_by m e job) g both.0, step es m (after_event m e) e (step_by m e job) refl both.0 g both.1)

      pub kept-moment : (k : ℕ) → P (take k r.events) (machine_at r k)
      kept-moment k = (at_moment r run Both (good-beginning, start) both-more k).1

      pub kept-machine : P r.events (machine_of r)
      kept-machine = (at_last r run Both (good-beginning, start) both-more).1

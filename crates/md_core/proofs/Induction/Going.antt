-- What an event of a waiting job does to a machine where all is good, as one record.
use Rattle.std.proofs.Common.{ℕ, suc, ◌≡◌, ◌≢◌, ◌-◌, ◌++◌, List, Option, Some, None, refl, sym, ap, subst, ◌∙◌, length, slice_get, slice_set, arith}
use Rattle.std.proofs.lemmas.Option.{slice_get_within}
use Rattle.md_dirs.proofs.Sound.{by_number, get-set_same, get-set_other}
use Rattle.md_core.proofs.Values.{Call, Answer, Task, rows_for, Machine, Standing, working, Occurrence, job_at, standing_of, after_event, step_by, reply_to, Step, option_to_list}
use Rattle.md_core.proofs.Induction.Good.{IsGood, IsApart, Does, EachTurn}
use Rattle.md_core.proofs.Lists.Places.{at_place, length-changed}
use Rattle.md_core.proofs.Runs.Events.{at, turn, job_at-place, job_at-within, happens-turned}

-- a machine before and after the turn of the job of a number, and what was done
pub record Goes (calls : List Call) (m m' : Machine) (what : Step) : Type 0 where
  pub place : ℕ
  pub number_is : what.job ≡ suc place
  pub asked : Call
  pub of : slice_get calls place ≡ Some asked
  pub task : Task
  pub there : slice_get m.jobs place ≡ Some (working task)
  pub task' : Task
  pub does : Does m.dirs m'.dirs what.job asked task what.asked what.reply (record { task = task'; answer = what.answer; effect = what.effect })
  pub jobs : m'.jobs ≡ slice_set m.jobs place (standing_of task' what.answer)
  pub effects : m'.effects ≡ m.effects ++ option_to_list what.effect

-- each job has its call
call-there : (calls : List Call) (jobs : List Standing) (i : ℕ) (job : Standing) → length jobs ≡ length calls → slice_get jobs i ≡ Some job →
    (asked : Call) × (slice_get calls i ≡ Some asked)
call-there calls jobs i job same is = at_place calls i
    (λ asked of. (asked, of))
    (λ past. absurd (let within = slice_get_within jobs i job is in omega arith))

pub goes : EachTurn → (calls : List Call) (m : Machine) (e : Occurrence) (task : Task) → IsGood calls m →
    job_at m.jobs e.event.job ≡ Some (working task) → Goes calls m (after_event m e) (step_by m e task)
goes turns calls m e task good is =
    let n = e.event.job in
    let moment = at m e task is in
    let next = turn m e task is in
    let r = reply_to m moment next e.faulted in
    let within = job_at-within m.jobs n (working task) is in
    let there : slice_get m.jobs (n - 1) ≡ Some (working task) = sym (job_at-place m.jobs n within.0) ∙ is in
    let from = call-there calls m.jobs (n - 1) (working task) good.as_many there in
    subst (λ (x : Machine). Goes calls m x (step_by m e task)) (sym (happens-turned m e task is)) (record {
      place = n - 1;
      number_is = omega (arith, within.0);
      asked = from.0;
      of = from.1;
      task = task;
      there = there;
      task' = (next.follows r (rows_for next.asked m.dirs)).task;
      does = turns m.dirs n from.0 task moment e.faulted good.sound good.one_path (good.fits (n - 1) from.0 task from.1 there)
          (λ u size its. (good.found (n - 1) task u size there its).has_size);
      jobs = refl;
      effects = refl;
    })

module _ (calls : List Call) (m m' : Machine) (what : Step) (g : Goes calls m m' what) where
  -- how the job that took its turn stands then
  abbrev pub standing : Standing
  standing = standing_of g.task' what.answer

  -- a job after a turn is the one that took it, as it stands then, or another, as it was
  pub goes-cases : {C : Type 0} (j : ℕ) (job : Standing) → slice_get m'.jobs j ≡ Some job → (j ≡ g.place → job ≡ standing → C) →
      (j ≢ g.place → slice_get m.jobs j ≡ Some job → C) → C
  goes-cases j job is here other =
      let is' : slice_get (slice_set m.jobs g.place standing) j ≡ Some job = ap (λ (js : List Standing). slice_get js j) (sym g.jobs) ∙ is in
      let within = slice_get_within m.jobs g.place (working g.task) g.there in
      by_number j g.place
      (λ same. let now = ap (slice_get (slice_set m.jobs g.place standing)) same ∙
      get-set_same m.jobs g.place standing within in here same (let e : Some job ≡ Some standing = sym is' ∙ now in cc))
      (λ differ. other differ (sym (get-set_other m.jobs g.place j standing differ) ∙ is'))

  -- the job that took its turn, and another, after it
  pub goes-here : slice_get m'.jobs g.place ≡ Some standing
  goes-here = ap (λ (js : List Standing). slice_get js g.place) g.jobs ∙
      get-set_same m.jobs g.place _ (slice_get_within m.jobs g.place (working g.task) g.there)

  pub goes-others : (j : ℕ) → j ≢ g.place → slice_get m'.jobs j ≡ slice_get m.jobs j
  goes-others j differ = ap (λ (js : List Standing). slice_get js j) g.jobs ∙ get-set_other m.jobs g.place j _ differ

  pub goes-as_many : length m'.jobs ≡ length m.jobs
  goes-as_many = ap length g.jobs ∙ length-changed m.jobs g.place _

-- a job that works on has no answer
pub still-working : (task task' : Task) (o : Option Answer) → working task ≡ standing_of task' o → (o ≡ None) × (task ≡ task')
still-working task task' None is = (refl, cc)
still-working task task' (Some a) is = cc

-- no two of the calls make one name
abbrev pub AllApart : List Call → Type 0
AllApart calls = (i j : ℕ) (a b : Call) → i ≢ j → slice_get calls i ≡ Some a → slice_get calls j ≡ Some b → IsApart a b

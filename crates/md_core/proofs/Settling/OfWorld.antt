-- What a settled world keeps. And which job has no answer, by what a world keeps of its jobs.
use Rattle.std.proofs.Common.{ℕ, ◌≡◌, ◌+◌, List, [], ◌∷◌, Option, Some, None, Bool, ◌||◌, cond, IfSome, not, nat_lt, option_map, position, refl, sym, ap, subst, ◌∙◌}
use Rattle.std.proofs.lemmas.List.{length-map}
use Rattle.md_core.proofs.Values.{Effect, Event, Machine, is_working, Run, IsRun, position_or_len, is_among, CoversBy, Device, first_unanswered, settled, JobView, standings, Used, IsWorld, run_of, machine_by}
use Rattle.md_used.specs.Used.{IsAllOf}
use Rattle.md_core.proofs.Worlds.Before.{covered}
use Rattle.md_core.proofs.Worlds.Submitted.{begun-world}
use Rattle.md_core.proofs.Settling.EachRun.{is_run-settled}

place-standings : (jobs : List JobView) → position_or_len is_working (standings jobs) ≡ position_or_len (λ job. is_working job.standing) jobs
place-standings [] = refl
place-standings (job ∷ jobs) = ap (λ n. cond (not (is_working job.standing)) (1 + n) 0) (place-standings jobs)

position-standings : (jobs : List JobView) → position is_working (standings jobs) ≡ position (λ job. is_working job.standing) jobs
position-standings jobs =
    λ i. cond (nat_lt (place-standings jobs i) (length-map jobs (λ (job : JobView). job.standing) i)) (Some (place-standings jobs i)) None

module _ (first : Device) (began : ℕ) (jobs : List JobView) (events : List Event) (marks : List Bool) (held : Device) (clock : ℕ) (effects : List Effect)
    (used : Used) (world : IsWorld (run_of first began jobs events marks) (machine_by held clock jobs effects) held used events marks) where
  abbrev run : Run
  run = run_of first began jobs events marks

  settled-is : run_of held clock [] [] [] ≡ settled run
  settled-is = λ i. record {
    image = (world.now i).dirs;
    clock = (world.now i).clock;
    failures = world.failed i;
    calls_made = world.called i;
    calls = [];
    events = [];
  }

  begins : IsRun (run_of held clock [] [] [])
  begins = subst (λ (r : Run). IsRun r) (sym settled-is) (is_run-settled run world.run)

  -- with all names that are kept, or without them
  pub settled-world : (kept : Used) → kept.since ≡ [] → IfSome kept.were (IsAllOf used.since used.were) →
      IsWorld (run_of held clock [] [] []) (machine_by held clock [] []) held kept [] []
  settled-world kept none all = begun-world held begins.sound begins.loaded clock begins.stamped kept (record {
    since = none;
    covers = by used.were (covered first began jobs events marks held clock effects used world) kept.were all;
  })
    where
      by : (were : Option (List (List ℕ))) → CoversBy held.state used.since were → (o : Option (List (List ℕ))) →
          IfSome o (IsAllOf used.since were) → CoversBy held.state kept.since o
      by were covers None all = tt
      by None covers (Some names) all = absurd all
      by (Some names) covers (Some more) all = λ u is.
          ap (λ since. is_among u since || is_among u more) none ∙ all u ∙ covers u is

  -- the first job without an answer, by the jobs that are held
  pub unanswered-is : (r : Run) → run ≡ r → first_unanswered r ≡ option_map (λ at. at + 1) (position (λ job. is_working job.standing) jobs)
  unanswered-is r view =
      ap first_unanswered (sym view)
      ∙ ap (λ (m : Machine). option_map (λ at. at + 1) (position is_working m.jobs)) (sym world.now)
      ∙ ap (option_map (λ at. at + 1)) (position-standings jobs)

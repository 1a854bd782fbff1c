-- A world with one more job keeps what a world keeps, of the run with one more call. And a world at its beginning.
use Rattle.std.proofs.Common.{ℕ, ◌≡◌, ◌≤◌, ◌++◌, ◌∙◌, List, [], ◌∷◌, Some, None, Bool, true, false, ◌||◌, refl, sym, ap, subst, slice_get, arith}
use Rattle.std.proofs.lemmas.List.{map-append}
use Rattle.md_core.proofs.Values.{State, IsSound, Effect, Event, Call, Machine, new_job, Run, beginning, machine_of, and_call, first_clock, effects_of, is_among, list_any, Device, JobView, job_of, load_refusal, submit_refusal, makes, is_used, is_used_before, Used, IsWorld, AreUsed, run_of, machine_by, Covers, KeepsMade, KeepsUsed, holds, may_change, may_take}
use Rattle.md_core.proofs.Lists.Places.{at_end}
use Rattle.md_core.proofs.Worlds.Holding.{take-holds}
use Rattle.md_core.proofs.Runs.Events.{with_job}
use Rattle.md_core.proofs.Runs.ByEvent.{machine-and_call, run_from-none}
use Rattle.md_core.proofs.Runs.Extended.{is_run-and_call, is_run-begun}

pub any-push : {X : Type 0} (p : X → Bool) (xs : List X) (x : X) → list_any p (xs ++ x ∷ []) ≡ (list_any p xs || p x)
any-push p [] x = by (p x)
  where
    by : (b : Bool) → (b || false) ≡ (false || b)
    by true = refl
    by false = refl
any-push p (y ∷ xs) x = ap (λ b. p y || b) (any-push p xs x) ∙ by (p y) (list_any p xs) (p x)
  where
    by : (a b c : Bool) → (a || (b || c)) ≡ ((a || b) || c)
    by true b c = refl
    by false b c = refl

pub or_true : (b : Bool) → (b || true) ≡ true
or_true true = refl
or_true false = refl

-- names that are taken away are used up already
absorbed : (makes takes since holds : Bool) → (takes ≡ true → holds ≡ true) →
    (((makes || takes) || since) || holds) ≡ (makes || (since || holds))
absorbed true takes since holds more = refl
absorbed false true true holds more = refl
absorbed false true false holds more = sym (more refl)
absorbed false false since holds more = refl

or_none : (b : Bool) → b ≡ (b || false)
or_none true = refl
or_none false = refl

last_first : (a b c : Bool) → (c || (a || b)) ≡ (a || (b || c))
last_first true true true = refl
last_first true true false = refl
last_first true false true = refl
last_first true false false = refl
last_first false true true = refl
last_first false true false = refl
last_first false false true = refl
last_first false false false = refl

module _ (first : Device) (began : ℕ) (jobs : List JobView) (events : List Event) (marks : List Bool) (held : Device) (clock : ℕ) (effects : List Effect)
    (used : Used) (asked : Call) where
  abbrev pub run : Run
  run = run_of first began jobs events marks

  -- the run of the world's fields with the job is the run with one more call
  pub run-submitted : run_of first began (jobs ++ job_of asked ∷ []) events marks ≡ and_call run asked
  run-submitted = λ i. record run { calls = map-append (λ job. job.call) jobs (job_of asked ∷ []) i }

  kept-submitted : machine_by held clock (jobs ++ job_of asked ∷ []) effects ≡ with_job (machine_by held clock jobs effects) (new_job asked)
  kept-submitted = λ i. record { dirs = held.state; clock = clock; jobs = map-append (λ job. job.standing) jobs (job_of asked ∷ []) i; effects = effects }

  -- the names that are used up then
  used-submitted : (u : List ℕ) → (makes u asked || is_used run u) ≡ is_used (and_call run asked) u
  used-submitted u =
      last_first (holds first.state u) (list_any (makes u) run.calls) (makes u asked)
      ∙ ap (λ b. holds first.state u || b) (sym (any-push (makes u) run.calls asked))

  module _ (world : IsWorld run (machine_by held clock jobs effects) held used events marks) where
    moved : machine_by held clock (jobs ++ job_of asked ∷ []) effects ≡ machine_of (and_call run asked)
    moved = kept-submitted ∙ ap (λ (m : Machine). with_job m (new_job asked)) world.now ∙ sym (machine-and_call run world.run asked)

    -- what the calls so far may change, now
    changed-now : (i : ℕ) (call : Call) → slice_get run.calls i ≡ Some call → (u : List ℕ) → may_change held.state call u ≡ true →
        is_among u used.since ≡ true
    changed-now i call at u is = world.names.changed i call at u (sym (ap (λ (m : Machine). may_change m.dirs call u) world.now) ∙ is)

    pub used-now : (u : List ℕ) → is_used_before held.state used u ≡ is_used run u
    used-now u = ap (λ (m : Machine). is_used_before m.dirs used u) world.now ∙ world.names.same u

    still-used : (kept : Used) → KeepsMade held.state asked used kept → AreUsed (and_call run asked) kept
    still-used kept made = record {
      changed = λ i call at u is.
          let now : may_change held.state call u ≡ true = ap (λ (m : Machine). may_change m.dirs call u) moved ∙ is in
          made.since u ∙ at_end run.calls asked i call at
          (λ early. ap (λ b. may_change held.state asked u || b) (changed-now i call early u now) ∙ or_true (may_change held.state asked u))
          (λ last same. ap (λ b. b || is_among u used.since) (ap (λ (c : Call). may_change held.state c u) (sym same) ∙ now));
      same = λ u. ap (λ (m : Machine). is_used_before m.dirs kept u) (sym moved)
          ∙ ap (λ b. b || holds held.state u) (made.since u)
          ∙ absorbed (makes u asked) (may_take held.state asked u) (is_among u used.since) (holds held.state u) (take-holds held.state asked u)
          ∙ ap (λ b. makes u asked || b) (used-now u)
          ∙ used-submitted u;
      covers = subst (λ (m : Machine). Covers m.dirs kept) moved made.covers;
    }

    -- where the submit is refused the world is as it was
    pub refused-kept : (kept : Used) → KeepsUsed held.state used kept →
        IsWorld run (machine_by held clock jobs effects) held kept events marks
    refused-kept kept same = record {
      run = world.run;
      now = world.now;
      failed = world.failed;
      called = world.called;
      names = record {
        changed = λ i call at u is. same.since.kept u (world.names.changed i call at u is);
        same = λ u. ap (λ (m : Machine). is_used_before m.dirs kept u) (sym world.now) ∙ same.since.same u ∙ used-now u;
        covers = subst (λ (m : Machine). Covers m.dirs kept) world.now same.covers;
      };
      as_many = world.as_many;
    }

    -- the names that are kept from then on
    pub submit-kept : submit_refusal run asked ≡ None → (kept : Used) → KeepsMade held.state asked used kept →
        IsWorld (run_of first began (jobs ++ job_of asked ∷ []) events marks)
        (machine_by held clock (jobs ++ job_of asked ∷ []) effects) held kept events marks
    submit-kept goes kept made = subst
        (λ (r : Run). IsWorld r (machine_by held clock (jobs ++ job_of asked ∷ []) effects) held kept events marks)
        (sym run-submitted) (record {
          run = is_run-and_call run asked world.run goes;
          now = moved;
          failed = world.failed;
          called = world.called;
          names = still-used kept made;
          as_many = world.as_many;
        })

    -- a submit is no effect
    pub effects-submitted : effects_of (and_call run asked) ≡ effects_of run
    effects-submitted = ap (λ (m : Machine). m.effects) (machine-and_call run world.run asked)

-- no name is kept of a run, and those that were gathered have all that the directories use
pub record IsBare (s : State) (used : Used) : Type 0 where
  pub since : used.since ≡ []
  pub covers : Covers s used

-- A world at its beginning, over directories that may be loaded, by a clock that none of their stamps is past.
pub begun-world : (first : Device) → IsSound first.state → load_refusal first.state ≡ None → (clock : ℕ) → first_clock first.state ≤ clock →
    (used : Used) → IsBare first.state used → IsWorld (run_of first clock [] [] []) (machine_by first clock [] []) first used [] []
begun-world first sound loaded clock stamped used bare = record {
  run = is_run-begun first.state clock first.failures first.calls sound loaded stamped;
  now = sym now;
  failed = omega arith;
  called = omega arith;
  names = record {
    changed = λ i call at. cc;
    same = λ u. ap (λ (m : Machine). is_used_before m.dirs used u) now ∙ ap (λ ns. is_among u ns || holds first.state u) bare.since
        ∙ or_none (holds first.state u);
    covers = subst (λ (m : Machine). Covers m.dirs used) (sym now) bare.covers;
  };
  as_many = refl;
}
  where
    now : machine_of (run_of first clock [] [] []) ≡ beginning first.state clock []
    now = run_from-none (beginning first.state clock [])

-- An errand is answered that it is lost only where others took its message away from it as often as it has tries.
use Rattle.std.proofs.Common.{ℕ, suc, ◌≡◌, ◌≢◌, ◌<◌, ◌≤◌, ◌+◌, inl, inr, List, Some, None, true, false, cond, nat_lt, sym, ap, subst, arith}
use Rattle.std.proofs.lemmas.Bool.{cases_lt}
use Rattle.std.proofs.lemmas.Bool.Decides.{nat_tests}
use Rattle.md_dirs.specs.State.{file_at}
use Rattle.md_dirs.specs.declared.paths.Path.{Path}
use Rattle.md_name.specs.Names.{unique_of}
use Rattle.md_jobs.specs.declared.call.Call.{Call}
use Rattle.md_jobs.specs.declared.call.Call.TheVariants as call
use Rattle.md_used.specs.Paths.{is_message}
use Rattle.md_core.proofs.Answers.Turns.OneMessage.{Trying, idle, looking, acting, TriesOn, IsOver}
use Rattle.md_core.proofs.Machines.Errand.Table.Calls.{sought, tries_in}
use Rattle.md_beside.specs.Story.{Story, Step, ours, step_at, state, standing, standing_from}
use Rattle.md_beside.specs.Beside.{IsStepOf, IsTakenAt, IsTakenAway, IsLost}
use Rattle.md_beside.proofs.ErrandSteps.{IsErrand, trying}
use Rattle.md_beside.proofs.Held.{Held, held-beside}

module _ (t : Story) (job : ℕ) (u : List ℕ) where
  -- others have taken the message away so often, before a moment
  abbrev pub TakenBy : ℕ → ℕ → Type 0
  TakenBy m times = (away : IsTakenAway t job u times) × ((i : ℕ) → i < times → away.step i < m)

  taken-none : (m : ℕ) → TakenBy m 0
  taken-none m = (
    record {
      step = λ i. i;
      taken = λ i low. absurd (omega (arith, low));
      rise = λ i j less low. absurd (omega (arith, low));
    },
    λ i low. absurd (omega (arith, low)),
  )

  taken-later : (m m' times : ℕ) → m ≤ m' → TakenBy m times → TakenBy m' times
  taken-later m m' times later by = (by.0, λ i low. let before = by.1 i low in omega (arith, before, later))

  -- once more
  module _ (m times : ℕ) (by : TakenBy m times) (j : ℕ) (after : m ≤ j) (taken : IsTakenAt t job u j) where
    abbrev step : ℕ → ℕ
    step i = cond (nat_lt i times) (by.0.step i) j

    early : (i : ℕ) → i < times → step i ≡ by.0.step i
    early i low = let is : nat_lt i times ≡ true = grind (arith, nat_tests, low) in ap (λ b. cond b (by.0.step i) j) is

    late : (i : ℕ) → times ≤ i → step i ≡ j
    late i past = let is : nat_lt i times ≡ false = grind (arith, nat_tests, past) in ap (λ b. cond b (by.0.step i) j) is

    taken-at : (i : ℕ) → i < suc times → IsTakenAt t job u (step i)
    taken-at i low = elim (cases_lt i times) [
      | inl before ↦ subst (IsTakenAt t job u) (sym (early i before)) (by.0.taken i before)
      | inr past ↦ subst (IsTakenAt t job u) (sym (late i (omega (arith, past)))) taken
    ]

    rises : (i k : ℕ) → i < k → k < suc times → step i < step k
    rises i k less low =
        let first : i < times = omega (arith, less, low) in
        let is = early i first in
        elim (cases_lt k times) [
          | inl before ↦ (let is' = early k before in let rise = by.0.rise i k less before in omega (arith, is, is', rise))
          | inr past ↦ (let is' = late k (omega (arith, past)) in let before = by.1 i first in omega (arith, is, is', before, after))
        ]

    ends : (i : ℕ) → i < suc times → step i < suc j
    ends i low = elim (cases_lt i times) [
      | inl before ↦ (let is = early i before in let first = by.1 i before in omega (arith, is, first, after))
      | inr past ↦ (let is = late i (omega (arith, past)) in omega (arith, is))
    ]

    taken-more : TakenBy (suc j) (suc times)
    taken-more = (record { step = step; taken = taken-at; rise = rises }, ends)

  -- ---- how often it has tried

  pub record Looked (k : ℕ) (p : Path) (times : ℕ) : Type 0 where
    pub look : ℕ
    pub own : IsStepOf t job look
    pub before : look < k
    pub taken : TakenBy look times
    pub message : is_message p ≡ true
    pub unique : unique_of p.name ≡ u
    pub held : Held t job look k p

  -- of so many tries at the beginning
  abbrev pub TriedAt : ℕ → ℕ → Trying → Type 0
  TriedAt tries k idle = Unit {0}
  TriedAt tries k (looking left) = (times : ℕ) × (times + left ≡ tries) × TakenBy k times
  TriedAt tries k (acting p left) = (times : ℕ) × (times + left ≡ tries) × Looked k p times

  module _ (tries k : ℕ) (x : Step) (is : step_at t k ≡ Some x) where
    pub tried-beside : x.who ≢ ours job → (trying : Trying) → TriedAt tries k trying → TriedAt tries (suc k) trying
    tried-beside not-own idle tried = tt
    tried-beside not-own (looking left) (times, sum, taken) = (times, sum, taken-later k (suc k) times (omega arith) taken)
    tried-beside not-own (acting p left) (times, sum, looked) =
        let low = looked.before in (
          times,
          sum,
          record {
            look = looked.look;
            own = looked.own;
            before = omega (arith, low);
            taken = looked.taken;
            message = looked.message;
            unique = looked.unique;
            held = held-beside t job k x is looked.look p not-own low looked.held;
          },
        )

    module _ (who : x.who ≡ ours job) where
      this : IsStepOf t job k
      this = record { step = x; at = is; own = who }

      -- the path was gone when the job acted on it
      more : (p : Path) (times : ℕ) → Looked k p times → file_at (state t k) p ≡ None → TakenBy (suc k) (suc times)
      more p times looked gone = elim looked.held [
        | inl there ↦ absurd (there gone)
        | inr (j, after, before, (y, at, other, was, none)) ↦
            taken-later (suc j) (suc k) (suc times) (omega (arith, before))
            (taken-more looked.look times looked.taken j (omega (arith, after)) (record {
              step = y;
              at = at;
              by_another = other;
              path = p;
              message = looked.message;
              unique = looked.unique;
              was = was;
              gone = none;
              in_span = record {
                from = looked.look;
                to = k;
                begun = looked.own;
                goes_on = this;
                after = omega (arith, after);
                before = omega (arith, before);
              };
            }))
      ]

      pub tried-on : (trying next : Trying) → TriesOn (state t k) (state t (suc k)) u trying next → TriedAt tries k trying →
          TriedAt tries (suc k) next
      tried-on idle next on tried = absurd on
      tried-on (looking left) idle on tried = absurd on
      tried-on (looking left) (looking left') on (times, sum, taken) =
          (times, omega (arith, sum, on), taken-later k (suc k) times (omega arith) taken)
      tried-on (looking left) (acting p left') on (times, sum, taken) =
          let same = on.0 in
          let there = on.1.there in (
            times,
            omega (arith, sum, same),
            record {
              look = k;
              own = this;
              before = omega arith;
              taken = taken;
              message = on.1.message;
              unique = on.1.unique;
              held = inl (λ none. (cc));
            },
          )
      tried-on (acting p left) idle on tried = absurd on
      tried-on (acting p left) (looking left') on (times, sum, looked) =
          let less = on.0 in (suc times, omega (arith, sum, less), more p times looked on.1)
      tried-on (acting p left) (acting q left') on tried = absurd on

      -- the last try is over
      pub over : (trying : Trying) → IsOver (state t k) trying → TriedAt tries k trying → IsTakenAway t job u tries
      over idle is-over tried = absurd is-over
      over (looking left) is-over tried = absurd is-over
      over (acting p left) is-over (times, sum, looked) =
          let last = is-over.0 in
          let all : tries ≤ suc times = omega (arith, sum, last) in
          let away = (more p times looked is-over.1).0 in
          record {
            step = away.step;
            taken = λ i low. away.taken i (omega (arith, low, all));
            rise = λ i j less low. away.rise i j less (omega (arith, low, all));
          }

-- at the beginning it has all its tries
pub tried-first : (t : Story) (job : ℕ) (c : Call) → IsErrand c → TriedAt t job (sought c) (tries_in c) 0 (trying (standing t job c 0))
unfolding standing_from
tried-first t job (call.Seen folder u flags tries) errand = (0, omega arith, taken-none t job u 0)
tried-first t job (call.Flag folder u add remove tries) errand = (0, omega arith, taken-none t job u 0)
tried-first t job (call.Move folder u to tries) errand = (0, omega arith, taken-none t job u 0)
tried-first t job (call.Expunge folder u tries) errand = (0, omega arith, taken-none t job u 0)
tried-first t job (call.Copy folder u to fresh tries) errand = (0, omega arith, taken-none t job u 0)
tried-first t job (call.Deliver folder u body chunk) errand = absurd errand
tried-first t job (call.Clean folder) errand = absurd errand

pub is-lost : (t : Story) (job : ℕ) (c : Call) → IsErrand c → IsTakenAway t job (sought c) (tries_in c) → IsLost t job c
is-lost t job (call.Seen folder u flags tries) errand away = away
is-lost t job (call.Flag folder u add remove tries) errand away = away
is-lost t job (call.Move folder u to tries) errand away = away
is-lost t job (call.Expunge folder u tries) errand away = away
is-lost t job (call.Copy folder u to fresh tries) errand away = away
is-lost t job (call.Deliver folder u body chunk) errand away = absurd errand
is-lost t job (call.Clean folder) errand away = absurd errand

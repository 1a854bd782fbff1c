-- How far a job of a story is, step by step, and which effect it has had: by the end that of its answer, or none.
use Rattle.std.proofs.Common.{ℕ, zero, suc, ◌≡◌, ◌<◌, ◌≤◌, inl, inr, List, [], ◌∷◌, Option, Some, None, MatchBool, IfSome, MatchOption, Bool, true, false, cond, nat_eq, refl, sym, ap, subst, ◌∙◌, arith, length, take, slice_get}
use Rattle.std.proofs.lemmas.Bool.{cases_lt}
use Rattle.std.proofs.lemmas.Bool.Decides.{nat_tests}
use Rattle.std.proofs.lemmas.Option.{slice_get_within}
use Rattle.std.specs.Option.{option_map_or, option_or}
use Rattle.md_dirs.proofs.Sound.{by_number}
use Rattle.md_dirs.specs.State.{State}
use Rattle.md_jobs.specs.Turn.{After}
use Rattle.md_jobs.specs.declared.answer.Answer.{Answer}
use Rattle.md_jobs.specs.declared.call.Call.{Call}
use Rattle.md_jobs.specs.declared.effect.Effect.{Effect}
use Rattle.md_core.specs.Alone.{alone}
use Rattle.md_core.specs.Machine.{Standing, working, answered, standing_of, new_job}
use Rattle.md_core.specs.Stepping.{AsAlone}
use Rattle.md_core.specs.Tasks.Task.{Task}
use Rattle.md_core.proofs.Induction.Good.{Settles, own_effect}
use Rattle.md_core.proofs.Lists.Places.{at_place}
use Rattle.md_core.proofs.Machines.Errand.Table.Calls.{each-new}
use Rattle.md_beside.specs.Story.{Story, Step, Who, ours, another, step_at, after_did, state, state_after, box, standing, standing_from, standing_after, is_by}
use Rattle.md_beside.specs.Beside.{IsStepOf, IsAnswered, TakesEffect, Acts}
use Rattle.md_beside.proofs.EachMoment.{each-moment}
use Rattle.md_beside.proofs.OneEffect.{HasHad, had-nothing, had-still, had-next}

-- ---- how far a job is

-- after one step more
pub standing-more : (job : ℕ) (s : State) (steps : List Step) (st : Standing) (k : ℕ) (x : Step) → slice_get steps k ≡ Some x →
    standing_from job s (take (suc k) steps) st
    ≡ cond (is_by job x.who) (standing_after job (state_after s (take k steps)) x (standing_from job s (take k steps) st))
    (standing_from job s (take k steps) st)
unfolding standing_from state_after
standing-more job s [] st k x is = cc
standing-more job s (y ∷ steps) st zero x is =
    ap (λ (o : Option Step). option_map_or (λ (z : Step). cond (is_by job z.who) (standing_after job s z st) st) o st) is
standing-more job s (y ∷ steps) st (suc k) x is =
    standing-more job (after_did y.did y.at.clock y.reply s) steps (cond (is_by job y.who) (standing_after job s y st) st) k x is

pub itself : (n : ℕ) → nat_eq n n ≡ true
itself n = grind (arith, nat_tests)

-- who is not the job
pub not-by : (job : ℕ) (w : Who) → (w ≡ ours job → ⊥) → is_by job w ≡ false
not-by job (another actor) not = refl
not-by job (ours n) not = by (nat_eq n job) refl
  where
    by : (b : Bool) → nat_eq n job ≡ b → b ≡ false
    by false same = refl
    by true same = let one : n ≡ job = grind (arith, nat_tests, same) in absurd (not (ap ours one))

-- who takes a step is the job or another
pub by-who : {C : Type 0} (w : Who) (job : ℕ) → (w ≡ ours job → C) → ((w ≡ ours job → ⊥) → C) → C
by-who (another actor) job own other = other (λ its. (let e : another actor ≡ ours job = its in cc))
by-who (ours n) job own other = by_number n job (λ same. own (ap ours same))
    (λ differ. other (λ its. let e : ours n ≡ ours job = its in let same : n ≡ job = cc in differ same))

module _ (t : Story) (job : ℕ) (c : Call) (k : ℕ) (x : Step) (is : step_at t k ≡ Some x) where
  -- after a step of its own
  pub stands-own : x.who ≡ ours job → standing t job c (suc k) ≡ standing_after job (state t k) x (standing t job c k)
  stands-own who = standing-more job t.image t.steps (new_job c) k x is
      ∙ ap (λ (w : Who). cond (is_by job w) (standing_after job (state t k) x (standing t job c k)) (standing t job c k)) who
      ∙ ap (λ (b : Bool). cond b (standing_after job (state t k) x (standing t job c k)) (standing t job c k)) (itself job)

  -- after another's
  pub stands-beside : (x.who ≡ ours job → ⊥) → standing t job c (suc k) ≡ standing t job c k
  stands-beside not-own = standing-more job t.image t.steps (new_job c) k x is
      ∙ ap (λ (b : Bool). cond b (standing_after job (state t k) x (standing t job c k)) (standing t job c k)) (not-by job x.who not-own)

  -- which is no step of its own
  not-its : (x.who ≡ ours job → ⊥) → IsStepOf t job k → ⊥
  not-its not-own own =
      let e : Some own.step ≡ Some x = sym own.at ∙ is in
      let one : own.step ≡ x = cc in not-own (ap (λ (y : Step). y.who) (sym one) ∙ own.own)

  -- an answer stays
  stays-answered : (a : Answer) → standing t job c k ≡ answered a → standing t job c (suc k) ≡ answered a
  stays-answered a was =
      standing-more job t.image t.steps (new_job c) k x is
      ∙ ap (λ (st : Standing). cond (is_by job x.who) (standing_after job (state t k) x st) st) was
      ∙ same_either (is_by job x.who)
    where
      same_either : (b : Bool) → cond b (answered a) (answered a) ≡ answered a
      same_either true = refl
      same_either false = refl

-- ---- which effect it has had

-- that of its task, or of its answer
abbrev pub Had : Story → ℕ → ℕ → Standing → Type 0
Had t k job (working task) = HasHad t job k (own_effect job task)
Had t k job (answered a) = (had : Option Effect) × HasHad t job k had × Settles had a

module _ (t : Story) (job k : ℕ) where
  had-beside : (IsStepOf t job k → ⊥) → (st : Standing) → Had t k job st → Had t (suc k) job st
  had-beside not-its (working task) had = had-still t job k not-its (own_effect job task) had
  had-beside not-its (answered a) had = (had.0, had-still t job k not-its had.0 had.1, had.2)

  module _ (x : Step) (is : step_at t k ≡ Some x) (who : x.who ≡ ours job) (task : Task) (after : After Task) where
    -- with its effect the job has had that, and else what it had before
    abbrev now : Option Effect
    now = option_or after.effect (own_effect job task)

    had-after : (o : Option Answer) → HasHad t job (suc k) now → MatchOption o (own_effect job after.task ≡ now) (Settles now) →
        Had t (suc k) job (standing_of after.task o)
    had-after None had settles = subst (HasHad t job (suc k)) (sym settles) had
    had-after (Some a) had settles = (now, had, settles)

    pub had-own : x.effect ≡ after.effect → IfSome after.effect (λ e. own_effect job task ≡ None) →
        MatchOption after.answer (own_effect job after.task ≡ now) (Settles now) → Had t k job (working task) →
        Had t (suc k) job (standing_of after.task after.answer)
    had-own affects first settles had =
        had-after after.answer (had-next t job k x is who after.effect (own_effect job task) affects first had) settles

-- at the beginning none
had-first : (t : Story) (job : ℕ) (c : Call) → Had t 0 job (standing t job c 0)
unfolding standing_from
had-first t job c = each-new (λ c' st. Had t 0 job st) (λ folder u body chunk. had-nothing t job 0)
    (λ folder u p tries. had-nothing t job 0) (λ folder. had-nothing t job 0) c

-- ---- by the end

-- what a step of the job's own does
pub record OwnStep (t : Story) (k job : ℕ) (x : Step) (c : Call) : Type 0 where
  pub as_alone : AsAlone c x.effect (box t k) (box t (suc k))
  pub answers : (a : Answer) → x.answer ≡ Some a → standing t job c (suc k) ≡ answered a
  pub had : Had t k job (standing t job c k) → Had t (suc k) job (standing t job c (suc k))

module _ (t : Story) (job : ℕ) (c : Call) (own : (k : ℕ) (x : Step) → step_at t k ≡ Some x → x.who ≡ ours job → OwnStep t k job x c) where
  had-at : (k : ℕ) → k ≤ length t.steps → Had t k job (standing t job c k)
  had-at = each-moment t (λ k. Had t k job (standing t job c k)) (had-first t job c)
      (λ k x is had. by-who x.who job (λ who. (own k x is who).had had)
      (λ not-own. subst (Had t (suc k) job) (sym (stands-beside t job c k x is not-own))
      (had-beside t job k (not-its t job c k x is not-own) (standing t job c k) had)))

  answered-at : (a : Answer) (k : ℕ) → standing t job c k ≡ answered a → (n : ℕ) → k ≤ n → n ≤ length t.steps →
      standing t job c n ≡ answered a
  answered-at a k was zero above low =
      let first : k ≡ 0 = omega (arith, above) in subst (λ (m : ℕ). standing t job c m ≡ answered a) first was
  answered-at a k was (suc n) above low = elim (cases_lt n k) [
    | inl last ↦ let end : k ≡ suc n = omega (arith, above, last) in subst (λ (m : ℕ). standing t job c m ≡ answered a) end was
    | inr before ↦ at_place t.steps n
        (λ x is. stays-answered t job c n x is a (answered-at a k was n (omega (arith, before)) (omega (arith, low))))
        (λ past. absurd (omega (arith, low, past)))
  ]

  -- at the end it has its answer
  pub answered-all : (a : Answer) → IsAnswered t job a → standing t job c (length t.steps) ≡ answered a
  answered-all a gave =
      let x = gave.last.step in
      let within = slice_get_within t.steps gave.k x gave.last.at in
      let then = (own gave.k x gave.last.at gave.last.own).answers a gave.answer in
      answered-at a (suc gave.k) then (length t.steps) (omega (arith, within)) (omega arith)

  -- what an answered job has had
  had-all : (a : Answer) → IsAnswered t job a → (had : Option Effect) × HasHad t job (length t.steps) had × Settles had a
  had-all a gave = subst (Had t (length t.steps) job) (answered-all a gave) (had-at (length t.steps) (omega arith))

  within-all : (k : ℕ) (own : IsStepOf t job k) → k < length t.steps
  within-all k own = slice_get_within t.steps k own.step own.at

  effect-at : (a : Answer) (e : Effect) → e.answer ≡ a → HasHad t job (length t.steps) (Some e) → TakesEffect t job c a
  effect-at a e says had = record {
    k = had.0;
    effect = record {
      own = had.1;
      effect = e;
      is = had.3;
      answers = says;
      as_alone =
          let there : alone c (box t had.0) ≡ record { answer = e.answer; after = box t (suc had.0) } =
          subst (λ (o : Option Effect). AsAlone c o (box t had.0) (box t (suc had.0))) had.3
          (own had.0 had.1.step had.1.at had.1.own).as_alone in
          there ∙ ap (λ (b : Answer). record { answer = b; after = box t (suc had.0) }) says;
    };
    only = λ k own some. had.4 k own (within-all k own) some;
  }

  acts-by : (a : Answer) → (had : Option Effect) × HasHad t job (length t.steps) had × Settles had a → Acts t job c a
  acts-by a (had, has, settles) = record {
    done = λ success.
        let found : (e : Effect) × (had ≡ Some e) × (e.answer ≡ a) =
        subst (λ (b : Bool). MatchBool b ((e : Effect) × (had ≡ Some e) × (e.answer ≡ a)) (had ≡ None)) success settles in
        effect-at a found.0 found.2 (subst (HasHad t job (length t.steps)) found.1 has);
    undone = λ failed k own.
        let none : had ≡ None =
        subst (λ (b : Bool). MatchBool b ((e : Effect) × (had ≡ Some e) × (e.answer ≡ a)) (had ≡ None)) failed settles in
        subst (HasHad t job (length t.steps)) none has k own (within-all k own);
  }

  -- success is one step of the job's own, and with any other answer it has no effect
  pub acts : (a : Answer) → IsAnswered t job a → Acts t job c a
  acts a gave = acts-by a (had-all a gave)

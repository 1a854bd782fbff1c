-- A run on a disk, as a story shows it: at each own step of its job the job is as far as the run, so each is a turn of its machine.
use Rattle.std.proofs.Common.{ℕ, zero, suc, ◌≡◌, ◌≢◌, ◌+◌, ◌≤◌, List, [], ◌∷◌, ◌++◌, Option, Some, None, Bool, true, false, cond, is_some, refl, sym, ap, subst, ◌∙◌, arith, length, map, take, drop, slice_get}
use Rattle.std.proofs.Math.Seq.{drop-append_seam}
use Rattle.std.proofs.lemmas.List.Sums.{count_by_more_yes, count_by_more_no}
use Rattle.std.proofs.lemmas.Option.{slice_get_within, slice_get_past, get_or_from_slice_get}
use Rattle.std.specs.Prelude.{count_by}
use Rattle.md_jobs.specs.Asked.{Asked}
use Rattle.md_jobs.specs.Machines.Clean.{new_cleaning, cleaning_turn}
use Rattle.md_jobs.specs.Machines.Deliver.{new_delivery, delivery_turn}
use Rattle.md_jobs.specs.Machines.Errand.{new_errand, errand_turn}
use Rattle.md_jobs.specs.Made.{Made, made, answer_in}
use Rattle.md_jobs.specs.Tasks.Cleaning.{Cleaning}
use Rattle.md_jobs.specs.Tasks.Errand.{Errand}
use Rattle.md_jobs.specs.Turn.{Turn, After, rows_for}
use Rattle.md_jobs.specs.declared.answer.Answer.{Answer}
use Rattle.md_jobs.specs.declared.call.Call.{Call}
use Rattle.md_jobs.specs.declared.call.Call.TheVariants as call
use Rattle.md_jobs.specs.declared.purpose.Purpose.{Purpose}
use Rattle.md_jobs.specs.declared.purpose.Purpose.TheVariants as purpose
use Rattle.md_jobs.specs.declared.effect.Effect.{Effect}
use Rattle.md_jobs.specs.declared.step.DirReply.{DirReply}
use Rattle.md_jobs.specs.declared.step.DirReply.TheVariants as reply
use Rattle.md_jobs.specs.declared.step.Moment.{Moment}
use Rattle.md_core.specs.Machine.{Standing, working, turn_of, standing_of, new_job}
use Rattle.md_core.specs.Tasks.Task.{Task}
use Rattle.md_core.specs.Tasks.Task as task
use Rattle.md_core.specs.Trace.{call_at}
use Rattle.md_core.proofs.Lists.Places.{at_place}
use Rattle.md_system.specs.Exchanges.{Exchange, heard_of, IsRun}
use Rattle.md_beside.specs.Story.{Story, Step, asked, ours, step_at, state, standing, standing_from, standing_after, is_by, IsTurn}
use Rattle.md_beside.specs.Beside.{IsStepOf, IsAnswered}
use Rattle.md_beside.specs.OnDisk.{HasRun, ErrandHasRun, IsRunOf, names_found, steps_taken, ShowsExchange, ShowsRun, IsJobOf}
use Rattle.md_beside.proofs.Acting.{stands-own, stands-beside, itself, not-by, by-who}
use Rattle.md_beside.proofs.EachMoment.{each-moment}
use Rattle.md_beside.proofs.LikeErrands.{LikeErrand, errands-alike}
use Rattle.md_beside.proofs.LikeTurns.{AreAlike, LikeDelivery, LikeCleaning, deliveries-alike, cleans-alike}
use Rattle.md_beside.proofs.OwnCall.{within-story}

-- ---- lists

drop-at : {A : Type 0} (xs : List A) (n : ℕ) (x : A) → slice_get xs n ≡ Some x → drop n xs ≡ x ∷ drop (suc n) xs
drop-at [] n x is = cc
drop-at (y ∷ ys) zero x is = let e : Some y ≡ Some x = is in let same : y ≡ x = cc in ap (λ z. z ∷ ys) same
drop-at (y ∷ ys) (suc n) x is = drop-at ys n x is

first-left : {A : Type 0} (xs : List A) (n : ℕ) → slice_get xs n ≡ slice_get (drop n xs) 0
first-left [] zero = refl
first-left [] (suc n) = refl
first-left (y ∷ ys) zero = refl
first-left (y ∷ ys) (suc n) = first-left ys n

count-own : (f : Step → Bool) (steps : List Step) (k : ℕ) (x : Step) → slice_get steps k ≡ Some x → f x ≡ true →
    count_by f (take (suc k) steps) ≡ suc (count_by f (take k steps))
count-own f steps k x is its =
    let more = count_by_more_yes f steps k x (slice_get_within steps k x is) (ap f (get_or_from_slice_get steps k x x is) ∙ its) in
    let next : suc k ≡ k + 1 = omega arith in
    ap (λ (n : ℕ). count_by f (take n steps)) next ∙ more ∙ omega arith

count-beside : (f : Step → Bool) (steps : List Step) (k : ℕ) (x : Step) → slice_get steps k ≡ Some x → f x ≡ false →
    count_by f (take (suc k) steps) ≡ count_by f (take k steps)
count-beside f steps k x is other =
    let more = count_by_more_no f steps k x (slice_get_within steps k x is) (ap f (get_or_from_slice_get steps k x x is) ∙ other) in
    let next : suc k ≡ k + 1 = omega arith in
    ap (λ (n : ℕ). count_by f (take n steps)) next ∙ more

-- what stands after a list
new-calls : (old new calls : List Exchange) → new ≡ old ++ calls → drop (length old) new ≡ calls
new-calls old new calls logged = ap (λ (all : List Exchange). drop (length old) all) logged ∙ drop-append_seam old calls

-- ---- a run

module _ {T : Type 0} (turn : T → Moment → Turn T) (answer : Option Answer) where
  -- a run that is left to make these calls
  pub record IsLeft (now : T) (calls : List Exchange) : Type 0 where
    pub run : IsRun turn now calls
    pub ends : answer_in (made turn now (heard_of calls)) ≡ answer

  -- what follows a call, by the calls after it
  abbrev pub GoesOn : After T → List Exchange → Type 0
  GoesOn after [] = after.answer ≡ answer
  GoesOn after (e ∷ calls) = (after.answer ≡ None) × IsLeft after.task (e ∷ calls)

  module _ (asks : Asked) (r : DirReply) (task : T) where
    abbrev one : Option Answer → Option Effect → Made
    one o effect = record { asked = asks; reply = r; answer = o; effect = effect }

    by-calls : (effect : Option Effect) (e : Exchange) (calls : List Exchange) (o : Option Answer) →
        map (λ m. m.asked) (one o effect ∷ cond (is_some o) [] (made turn task (heard_of calls))) ≡ e.asked ∷ map (λ c. c.asked) calls →
        answer_in (one o effect ∷ cond (is_some o) [] (made turn task (heard_of calls))) ≡ answer →
        (asks ≡ e.asked) × GoesOn (record { task = task; answer = o; effect = effect }) calls
    unfolding made answer_in
    by-calls effect e [] (Some a) run ends = ((let both : asks ∷ [] ≡ e.asked ∷ [] = run in cc), ends)
    by-calls effect e [] None run ends = ((let both : asks ∷ [] ≡ e.asked ∷ [] = run in cc), ends)
    by-calls effect e (c ∷ calls) (Some a) run ends =
        let both : asks ∷ [] ≡ e.asked ∷ (c.asked ∷ map (λ (x : Exchange). x.asked) calls) = run in cc
    by-calls effect e (c ∷ calls) None run ends =
        let both : asks ∷ map (λ (m : Made). m.asked) (made turn task (heard_of (c ∷ calls)))
        ≡ e.asked ∷ map (λ (x : Exchange). x.asked) (c ∷ calls) = run in
        (cc, (refl, record { run = cc; ends = ends }))

  -- a run that has its answer has made a call
  pub has-calls : (now : T) (calls : List Exchange) → IsLeft now calls → (a : Answer) → answer ≡ Some a → calls ≢ []
  unfolding made answer_in
  has-calls now [] left a is none = let e : None ≡ Some a = left.ends ∙ is in cc
  has-calls now (e ∷ calls) left a is none = cc

  pub next-call : (now : T) (e : Exchange) (calls : List Exchange) → IsLeft now (e ∷ calls) →
      ((turn now e.heard.at).asked ≡ e.asked) × GoesOn ((turn now e.heard.at).follows e.heard.reply e.heard.rows) calls
  unfolding made answer_in
  next-call now e calls left =
      let after = (turn now e.heard.at).follows e.heard.reply e.heard.rows in
      by-calls (turn now e.heard.at).asked e.heard.reply after.task after.effect e calls after.answer left.run left.ends

-- ---- a story that shows one

module _ {T : Type 0} (turn : T → Moment → Turn T) (job : ℕ) (c : Call) (Like : T → Task → Type 0)
    (alike : AreAlike turn job (names_found c) Like) (t : Story) (of : call_at t.calls job ≡ Some c)
    (run : List Exchange) (answer : Option Answer) (shown : ShowsRun t job c run answer) where
  -- a job that is as far as a run that makes a call yet
  pub record Works (e : Exchange) (calls : List Exchange) (st : Standing) : Type 0 where
    pub now : T
    pub task : Task
    pub works : st ≡ working task
    pub like : Like now task
    pub left : IsLeft turn answer now (e ∷ calls)

  -- as far as the run with these calls left; after the last it takes no step
  abbrev IsAsFar : List Exchange → Standing → Type 0
  IsAsFar [] st = Unit {0}
  IsAsFar (e ∷ calls) st = Works e calls st

  abbrev calls_left : ℕ → List Exchange
  calls_left k = drop (steps_taken t job k) run

  -- ---- a step of its own

  module _ (k : ℕ) (x : Step) (is : step_at t k ≡ Some x) (who : x.who ≡ ours job) where
    abbrev own : IsStepOf t job k
    own = record { step = x; at = is; own = who }

    abbrev e : Exchange
    e = (shown.shows k own).0

    shows : ShowsExchange (state t k) c x e
    shows = (shown.shows k own).2

    abbrev rest : List Exchange
    rest = drop (suc (steps_taken t job k)) run

    first : calls_left k ≡ e ∷ rest
    first = drop-at run (steps_taken t job k) e (shown.shows k own).1

    one-more : steps_taken t job (suc k) ≡ suc (steps_taken t job k)
    one-more = count-own (λ y. is_by job y.who) t.steps k x is (ap (λ w. is_by job w) who ∙ itself job)

    module _ (far : Works e rest (standing t job c k)) where
      abbrev ran : After T
      ran = (turn far.now e.heard.at).follows e.heard.reply e.heard.rows

      abbrev turned : Turn Task
      turned = turn_of job far.task x.at

      abbrev after : After Task
      after = turned.follows x.reply (rows_for turned.asked (state t k))

      next : ((turn far.now e.heard.at).asked ≡ e.asked) × GoesOn turn answer ran rest
      next = next-call turn answer far.now e rest far.left

      asks : turned.asked ≡ e.asked
      asks = alike.call far.now far.task e.heard.at x.at shows.at far.like ∙ next.0

      names : e.heard.reply ≡ reply.Ok →
          names_found c e.heard.at.own e.heard.rows ≡ names_found c e.heard.at.own (rows_for turned.asked (state t k))
      names done = shows.one_moment done
          ∙ ap (λ (a : Asked). names_found c e.heard.at.own (rows_for a (state t k))) (sym asks)

      abbrev after_by : DirReply → After Task
      after_by r = turned.follows r (rows_for turned.asked (state t k))

      answers : after.answer ≡ ran.answer
      answers = ap (λ (r : DirReply). (after_by r).answer) shows.replied
          ∙ alike.answer far.now far.task e.heard.at x.at shows.at far.like e.heard.reply e.heard.rows
          (rows_for turned.asked (state t k)) names

      likes : Like ran.task after.task
      likes = subst (λ (r : DirReply). Like ran.task (after_by r).task) (sym shows.replied)
          (alike.task far.now far.task e.heard.at x.at shows.at far.like e.heard.reply e.heard.rows
          (rows_for turned.asked (state t k)) names)

      -- the answer that the story shows is that of the run
      answer-shown : ran.answer ≡ x.answer
      answer-shown = by rest (first-left run (suc (steps_taken t job k))) next.1 ∙ sym (shown.answers k own)
        where
          by : (calls : List Exchange) → slice_get run (suc (steps_taken t job k)) ≡ slice_get calls 0 → GoesOn turn answer ran calls →
              ran.answer ≡ cond (is_some (slice_get run (suc (steps_taken t job k)))) None answer
          by [] none last = last ∙ ap (λ (o : Option Exchange). cond (is_some o) None answer) (sym none)
          by (e' ∷ calls) some more = more.0 ∙ ap (λ (o : Option Exchange). cond (is_some o) None answer) (sym some)

      turns : IsTurn t k x job
      turns = record {
        call = c;
        of = of;
        task = far.task;
        works = far.works;
        made = shows.made ∙ ap asked (sym asks);
        answers = answers ∙ answer-shown;
        affects = shown.affects k own far.task far.works;
      }

      far-next : (calls : List Exchange) → GoesOn turn answer ran calls → IsAsFar calls (standing_of after.task after.answer)
      far-next [] last = tt
      far-next (e' ∷ calls) more = record {
        now = ran.task;
        task = after.task;
        works = ap (standing_of after.task) (answers ∙ more.0);
        like = likes;
        left = more.1;
      }

      stands : standing t job c (suc k) ≡ standing_of after.task after.answer
      stands = stands-own t job c k x is who ∙ ap (standing_after job (state t k) x) far.works

      far-own : IsAsFar (calls_left (suc k)) (standing t job c (suc k))
      far-own = subst (λ (n : ℕ). IsAsFar (drop n run) (standing t job c (suc k))) (sym one-more)
          (subst (IsAsFar rest) (sym stands) (far-next rest next.1))

    works-now : IsAsFar (calls_left k) (standing t job c k) → Works e rest (standing t job c k)
    works-now far = subst (λ (calls : List Exchange). IsAsFar calls (standing t job c k)) first far

  -- ---- the step of a number

  record IsOfNumber (n : ℕ) : Type 0 where
    k : ℕ
    own : IsStepOf t job k
    number : steps_taken t job k ≡ n

  of-number : (n k : ℕ) → k ≤ length t.steps → steps_taken t job k ≡ suc n → IsOfNumber n
  of-number n zero low taken = absurd (omega (arith, taken))
  of-number n (suc k) low taken = at_place t.steps k
      (λ x is. by-who x.who job
      (λ who. let more = one-more k x is who in
      record { k = k; own = record { step = x; at = is; own = who }; number = omega (arith, more, taken) })
      (λ other. let same = count-beside (λ y. is_by job y.who) t.steps k x is (not-by job x.who other) in
      of-number n k (omega (arith, low)) (sym same ∙ taken)))
      (λ past. absurd (omega (arith, low, past)))

  -- where all calls are shown, the step of the last has the answer
  ended : (a : Answer) → answer ≡ Some a → (calls : List Exchange) → calls ≢ [] → run ≡ calls →
      steps_taken t job (length t.steps) ≡ length run → IsAnswered t job a
  ended a is [] some same all = absurd (some refl)
  ended a is (e ∷ calls) some same all =
      let found = of-number (length calls) (length t.steps) (omega arith) (all ∙ ap length same) in
      let past : slice_get run (suc (steps_taken t job found.k)) ≡ None =
      let many : length run ≡ suc (length calls) = ap length same in let number = found.number in
      slice_get_past run (suc (steps_taken t job found.k)) (omega (arith, many, number)) in
      record {
        k = found.k;
        last = found.own;
        answer = shown.answers found.k found.own ∙ ap (λ (o : Option Exchange). cond (is_some o) None answer) past ∙ is;
      }

  -- ---- each moment

  far-beside : (k : ℕ) (x : Step) → step_at t k ≡ Some x → (x.who ≡ ours job → ⊥) → IsAsFar (calls_left k) (standing t job c k) →
      IsAsFar (calls_left (suc k)) (standing t job c (suc k))
  far-beside k x is other far =
      let same : steps_taken t job (suc k) ≡ steps_taken t job k =
      count-beside (λ y. is_by job y.who) t.steps k x is (not-by job x.who other) in
      subst (λ (n : ℕ). IsAsFar (drop n run) (standing t job c (suc k))) (sym same)
      (subst (IsAsFar (calls_left k)) (sym (stands-beside t job c k x is other)) far)

  module _ (start : IsAsFar run (standing t job c 0)) where
    far-at : (k : ℕ) → k ≤ length t.steps → IsAsFar (calls_left k) (standing t job c k)
    far-at = each-moment t (λ k. IsAsFar (calls_left k) (standing t job c k)) start
        (λ k x is far. by-who x.who job (λ who. far-own k x is who (works-now k x is who far)) (λ other. far-beside k x is other far))

    answered : (a : Answer) → IsAnswered t job a → answer ≡ Some a
    answered a gave = by (slice_get run (suc (steps_taken t job gave.k))) (sym (shown.answers gave.k gave.last) ∙ gave.answer)
      where
        by : (o : Option Exchange) → cond (is_some o) None answer ≡ Some a → answer ≡ Some a
        by (Some e) is = cc
        by None is = is

    is-job : ((a : Answer) → answer ≡ Some a → run ≢ []) → IsJobOf t job run answer
    is-job some = record {
      turns = λ k x is who. turns k x is who (works-now k x is who (far-at k (within-story t k x is)));
      answered = answered;
      ended = λ a is all. ended a is run (some a is) refl all;
    }

  -- at the beginning a job is as far as its run
  far-first : (now : T) (task : Task) → new_job c ≡ working task → Like now task → (calls : List Exchange) → IsLeft turn answer now calls →
      IsAsFar calls (standing t job c 0)
  unfolding standing_from
  far-first now task new like [] left = tt
  far-first now task new like (e ∷ calls) left = record { now = now; task = task; works = new; like = like; left = left }

  pub begins : (now : T) (task : Task) → new_job c ≡ working task → Like now task → IsLeft turn answer now run → IsJobOf t job run answer
  begins now task new like left = is-job (far-first now task new like run left) (has-calls turn answer now run left)

-- ---- what a run promises

-- the calls of a run are those after what was there before
run-left : {T : Type 0} (turn : T → Moment → Turn T) (now : T) (old new : List Exchange) (answer : Option Answer) →
    HasRun turn now old new answer → IsLeft turn answer now (drop (length old) new)
run-left turn now old new (Some a) ran = record {
  run = subst (λ (calls : List Exchange). IsRun turn now calls) (sym (new-calls old new ran.calls ran.logged)) ran.run;
  ends = ap (λ (calls : List Exchange). answer_in (made turn now (heard_of calls))) (new-calls old new ran.calls ran.logged) ∙ ran.answered;
}
run-left turn now old new None began = record {
  run = subst (λ (calls : List Exchange). IsRun turn now calls) (sym (new-calls old new began.calls began.logged)) began.run;
  ends = ap (λ (calls : List Exchange). answer_in (made turn now (heard_of calls))) (new-calls old new began.calls began.logged)
      ∙ began.unanswered;
}

-- ---- each call

module _ (t : Story) (job : ℕ) (old new : List Exchange) (answer : Option Answer) where
  abbrev Shows : Call → Type 0
  Shows c = ShowsRun t job c (drop (length old) new) answer

  run-delivers : (folder : ℕ) (u body : List ℕ) (chunk : ℕ) →
      (let c : Call = call.Deliver folder u body chunk in
      call_at t.calls job ≡ Some c → IsRunOf c old new answer → Shows c → IsJobOf t job (drop (length old) new) answer)
  run-delivers folder u body chunk of ran shown =
      let d = new_delivery folder u body chunk in
      begins (delivery_turn 1) job (call.Deliver folder u body chunk) LikeDelivery (deliveries-alike 1 job) t of
      (drop (length old) new) answer shown d (task.Deliver d) refl refl (run-left (delivery_turn 1) d old new answer ran)

  run-cleans : (folder : ℕ) →
      (let c : Call = call.Clean folder in
      call_at t.calls job ≡ Some c → IsRunOf c old new answer → Shows c → IsJobOf t job (drop (length old) new) answer)
  run-cleans folder of ran shown =
      let x = new_cleaning folder in
      let turn : Cleaning → Moment → Turn Cleaning = λ y at. cleaning_turn y at.own in
      begins turn job (call.Clean folder) LikeCleaning (cleans-alike job) t of (drop (length old) new) answer
      shown x (task.Clean x) refl refl (run-left turn x old new answer ran)

  -- of an errand, by its call
  run-errands : (folder : ℕ) (u : List ℕ) (p : Purpose) (tries : ℕ) (c : Call) → call_at t.calls job ≡ Some c →
      AreAlike (λ e at. errand_turn 1 e) job (names_found c) (LikeErrand u) →
      new_job c ≡ working (task.Errand (new_errand folder u p tries)) → ErrandHasRun folder u p tries old new answer → Shows c →
      IsJobOf t job (drop (length old) new) answer
  run-errands folder u p tries c of alike new-is ran shown =
      let e = new_errand folder u p tries in
      let turn : Errand → Moment → Turn Errand = λ y at. errand_turn 1 y in
      begins turn job c (LikeErrand u) alike t of (drop (length old) new) answer
      shown e (task.Errand e) new-is (refl, refl) (run-left turn e old new answer ran)

  pub run-is-job : (c : Call) → call_at t.calls job ≡ Some c → IsRunOf c old new answer → Shows c →
      IsJobOf t job (drop (length old) new) answer
  run-is-job (call.Deliver folder u body chunk) of ran shown = run-delivers folder u body chunk of ran shown
  run-is-job (call.Clean folder) of ran shown = run-cleans folder of ran shown
  run-is-job (call.Seen folder u flags tries) of ran shown = run-errands folder u (purpose.Seen flags) tries
      (call.Seen folder u flags tries) of (errands-alike 1 job u) refl ran shown
  run-is-job (call.Flag folder u add remove tries) of ran shown = run-errands folder u (purpose.Flag add remove) tries
      (call.Flag folder u add remove tries) of (errands-alike 1 job u) refl ran shown
  run-is-job (call.Move folder u to tries) of ran shown = run-errands folder u (purpose.Move to) tries
      (call.Move folder u to tries) of (errands-alike 1 job u) refl ran shown
  run-is-job (call.Copy folder u to fresh tries) of ran shown = run-errands folder u (purpose.Copy to fresh) tries
      (call.Copy folder u to fresh tries) of (errands-alike 1 job u) refl ran shown
  run-is-job (call.Expunge folder u tries) of ran shown = run-errands folder u purpose.Expunge tries
      (call.Expunge folder u tries) of (errands-alike 1 job u) refl ran shown

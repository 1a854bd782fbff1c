-- What a clean did, event by event: it looked, and then took away one old name after another, or found it gone.
use Rattle.std.proofs.Common.{ℕ, zero, suc, ◌≡◌, ◌≢◌, ◌≤◌, ◌⊎◌, ◌+◌, ◌-◌, ◌++◌, ◌==◌, inl, inr, List, [], ◌∷◌, Option, Some, Bool, true, false, cond, map, filter, take, length, refl, sym, ap, subst, ◌∙◌, arith}
use Rattle.std.specs.List.{All}
use Rattle.std.specs.Prelude.{count_by}
use Rattle.std.proofs.lemmas.Bool.Decides.{nat_tests}
use Rattle.std.proofs.lemmas.List.{append-nil, append_assoc, map-append, take_all}
use Rattle.std.proofs.lemmas.List.Elements.{filter-append, All-nil, All-cons, All-append}
use Rattle.std.proofs.lemmas.List.Sums.{sum_by-append}
use Rattle.md_core.proofs.Values.{State, Tmp, Row, DirReply, Task, Deliver, Errand, Clean, path_of as path, rows_of, Machine, Standing, working, answered, Occurrence, step_of, job_at, new_job, standing_of, Step, call_at, state, IsStepOf, Turn, rows_for, Asked, list, unlink, Run, beginning, machine_at, jobs_of, first_step, dirs_at_first, IsRun, deeds_from, trace_of, is_ok, is_unused, HasCleaned, option_to_list, option_and_then}
use Rattle.md_dirs.proofs.Sound.{by_number}
use Rattle.md_jobs.specs.declared.answer.Answer.TheVariants as answer
use Rattle.md_jobs.specs.declared.call.Call.TheVariants as call
use Rattle.md_jobs.specs.Tasks.Cleaning.{Cleaning, Stage, Look, Remove}
use Rattle.md_jobs.specs.declared.step.DirReply.TheVariants as reply
use Rattle.md_jobs.specs.Machines.Clean.{old_rows, old_names, after_next, at_stage, tmp, stage_turn}
use Rattle.md_core.proofs.Induction.Good.{CleaningFits, TaskFits}
use Rattle.md_core.proofs.Induction.GoodRuns.{new_at}
use Rattle.md_core.proofs.Lists.Places.{take-one_more}
use Rattle.md_core.proofs.Runs.ByEvent.{moment-start, moment-end}
use Rattle.md_core.proofs.Answers.LastStep.{IsTurn, left_by, reply_in, done_in, done-in, stands-after, stands-other}
use Rattle.md_core.proofs.Answers.Files.Late.{cleans}
use Rattle.md_core.proofs.Answers.Moments.{its-fits, at, asked_by, after_task, each-moment, not-yet, is-first}
use Rattle.md_core.proofs.Traces.Same.{deeds-more, deeds-none, state-same}
use Rattle.md_core.proofs.Traces.Begun.{begins-same, begins-some}
use Rattle.md_core.proofs.Traces.Few.{map-made}

module _ (r : Run) (job : ℕ) where
  abbrev is_own : Step → Bool
  is_own d = d.job == job

  -- what the job did before moment k
  abbrev deeds : ℕ → List Step
  deeds k = filter is_own (deeds_from (beginning r.image r.clock r.calls) (take k r.events))

  deeds-start : deeds 0 ≡ []
  deeds-start = ap (filter is_own) (deeds-none (beginning r.image r.clock r.calls))

  module _ (k n : ℕ) (t : IsTurn r k n) where
    deeds-next : deeds (k + 1) ≡ deeds k ++ filter is_own (done_in r k n t ∷ [])
    deeds-next =
        let from = beginning r.image r.clock r.calls in
        let es = take k r.events in
        let this : step_of (machine_at r k) t.event ≡ Some (done_in r k n t) =
        sym (ap (option_and_then (step_of (machine_at r k))) t.at) ∙ done-in r k n t in
        ap (λ (xs : List Occurrence). filter is_own (deeds_from from xs)) (take-one_more r.events k t.event t.at)
        ∙ ap (filter is_own) (deeds-more from es t.event ∙ ap (λ (o : Option Step). deeds_from from es ++ option_to_list o) this)
        ∙ filter-append is_own (deeds_from from es) (done_in r k n t ∷ [])

    deeds-own : job ≡ n → deeds (k + 1) ≡ deeds k ++ done_in r k n t ∷ []
    deeds-own same =
        let its = t.own in
        let this : is_own (done_in r k n t) ≡ true = grind (arith, nat_tests) in
        deeds-next ∙ ap (λ b. deeds k ++ cond b (done_in r k n t ∷ []) []) this

    deeds-other : job ≢ n → deeds (k + 1) ≡ deeds k
    deeds-other differ =
        let its = t.own in
        let not_this : is_own (done_in r k n t) ≡ false = grind (arith, nat_tests) in
        deeds-next ∙ ap (λ b. deeds k ++ cond b (done_in r k n t ∷ []) []) not_this ∙ append-nil (deeds k)

  module _ (folder : ℕ) where
    abbrev takes : List ℕ → Asked
    takes name = unlink (path folder Tmp name)

    abbrev IsFoundOrNot : Step → Type 0
    IsFoundOrNot d = (d.reply ≡ reply.Ok) ⊎ (d.reply ≡ reply.NotFound)

    -- before moment k the job looked, and then took names away or found them gone; these names are left, and so many files will be counted
    pub record HasTaken (k : ℕ) (left : List (List ℕ)) (files : ℕ) : Type 0 where
      pub look : Step
      pub unlinks : List Step
      pub deeds_are : deeds k ≡ look ∷ unlinks
      pub listed : look.asked ≡ list folder Tmp
      pub ok : look.reply ≡ reply.Ok
      pub names : map (λ d. d.asked) unlinks ++ map takes left ≡ map (λ row. takes row.name)
          (old_rows look.at.own (rows_of (dirs_at_first r job) folder Tmp))
      pub replies : All IsFoundOrNot unlinks
      pub count : files ≡ count_by (λ d. is_ok d.reply) unlinks + length left

    abbrev AtStage : ℕ → Stage → Type 0
    AtStage k Look = (deeds k ≡ []) × (k ≤ first_step r job)
    AtStage k (Remove name rest files) = HasTaken k (name ∷ rest) files

    abbrev Stands : ℕ → Standing → Type 0
    Stands k (working (Clean c)) = AtStage k c.stage
    Stands k (answered (answer.Cleaned n)) = HasTaken k [] n
    Stands k other = Unit {0}

    -- the next of the names that are left, or the answer
    next-stands : (k : ℕ) (c : Cleaning) (left : List (List ℕ)) (files : ℕ) → HasTaken k left files →
        Stands k (standing_of (Clean (after_next c left files).task) (after_next c left files).answer)
    next-stands k c [] files h = h
    next-stands k c (name ∷ rest) files h = h

    -- a turn of the job
    module _ (k : ℕ) (t : IsTurn r k job) where
      abbrev s : State
      s = (machine_at r k).dirs

      abbrev this : Step
      this = done_in r k job t

      look-taken : (c : Cleaning) → c.folder ≡ folder → deeds k ≡ [] → k ≤ first_step r job → this.asked ≡ list c.folder Tmp →
          this.reply ≡ reply.Ok →
          let old = old_names (at r k job t).own (rows_of s c.folder Tmp) in HasTaken (k + 1) old (length old)
      look-taken c in_folder none first asked replied =
          let same : first_step r job ≡ k = is-first r k job job t first refl in
          record {
            look = this;
            unlinks = [];
            deeds_are = deeds-own k job t refl ∙ ap (λ (ds : List Step). ds ++ this ∷ []) none;
            listed = asked ∙ ap (λ f. list f Tmp) in_folder;
            ok = replied;
            names = map-made (λ (row : Row). row.name) takes (old_rows (at r k job t).own (rows_of s c.folder Tmp))
                ∙ (λ i. map (λ (row : Row). takes row.name)
                (old_rows (at r k job t).own (rows_of (machine_at r (sym same i)).dirs (in_folder i) Tmp)));
            replies = All-nil IsFoundOrNot;
            count = omega arith;
          }

      -- one name more
      more-taken : (name : List ℕ) (left : List (List ℕ)) (files files' : ℕ) → HasTaken k (name ∷ left) files → this.asked ≡ takes name →
          IsFoundOrNot this →
          files' ≡ cond (is_ok this.reply) files (files - 1) → HasTaken (k + 1) left files'
      more-taken name left files files' h asked found counts =
          let split = sum_by-append (λ (d : Step). cond (is_ok d.reply) 1 0) h.unlinks (this ∷ []) in
          let before = h.count in
          record {
            look = h.look;
            unlinks = h.unlinks ++ this ∷ [];
            deeds_are = deeds-own k job t refl ∙ ap (λ (ds : List Step). ds ++ this ∷ []) h.deeds_are;
            listed = h.listed;
            ok = h.ok;
            names = ap (λ (xs : List Asked). xs ++ map takes left) (map-append (λ (d : Step). d.asked) h.unlinks (this ∷ []))
                ∙ append_assoc (map (λ (d : Step). d.asked) h.unlinks) (this.asked ∷ []) (map takes left)
                ∙ ap (λ (a : Asked). map (λ (d : Step). d.asked) h.unlinks ++ a ∷ map takes left) asked ∙ h.names;
            replies = All-append IsFoundOrNot h.unlinks (this ∷ []) h.replies (All-cons IsFoundOrNot this [] found (All-nil IsFoundOrNot));
            count = elim found [
              | inl ok ↦
                  let is : is_ok this.reply ≡ true = ap is_ok ok in
                  let one : cond {A = ℕ} (is_ok this.reply) 1 0 ≡ 1 = ap (λ b. cond b 1 0) is in
                  let same : files' ≡ files = counts ∙ ap (λ b. cond b files (files - 1)) is in
                  omega (arith, before, split, one, same)
              | inr gone ↦
                  let is : is_ok this.reply ≡ false = ap is_ok gone in
                  let none : cond {A = ℕ} (is_ok this.reply) 1 0 ≡ 0 = ap (λ b. cond b 1 0) is in
                  let less : files' ≡ files - 1 = counts ∙ ap (λ b. cond b files (files - 1)) is in
                  omega (arith, before, split, none, less)
            ];
          }

      -- how the job stands after its turn, by the stage and the reply
      abbrev StandsAfter : Turn Cleaning → DirReply → Type 0
      StandsAfter turn rep =
          this.asked ≡ turn.asked → this.reply ≡ rep →
          Stands (k + 1)
          (standing_of (Clean (turn.follows rep (rows_for turn.asked s)).task) (turn.follows rep (rows_for turn.asked s)).answer)

      next-taken : (c : Cleaning) → c.folder ≡ folder → (name : List ℕ) (rest : List (List ℕ)) (files files' : ℕ) →
          HasTaken k (name ∷ rest) files →
          this.asked ≡ unlink (tmp c name) → IsFoundOrNot this → files' ≡ cond (is_ok this.reply) files (files - 1) →
          Stands (k + 1) (standing_of (Clean (after_next c rest files').task) (after_next c rest files').answer)
      next-taken c in_folder name rest files files' h asked found counts =
          next-stands (k + 1) c rest files'
          (more-taken name rest files files' h (asked ∙ ap (λ f. unlink (path f Tmp name)) in_folder) found counts)

      stage-stands : (c : Cleaning) → c.folder ≡ folder → (stage : Stage) → AtStage k stage → (rep : DirReply) →
          StandsAfter (stage_turn (at_stage c stage) (at r k job t).own stage) rep
      stage-stands c in_folder Look now reply.Ok asked replied =
          let old = old_names (at r k job t).own (rows_of s c.folder Tmp) in
          next-stands (k + 1) (at_stage c Look) old (length old) (look-taken c in_folder now.0 now.1 asked replied)
      stage-stands c in_folder (Remove name rest files) now reply.Ok asked replied =
          next-taken (at_stage c (Remove name rest files)) in_folder name rest files files now asked (inl replied)
          (sym (ap (λ x. cond (is_ok x) files (files - 1)) replied))
      stage-stands c in_folder (Remove name rest files) now reply.Exists asked replied = tt
      stage-stands c in_folder (Remove name rest files) now reply.NotFound asked replied =
          next-taken (at_stage c (Remove name rest files)) in_folder name rest files (files - 1) now asked (inr replied)
          (sym (ap (λ x. cond (is_ok x) files (files - 1)) replied))
      stage-stands c in_folder (Remove name rest files) now reply.Fault asked replied = tt
      stage-stands c in_folder Look now other asked replied = tt

      own-stands : call_at r.calls job ≡ Some (call.Clean folder) → IsRun r → Stands k (working t.task) →
          Stands (k + 1) (standing_of (left_by r k job t).task (left_by r k job t).answer)
      own-stands of run now =
          let clean = cleans (machine_at r k).dirs folder t.task (its-fits r run k job (call.Clean folder) t.task of t.there) in
          let fits : CleaningFits (call.Clean folder) clean.0 =
          subst (TaskFits (machine_at r k).dirs (call.Clean folder)) clean.1 (its-fits r run k job (call.Clean folder) t.task of t.there) in
          let in_folder : clean.0.folder ≡ folder = (let same = fits in cc) in
          by t.task clean.0 clean.1 in_folder now (reply_in (machine_at r k) t.event t.task) refl refl
        where
          by : (task : Task) (c : Cleaning) → task ≡ Clean c → c.folder ≡ folder → Stands k (working task) → (rep : DirReply) →
              this.asked ≡ asked_by r k job t task → this.reply ≡ rep →
              Stands (k + 1) (standing_of (after_task r k job t task rep).task (after_task r k job t task rep).answer)
          by (Clean x) c is in_folder now rep asked replied =
              let same : x ≡ c = cc in
              stage-stands x (ap (λ (y : Cleaning). y.folder) same ∙ in_folder) x.stage now rep asked replied
          by (Deliver d) c is in_folder now rep asked replied = cc
          by (Errand e) c is in_folder now rep asked replied = cc

    -- what was taken stays so, where the job does nothing
    taken-still : (k : ℕ) (left : List (List ℕ)) (files : ℕ) → deeds (k + 1) ≡ deeds k → HasTaken k left files → HasTaken (k + 1) left files
    taken-still k left files same h = record {
      look = h.look;
      unlinks = h.unlinks;
      deeds_are = same ∙ h.deeds_are;
      listed = h.listed;
      ok = h.ok;
      names = h.names;
      replies = h.replies;
      count = h.count;
    }

    -- a turn of another job
    module _ (k n : ℕ) (t : IsTurn r k n) (differ : job ≢ n) where
      stage-still : (stage : Stage) → AtStage k stage → AtStage (k + 1) stage
      stage-still Look now = (deeds-other k n t differ ∙ now.0, not-yet r k n job t now.1 differ)
      stage-still (Remove name rest files) now = taken-still k (name ∷ rest) files (deeds-other k n t differ) now

      other-stands : (st : Standing) → Stands k st → Stands (k + 1) st
      other-stands (working (Clean c)) now = stage-still c.stage now
      other-stands (answered (answer.Cleaned x)) now = taken-still k [] x (deeds-other k n t differ) now
      other-stands other now = tt

-- how a clean stands at each moment
module _ (r : Run) (run : IsRun r) (job folder : ℕ) (of : call_at r.calls job ≡ Some (call.Clean folder)) where
  abbrev StandsAt : ℕ → Type 0
  StandsAt k = (st : Standing) → job_at (machine_at r k).jobs job ≡ Some st → Stands r job folder k st

  stands-start : StandsAt 0
  stands-start st is = by job of (ap (λ (m : Machine). job_at m.jobs job) (sym (moment-start r)) ∙ is)
    where
      by : (j : ℕ) → call_at r.calls j ≡ Some (call.Clean folder) → job_at (beginning r.image r.clock r.calls).jobs j ≡ Some st →
          Stands r job folder 0 st
      by zero of-j at-j = cc
      by (suc i) of-j at-j =
          let new = new_at r.calls i st at-j in
          let same : new.0 ≡ call.Clean folder = (let e : Some new.0 ≡ Some (call.Clean folder) = sym new.1 ∙ of-j in cc) in
          subst (Stands r job folder 0) (sym (new.2 ∙ ap new_job same)) (deeds-start r job, omega arith)

  stands-turn : (k n : ℕ) → IsTurn r k n → StandsAt k → StandsAt (k + 1)
  stands-turn k n t before st is = by_number job n
      (λ same.
      let own : IsTurn r k job = subst (IsTurn r k) (sym same) t in
      let new = standing_of (left_by r k job own).task (left_by r k job own).answer in
      let now : new ≡ st = (let e : Some new ≡ Some st = sym (stands-after r k job own) ∙ is in cc) in
      subst (Stands r job folder (k + 1)) now (own-stands r job folder k own of run (before (working own.task) own.there)))
      (λ differ. other-stands r job folder k n t differ st (before st (sym (stands-other r k n t job differ) ∙ is)))

  pub has-cleaned : (k : ℕ) → IsStepOf (trace_of r) job k → (n : ℕ) → job_at (jobs_of r) job ≡ Some (answered (answer.Cleaned n)) →
      HasCleaned (trace_of r) job folder n
  has-cleaned k step n is =
      let end = length r.events in
      let h : HasTaken r job folder end [] n =
      each-moment r run StandsAt stands-start stands-turn end (omega arith) (answered (answer.Cleaned n))
      (ap (λ (m : Machine). job_at m.jobs job) (moment-end r) ∙ is) in
      let counted = h.count in
      record {
        first = begins-some r run job k step;
        look = h.look;
        unlinks = h.unlinks;
        steps = ap (λ (es : List Occurrence). filter (is_own r job) (deeds_from (beginning r.image r.clock r.calls) es))
            (sym (take_all end r.events (omega arith))) ∙ h.deeds_are;
        listed = h.listed;
        ok = h.ok;
        names = sym (append-nil (map (λ (d : Step). d.asked) h.unlinks)) ∙ h.names
            ∙ ap (λ (s : State). map (λ row. unlink (path folder Tmp row.name)) (filter (is_unused h.look.at.own) (rows_of s folder Tmp)))
            (sym (ap (state (trace_of r)) (begins-same r run job) ∙ state-same r run (first_step r job)));
        replies = h.replies;
        count = omega (arith, counted);
      }

-- What a clean still has to take away it saw to be old; and what a step does to a path of tmp.
use Rattle.md_core.proofs.Machines.Errand.Asks.{errand-of-mail, no-unlink}
use Rattle.std.proofs.Common.{ℕ, zero, suc, ◌≡◌, ◌<◌, ◌≤◌, ◌+◌, ◌-◌, ◌⊎◌, inl, inr, List, [], ◌∷◌, Some, None, true, refl, sym, ap, subst, ◌∙◌, length, slice_get, arith}
use Rattle.std.proofs.lemmas.Bool.Decides.{nat_tests}
use Rattle.md_core.proofs.Values.{State, Path, Place, Tmp, Call, DirReply, Task, Deliver, Errand, Clean, rows_of, is_tmp, Turn, rows_for, Asked, create, append, unlink, list, ask_of, state_by, Step, call_at, Trace, IsStepOf, step_at, state, file_in, working, new_job, job_at, Run, machine_at, IsRun, IsTmpOf, HasSeenOld, MayChange, KeepsTmp, trace_of, errand_turn}
use Rattle.md_dirs.specs.declared.paths.Place.TheVariants as place
use Rattle.md_dirs.proofs.Sound.{by_path}
use Rattle.md_jobs.specs.declared.call.Call.TheVariants as call
use Rattle.md_jobs.specs.Tasks.Cleaning.{Cleaning, Stage, Look, Remove}
use Rattle.md_jobs.specs.declared.step.DirReply.TheVariants as reply
use Rattle.md_jobs.specs.Machines.Clean.{old_names, after_next, at_stage, tmp, stage_turn}
use Rattle.md_core.proofs.Induction.Good.{TaskFits}
use Rattle.lists.proofs.Members.{Has}
use Rattle.md_core.proofs.Answers.LastStep.{IsTurn, left_by, reply_in, done_in, done-in, is_within, holds}
use Rattle.md_core.proofs.Answers.Moments.{its-call, its-fits, at, asked_by, after_task}
use Rattle.md_core.proofs.Answers.Files.Asking.{asks-fair, creates, delivery-unlinks}
use Rattle.md_core.proofs.Answers.Files.Listed.{has-old}
use Rattle.md_core.proofs.Answers.Files.Tmp.{Touches, LeavesTmp, touches}
use Rattle.md_core.proofs.Traces.Same.{state-same, done-step}
use Rattle.md_core.proofs.Traces.Stands.{turn-of}
use Rattle.md_core.proofs.Traces.Files.{Away, file-kept, tmp-of, next-state, sound-at, writes}
use Rattle.md_core.proofs.Machines.Errand.Table.Calls.{new-looks}

-- an element of a list has a place there
has-at : {X : Type 0} (xs : List X) (x : X) → Has xs x → (i : ℕ) × (slice_get xs i ≡ Some x)
has-at [] x has = absurd has
has-at (y ∷ ys) x has = elim has [ inl is ↦ (zero, ap Some (sym is)) | inr later ↦ (let h = has-at ys x later in (suc h.0, h.1)) ]

module _ (r : Run) (run : IsRun r) where
  abbrev t : Trace
  t = trace_of r

  -- before moment k the job listed tmp of the folder, and saw the files of these names to be old
  pub record SawOld (k job folder : ℕ) (names : List (List ℕ)) : Type 0 where
    pub i : ℕ
    pub before : i < k
    pub look : IsStepOf t job i
    pub listed : look.step.asked ≡ list folder Tmp
    pub ok : look.step.reply ≡ reply.Ok
    pub all : (name : List ℕ) → Has names name → Has (old_names look.step.at.own (rows_of (machine_at r i).dirs folder Tmp)) name

  abbrev AtStage : ℕ → ℕ → ℕ → Stage → Type 0
  AtStage k job folder Look = Unit {0}
  AtStage k job folder (Remove name rest files) = SawOld k job folder (name ∷ rest)

  abbrev AtTask : ℕ → ℕ → Task → Type 0
  AtTask k job (Clean c) = AtStage k job c.folder c.stage
  AtTask k job other = Unit {0}

  saw-more : (k job folder : ℕ) (names : List (List ℕ)) → SawOld k job folder names → SawOld (k + 1) job folder names
  saw-more k job folder names h =
      let less = h.before in
      record { i = h.i; before = omega (arith, less); look = h.look; listed = h.listed; ok = h.ok; all = h.all }

  saw-rest : (k job folder : ℕ) (name : List ℕ) (rest : List (List ℕ)) → SawOld k job folder (name ∷ rest) → SawOld (k + 1) job folder rest
  saw-rest k job folder name rest h =
      let less = h.before in
      record { i = h.i; before = omega (arith, less); look = h.look; listed = h.listed; ok = h.ok; all = λ x has. h.all x (inr has) }

  next-saw : (k job : ℕ) (c : Cleaning) (names : List (List ℕ)) (files : ℕ) → SawOld k job c.folder names → (after_next c names files).answer ≡ None →
      AtTask k job (Clean (after_next c names files).task)
  next-saw k job c [] files h none = cc
  next-saw k job c (name ∷ rest) files h none = h

  module _ (k job : ℕ) (u : IsTurn r k job) where
    abbrev s : State
    s = (machine_at r k).dirs

    abbrev Leads : Turn Cleaning → DirReply → Type 0
    Leads turn rep =
        (done_in r k job u).asked ≡ turn.asked → (done_in r k job u).reply ≡ rep →
        (turn.follows rep (rows_for turn.asked s)).answer ≡ None → AtTask (k + 1) job (Clean (turn.follows rep (rows_for turn.asked s)).task)

    looked : (c : Cleaning) → (done_in r k job u).asked ≡ list c.folder Tmp → (done_in r k job u).reply ≡ reply.Ok →
        SawOld (k + 1) job c.folder (old_names (at r k job u).own (rows_of s c.folder Tmp))
    looked c asked ok = record {
      i = k;
      before = omega arith;
      look = record { step = done_in r k job u; at = done-step r run k (done_in r k job u) (done-in r k job u); own = u.own };
      listed = asked;
      ok = ok;
      all = λ name has. has;
    }

    stage-leads : (c : Cleaning) (stage : Stage) → AtStage k job c.folder stage → (rep : DirReply) →
        Leads (stage_turn (at_stage c stage) (at r k job u).own stage) rep
    stage-leads c Look before reply.Ok asked replied none =
        let old = old_names (at r k job u).own (rows_of s c.folder Tmp) in
        next-saw (k + 1) job (at_stage c Look) old (length old) (looked c asked replied) none
    stage-leads c (Remove name rest files) before reply.Ok asked replied none =
        next-saw (k + 1) job (at_stage c (Remove name rest files)) rest files (saw-rest k job c.folder name rest before) none
    stage-leads c (Remove name rest files) before reply.Exists asked replied none = cc
    stage-leads c (Remove name rest files) before reply.NotFound asked replied none =
        next-saw (k + 1) job (at_stage c (Remove name rest files)) rest (files - 1) (saw-rest k job c.folder name rest before) none
    stage-leads c (Remove name rest files) before reply.Fault asked replied none = cc
    stage-leads c Look before other asked replied none = cc

    own-turn : (left_by r k job u).answer ≡ None → AtTask k job u.task → AtTask (k + 1) job (left_by r k job u).task
    own-turn none h = by u.task h (reply_in (machine_at r k) u.event u.task) refl refl none
      where
        by : (task : Task) → AtTask k job task → (rep : DirReply) → (done_in r k job u).asked ≡ asked_by r k job u task → (done_in r k job u).reply ≡ rep →
            (after_task r k job u task rep).answer ≡ None → AtTask (k + 1) job (after_task r k job u task rep).task
        by (Deliver d) now rep asked replied e = tt
        by (Errand d) now rep asked replied e = tt
        by (Clean c) now rep asked replied e = stage-leads c c.stage now rep asked replied e

  stage-more : (k job folder : ℕ) (stage : Stage) → AtStage k job folder stage → AtStage (k + 1) job folder stage
  stage-more k job folder Look h = tt
  stage-more k job folder (Remove name rest files) h = saw-more k job folder (name ∷ rest) h

  other-turn : (k job : ℕ) (task : Task) → AtTask k job task → AtTask (k + 1) job task
  other-turn k job (Clean c) h = stage-more k job c.folder c.stage h
  other-turn k job other h = tt

  new-at : (job : ℕ) (c : Call) (task : Task) → new_job c ≡ working task → AtTask 0 job task
  new-at job c (Clean x) is = subst (AtStage 0 job x.folder) (sym (new-looks x c is)) tt
  new-at job c other is = tt

  old-task : (k job : ℕ) (task : Task) → k ≤ length r.events → job_at (machine_at r k).jobs job ≡ Some (working task) → AtTask k job task
  old-task = holds r run AtTask (λ n c task of-c is. new-at n c task is) own-turn (λ k n task e at-k differ is h. other-turn k n task h)

  -- the name that a clean takes away it saw to be old
  module _ (k : ℕ) (x : Step) (is : step_at t k ≡ Some x) (p : Path) where
    abbrev mine : IsStepOf t x.job k
    mine = record { step = x; at = is; own = refl }

    abbrev u : IsTurn r k x.job
    u = (turn-of r run x.job k mine).0

    does : x ≡ done_in r k x.job u
    does = (turn-of r run x.job k mine).1

    its : (c : Call) × (call_at r.calls x.job ≡ Some c)
    its = its-call r run k x.job _ u.there

    fits : TaskFits (machine_at r k).dirs its.0 u.task
    fits = its-fits r run k x.job its.0 u.task its.1 u.there

    abbrev MayHere : Call → Type 0
    MayHere c = MayChange t k x p c

    seen-old : (folder : ℕ) (name : List ℕ) (rest : List (List ℕ)) → name ≡ p.name → SawOld k x.job folder (name ∷ rest) →
        HasSeenOld t x.job k folder p.name
    seen-old folder name rest same h =
        let rows = rows_of (machine_at r h.i).dirs folder Tmp in
        let old = has-old h.look.step.at.own rows name (h.all name (inl refl)) in
        let place = has-at rows old.0 old.1 in
        record {
          i = h.i;
          before = h.before;
          look = h.look;
          listed = h.listed;
          ok = h.ok;
          at = place.0;
          row = old.0;
          there = ap (λ (s : State). slice_get (rows_of s folder Tmp) place.0) (state-same r run h.i) ∙ place.1;
          named = old.3 ∙ same;
          old = let hit = old.2 in grind (arith, nat_tests);
        }

    clean-changes : (c : Cleaning) (own : ℕ) (stage : Stage) → AtStage k x.job c.folder stage → (stage_turn (at_stage c stage) own stage).asked ≡ unlink p →
        (p.folder ≡ c.folder) × HasSeenOld t x.job k c.folder p.name
    clean-changes c own Look now asks = cc
    clean-changes c own (Remove name rest files) now asks =
        let same : tmp c name ≡ p = cc in
        (ap (λ (q : Path). q.folder) (sym same), seen-old c.folder name rest (ap (λ (q : Path). q.name) same) now)

    -- a path of a delivery in tmp may be changed by it
    may-own : (c : Call) → IsTmpOf p c → MayHere c
    may-own (call.Clean a) h = absurd h
    may-own c h = h

    within : k ≤ length r.events
    within = let less = is_within r k x.job u in omega (arith, less)

    asks-now : x.asked ≡ asked_by r k x.job u u.task
    asks-now = ap (λ (d : Step). d.asked) does

    unlinks : p.place ≡ Tmp → x.asked ≡ unlink p → MayHere its.0
    unlinks in_tmp asks = by u.task fits (old-task k x.job u.task within u.there) (sym asks-now ∙ asks)
      where
        by : (task : Task) → TaskFits (machine_at r k).dirs its.0 task → AtTask k x.job task → asked_by r k x.job u task ≡ unlink p → MayHere its.0
        by (Deliver d) f now is = may-own its.0 (tmp-of (machine_at r k).dirs its.0 d p f
            (delivery-unlinks u.event.event.job d (at r k x.job u) p d.stage is))
        by (Errand e) f now is =
            absurd (no-unlink (errand_turn u.event.event.job e).asked p in_tmp (errand-of-mail u.event.event.job e f.stage) is)
        by (Clean c) f now is =
            let h = clean-changes c (at r k x.job u).own c.stage now is in
            subst MayHere (sym f) (asks, h.0, h.1)

    makes : p.place ≡ Tmp → x.asked ≡ create p → MayHere its.0
    makes in_tmp asks =
        let by = creates (machine_at r k).dirs its.0 u.event.event.job (at r k x.job u) p in_tmp u.task fits (sym asks-now ∙ asks) in
        may-own its.0 (tmp-of (machine_at r k).dirs its.0 by.1.0 p (subst (TaskFits (machine_at r k).dirs its.0) by.1.1 fits) by.1.3)

    -- a call that writes to the file of a path of tmp is of its delivery
    away-or : (asked : Asked) → x.asked ≡ asked → Away (state t k) p asked ⊎ MayHere its.0
    away-or (append q bytes) asks =
        let w = writes r run k x is q bytes asks in
        let called : w.0 ≡ its.0 = (let e : Some w.0 ≡ Some its.0 = sym w.1 ∙ its.1 in cc) in
        by_path p q
        (λ same. inr (may-own its.0 (subst (λ (c : Call). IsTmpOf p c) called (subst (λ (y : Path). IsTmpOf y w.0) (sym same) w.2.own))))
        (λ differ. inl (λ n here there. differ (w.2.only n p there here)))
    away-or other asks = inl tt

    tmp-place : (q : Place) → is_tmp q ≡ true → q ≡ Tmp
    tmp-place place.Tmp h = refl
    tmp-place other h = cc

    changes : p.place ≡ Tmp → Touches (state t k) (state_by (ask_of x.asked x.at.clock) (state t k) x.reply) p x.asked x.reply x.at.clock
    changes in_tmp = touches (state t k) p in_tmp (sound-at r run k) x.at.clock x.asked x.reply
        (subst (λ (a : Asked). LeavesTmp a) (sym asks-now) (asks-fair (machine_at r k).dirs its.0 u.event.event.job u.task (at r k x.job u) fits))

    pub in_tmp : is_tmp p.place ≡ true → KeepsTmp t k x p
    in_tmp hit =
        let tmp-is = tmp-place p.place hit in
        elim (changes tmp-is) [
          | inl keeps ↦ elim (away-or x.asked refl) [
            | inl away ↦ inl (ap (λ (s : State). file_in s p) (next-state r run k x is)
                ∙ file-kept (state t k) (sound-at r run k) x.at.clock p x.asked x.reply away keeps.names)
            | inr may ↦ inr (its.0, its.1, may)
          ]
          | inr other ↦ elim other [
            | inl made ↦ inr (its.0, its.1, makes tmp-is made.call)
            | inr taken ↦ inr (its.0, its.1, unlinks tmp-is taken.call)
          ]
        ]

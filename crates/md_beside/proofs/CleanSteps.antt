-- What is so of a clean of ours at each moment, and what each step of its own does.
use Rattle.std.proofs.Common.{ℕ, suc, ◌≡◌, ◌≢◌, ◌<◌, ◌≤◌, inl, inr, List, Option, Some, None, MatchOption, true, false, refl, sym, ap, subst, ◌∙◌, slice_get}
use Rattle.md_dirs.proofs.Sound.{by_path}
use Rattle.md_dirs.specs.State.{State, IsSound, file_at}
use Rattle.md_dirs.specs.declared.paths.Path.{Path}
use Rattle.md_dirs.specs.declared.paths.Place.TheVariants.{Tmp}
use Rattle.md_dirs.specs.declared.rows.Row.{Row}
use Rattle.md_jobs.specs.Asked.{list, unlink}
use Rattle.md_jobs.specs.Machines.Clean.{new_cleaning, cleaning_turn, stage_turn, tmp}
use Rattle.md_jobs.specs.Tasks.Cleaning.{Cleaning, Stage, Look, Remove}
use Rattle.md_jobs.specs.Turn.{After, rows_for}
use Rattle.md_jobs.specs.declared.answer.Answer.{Answer}
use Rattle.md_jobs.specs.declared.answer.Answer.TheVariants as answer
use Rattle.md_jobs.specs.declared.call.Call.{Call}
use Rattle.md_jobs.specs.declared.call.Call.TheVariants as call
use Rattle.md_jobs.specs.declared.step.DirReply.{DirReply}
use Rattle.md_jobs.specs.declared.step.DirReply.TheVariants as reply
use Rattle.md_core.specs.Accepting.{MakesMessage}
use Rattle.md_core.specs.Machine.{Standing, working, answered, turn_of, standing_of}
use Rattle.md_core.specs.Mailbox.{HasOnePath, mailbox_of}
use Rattle.md_core.specs.Stepping.{AsAlone}
use Rattle.md_core.specs.Tasks.Task.{Task, Clean}
use Rattle.md_core.proofs.Answers.Turns.OfClean.{CleanTells, cleaning-says}
use Rattle.md_core.proofs.Answers.Turns.Told.{at-some}
use Rattle.md_core.proofs.Directories.Frames.{not_tmp}
use Rattle.md_core.proofs.Induction.Good.{Does, TaskFits, Found, HasSize}
use Rattle.md_core.proofs.Machines.Errand.Table.Calls.{each-new}
use Rattle.md_log.specs.declared.clause.Clause.{Clause}
use Rattle.md_log.specs.declared.clause.Clause.TheVariants as clause
use Rattle.md_law.specs.Clauses.{NotADirectory, CleanedEarly, Unlisted}
use Rattle.md_law.specs.Law.{Breaks}
use Rattle.md_law.specs.Law.{MadeAgain, WrittenLate}
use Rattle.md_beside.specs.Story.{Story, Step, Did, asked, ours, step_at, state, state_after, box, history, standing, standing_from, standing_after, IsTurn}
use Rattle.md_beside.specs.Beside.{IsStory, IsClean, Says, reply_due}
use Rattle.md_beside.specs.Jobs.{AreUsedOnce, AreTimely, MayBreak}
use Rattle.md_beside.proofs.Acting.{Had, OwnStep, had-own, stands-own, stands-beside, by-who}
use Rattle.md_beside.proofs.CleanSays.{folder_of, AtStage, Taking, taking-own}
use Rattle.md_beside.proofs.ErrandPaths.{leaves, quiet, lists-nothing, no-write, no-create}
use Rattle.md_beside.proofs.Histories.{next_at, history-next}
use Rattle.md_beside.proofs.KeepsPaths.{KeepsPaths, breaks-none}
use Rattle.md_beside.proofs.OneFile.{IsOneFile}
use Rattle.md_beside.proofs.OwnTurns.{own-does, as_alone}
use Rattle.md_beside.proofs.Readings.{reads-rightly}
use Rattle.md_beside.proofs.Rearranges.{MayByPaths, Rearranges, flushes-all, keeps-paths, writes-in_time}
use Rattle.md_beside.proofs.Renames.{unlinked-others, unlinked-itself}
use Rattle.md_beside.proofs.Replies.{is-directory, lists-nothing as reads-nothing, lists-tmp}
use Rattle.md_beside.proofs.OwnCall.{its, back}
use Rattle.md_beside.proofs.StaysBeside.{folders-stay}
use Rattle.md_beside.proofs.StaysOld.{StageOld, stage_old-stays, old-goes, never-early}

-- what is so of a clean: it is one of its call, and its folder is there
abbrev pub FitsClean : Story → ℕ → Call → Standing → Type 0
FitsClean t k c (working task) = (x : Cleaning) × (task ≡ Clean x) × (c ≡ call.Clean x.folder) × (x.folder < (state t k).folders)
FitsClean t k c (answered a) = Unit {0}

pub clean-first : (t : Story) → IsStory t → (i : ℕ) (c : Call) → slice_get t.calls i ≡ Some c → IsClean c →
    FitsClean t 0 c (standing t (suc i) c 0)
unfolding standing_from state_after
clean-first t story i (call.Clean folder) of clean = (new_cleaning folder, refl, refl, story.accepted i (call.Clean folder) of)
clean-first t story i other of clean = absurd clean

-- the names that it has left are of old files, or of none
abbrev OldTask : Story → ℕ → Task → Type 0
OldTask t k (Clean c) = StageOld t k c.folder c.stage
OldTask t k task = Unit {0}

abbrev pub Old : Story → ℕ → Standing → Type 0
Old t k (working task) = OldTask t k task
Old t k (answered a) = Unit {0}

pub old-first : (t : Story) (job : ℕ) (c : Call) → Old t 0 (standing t job c 0)
unfolding standing_from
old-first t job c = each-new (λ c' st. Old t 0 st) (λ folder u body chunk. tt) (λ folder u p tries. tt) (λ folder. tt) c

-- ---- a step of its own

module _ (t : Story) (story : IsStory t) (k job : ℕ) (x : Step) (is : step_at t k ≡ Some x) (who : x.who ≡ ours job)
    (sound : IsSound (state t k)) (one : HasOnePath (state t k))
    (fits : FitsClean t k (story.turns k job x is who).call (standing t job (story.turns k job x is who).call k)) where
  abbrev turned : IsTurn t k x job
  turned = story.turns k job x is who

  abbrev c : Call
  c = turned.call

  fit : FitsClean t k c (working turned.task)
  fit = subst (FitsClean t k c) turned.works fits

  abbrev clean : Cleaning
  clean = fit.0

  task-fits : TaskFits (state t k) c turned.task
  task-fits = subst (TaskFits (state t k) c) (sym fit.1) fit.2

  known : (v : List ℕ) (size : ℕ) → Found turned.task v size → HasSize (mailbox_of (state t k)) v size
  known v size f = absurd (subst (λ (task : Task). Found task v size) fit.1 f)

  abbrev rows : List Row
  rows = rows_for (turn_of job turned.task x.at).asked (state t k)

  abbrev after : After Task
  after = (turn_of job turned.task x.at).follows x.reply rows

  pub clean-does : Does (state t k) (state t (suc k)) job c turned.task (turn_of job turned.task x.at).asked x.reply after
  clean-does = own-does t story k job x is who sound one task-fits known

  alone-here : AsAlone c x.effect (box t k) (box t (suc k))
  alone-here = as_alone t story k job x is who sound one task-fits known

  stands : standing t job c (suc k) ≡ standing_of after.task after.answer
  stands = stands-own t job c k x is who ∙ ap (standing_after job (state t k) x) turned.works

  answered-here : (a : Answer) → x.answer ≡ Some a → standing t job c (suc k) ≡ answered a
  answered-here a gave = stands ∙ ap (standing_of after.task) (turned.answers ∙ gave)

  -- what follows of a clean
  abbrev left : After Cleaning
  left = (cleaning_turn clean x.at.own).follows x.reply (rows_for (cleaning_turn clean x.at.own).asked (state t k))

  task-is : after.task ≡ Clean left.task
  task-is = ap (λ (task : Task). ((turn_of job task x.at).follows x.reply (rows_for (turn_of job task x.at).asked (state t k))).task) fit.1

  answer-is : left.answer ≡ x.answer
  answer-is = sym (ap (λ (task : Task). ((turn_of job task x.at).follows x.reply
      (rows_for (turn_of job task x.at).asked (state t k))).answer) fit.1) ∙ turned.answers

  makes : x.did ≡ asked (cleaning_turn clean x.at.own).asked
  makes = turned.made ∙ ap (λ (task : Task). asked (turn_of job task x.at).asked) fit.1

  is-clean : IsClean c
  is-clean = subst IsClean (sym fit.2) tt

  -- it fails only where a call faults
  tells : (a : Answer) → x.answer ≡ Some a → CleanTells x.reply a
  tells a gave = at-some left.answer _ _ a (answer-is ∙ gave) (elim (story.replied k x is) as (λ _. SaysBy x.reply) [
    | inl due ↦ subst SaysBy (sym (due ∙ ap (λ (y : Did). reply_due (state t k) y x.at.clock) makes))
        (cleaning-says (state t k) x.at false clean fit.3)
    | inr fault ↦ subst SaysBy (sym fault) (cleaning-says (state t k) x.at true clean fit.3)
  ])
    where
      SaysBy : DirReply → Type 0
      SaysBy r = MatchOption ((cleaning_turn clean x.at.own).follows r (rows_for (cleaning_turn clean x.at.own).asked (state t k))).answer
          (Unit {0}) (CleanTells r)

  pub says-here : (a : Answer) → x.answer ≡ Some a → ((n : ℕ) → a ≡ answer.Cleaned n → Says t job c (answer.Cleaned n)) → Says t job c a
  says-here a gave counts = by a (tells a gave) counts
    where
      by : (a : Answer) → CleanTells x.reply a → ((n : ℕ) → a ≡ answer.Cleaned n → Says t job c (answer.Cleaned n)) → Says t job c a
      by (answer.Cleaned n) says counts' = counts' n refl
      by answer.Fault says counts' = (k, record { step = x; at = is; own = who }, says)
      by other says counts' = absurd says

  -- what it has taken
  pub taking-next : Taking t job (folder_of c) k (standing t job c k) → Taking t job (folder_of c) (suc k) (standing t job c (suc k))
  taking-next taking = subst (Taking t job (folder_of c) (suc k))
      (sym (stands ∙ ap (λ (task : Task). standing_of task after.answer) task-is
      ∙ ap (λ (o : Option Answer). standing_of (Clean left.task) o) (turned.answers ∙ sym answer-is)))
      (taking-own t job (folder_of c) k x is who clean (sym (ap folder_of fit.2)) clean.stage now x.reply makes refl)
    where
      now : AtStage t job (folder_of c) k clean.stage
      now = subst (λ (task : Task). Taking t job (folder_of c) k (working task)) fit.1
          (subst (Taking t job (folder_of c) k) turned.works taking)

  pub never-gone : x.answer ≡ Some answer.TmpGone → ⊥
  never-gone gave = tells answer.TmpGone gave

  clean-next : FitsClean t (suc k) c (standing t job c (suc k))
  clean-next = subst (FitsClean t (suc k) c) (sym stands) (by after.answer refl)
    where
      by : (o : Option Answer) → after.answer ≡ o → FitsClean t (suc k) c (standing_of after.task o)
      by None on =
          let of : c ≡ call.Clean left.task.folder = subst (TaskFits (state t (suc k)) c) task-is (clean-does.fits on) in
          let first = fit.2 in
          let same : clean.folder ≡ left.task.folder = cc in (
            left.task,
            task-is,
            of,
            subst (λ (n : ℕ). left.task.folder < n) (sym (folders-stay t story k x is))
                (subst (λ (n : ℕ). n < (state t k).folders) same fit.3),
          )
      by (Some a) on = tt

  had-next : Had t k job (standing t job c k) → Had t (suc k) job (standing t job c (suc k))
  had-next had = subst (Had t (suc k) job) (sym stands)
      (had-own t job k x is who turned.task after (sym turned.affects) clean-does.first clean-does.settles
      (subst (Had t k job) turned.works had))

  pub own-step : OwnStep t k job x c
  own-step = record { as_alone = alone-here; answers = answered-here; had = had-next }

  -- ---- what it does to paths

  module _ (name : List ℕ) (did : x.did ≡ asked (unlink (tmp clean name))) where
    abbrev o : Path
    o = tmp clean name

    -- a path of tmp is gone
    goes : x.reply ≡ reply.Ok → Rearranges t k x c
    goes ok =
        let after = leaves t story k x is c (unlink o) reply.Ok did ok in
        let others : (q : Path) → q ≢ o → file_at (state t (suc k)) q ≡ file_at (state t k) q =
        (λ q differ. ap (λ (s : State). file_at s q) after ∙ unlinked-others (state t k) o q differ) in
        record {
          comes = λ p j now differ. by_path p o
              (λ iso. let none = ap (λ (s : State). file_at s p) after ∙ unlinked-itself (state t k) o p iso in cc)
              (λ noto. absurd (differ (sym (others p noto) ∙ now)));
          goes = λ p j was none message. by_path p o
              (λ iso. absurd (not_tmp p o refl message iso))
              (λ noto. let still = others p noto in cc);
          in_tmp = λ not. absurd (not is-clean);
          writes = λ j r writes. no-write t story k x is c (unlink o) did tt writes.0 r writes.1;
          makes = no-create t story k x is c (unlink o) did tt;
        }

    unlinks : (r : DirReply) → x.reply ≡ r → Rearranges t k x c
    unlinks reply.Ok ok = goes ok
    unlinks reply.Exists ok = quiet t story k x is c (unlink o) did tt (leaves t story k x is c (unlink o) reply.Exists did ok)
    unlinks reply.NotFound ok = quiet t story k x is c (unlink o) did tt (leaves t story k x is c (unlink o) reply.NotFound did ok)
    unlinks reply.Fault ok = quiet t story k x is c (unlink o) did tt (leaves t story k x is c (unlink o) reply.Fault did ok)

  rearranges-by : (stage : Stage) → x.did ≡ asked (stage_turn clean x.at.own stage).asked → Rearranges t k x c
  rearranges-by Look did = quiet t story k x is c (list clean.folder Tmp) did tt
      (lists-nothing t story k x is c clean.folder Tmp did x.reply refl)
  rearranges-by (Remove name rest files) did = unlinks name did x.reply refl

  rearranges-here : Rearranges t k x c
  rearranges-here = rearranges-by clean.stage makes

  rightly-by : (stage : Stage) → x.did ≡ asked (stage_turn clean x.at.own stage).asked → NotADirectory (next_at t k x) → ⊥
  rightly-by Look did = reads-rightly t story k x is clean.folder Tmp did fit.3
  rightly-by (Remove name rest files) did = is-directory t story k x is (unlink (tmp clean name)) did tt

  listed-by : (stage : Stage) → x.did ≡ asked (stage_turn clean x.at.own stage).asked → Unlisted (next_at t k x) → ⊥
  listed-by Look did = lists-tmp t k x clean.folder did
  listed-by (Remove name rest files) did = reads-nothing t story k x is (unlink (tmp clean name)) did tt

  pub in_time-here : WrittenLate (next_at t k x) → ⊥
  in_time-here = writes-in_time t story k x is c rearranges-here

  -- ---- the files that it takes away

  module _ (old : Old t k (standing t job c k)) where
    stage-old : StageOld t k clean.folder clean.stage
    stage-old = subst (OldTask t k) fit.1 (subst (Old t k) turned.works old)

    pub not-early : CleanedEarly (next_at t k x) → ⊥
    not-early = never-early t story k x is sound clean clean.stage stage-old makes

    pub old-next : (MadeAgain (next_at t k x) → ⊥) → (WrittenLate (next_at t k x) → ⊥) → x.at.own ≤ x.at.clock →
        Old t (suc k) (standing t job c (suc k))
    old-next unmade in_time behind = subst (Old t (suc k)) (sym stands) (by after.answer refl)
      where
        by : (o : Option Answer) → after.answer ≡ o → Old t (suc k) (standing_of after.task o)
        by None on = subst (OldTask t (suc k)) (sym task-is)
            (old-goes t story k x is sound unmade in_time behind clean clean.stage stage-old x.reply makes
            (answer-is ∙ sym turned.answers ∙ on))
        by (Some a) on = tt

  module _ (files : AreUsedOnce t → IsOneFile (history t k)) where
    pub keeps-here : KeepsPaths t k x (MakesMessage c) (MayByPaths t c)
    keeps-here = keeps-paths t story k x is c rearranges-here files

    breaks-here : (b : Clause) → (MayByPaths t c b → ⊥) → Breaks b (history t (suc k)) → ⊥
    breaks-here = breaks-none t story k x is (MakesMessage c) (MayByPaths t c) keeps-here clean-does.one_path (record {
      rightly = rightly-by clean.stage makes;
      flushed = λ _. flushes-all t story k x is c rearranges-here;
      listed = λ _. listed-by clean.stage makes;
      in_time = λ _. in_time-here;
    }) clean-does.none_overwritten

    pub lawful-here : (AreTimely t → Old t k (standing t job c k)) → (b : Clause) → (MayBreak t c b → ⊥) →
        Breaks b (history t (suc k)) → ⊥
    lawful-here old clause.CleanedEarly not broken =
        not (is-clean, λ timely. not-early (old timely) (subst CleanedEarly (history-next t k x is) broken))
    lawful-here old other not broken = breaks-here other not broken

-- ---- any step

module _ (t : Story) (story : IsStory t) (k : ℕ) (x : Step) (is : step_at t k ≡ Some x) (sound : IsSound (state t k))
    (one : HasOnePath (state t k)) (i : ℕ) (c : Call) (of : slice_get t.calls i ≡ Some c) where
  beside : (st : Standing) → FitsClean t k c st → FitsClean t (suc k) c st
  beside (working task) fits =
      (fits.0, fits.1, fits.2, subst (λ (n : ℕ). fits.0.folder < n) (sym (folders-stay t story k x is)) fits.3)
  beside (answered a) fits = tt

  pub old-beside : (MadeAgain (next_at t k x) → ⊥) → (WrittenLate (next_at t k x) → ⊥) → (st : Standing) → Old t k st → Old t (suc k) st
  old-beside unmade in_time (working (Clean task)) old = stage_old-stays t story k x is sound unmade in_time task.folder task.stage old
  old-beside unmade in_time (working task) old = tt
  old-beside unmade in_time (answered a) old = tt

  pub clean-step : FitsClean t k c (standing t (suc i) c k) → FitsClean t (suc k) c (standing t (suc i) c (suc k))
  clean-step fits = by-who x.who (suc i) own
      (λ not-own. subst (FitsClean t (suc k) c) (sym (stands-beside t (suc i) c k x is not-own)) (beside (standing t (suc i) c k) fits))
    where
      own : x.who ≡ ours (suc i) → FitsClean t (suc k) c (standing t (suc i) c (suc k))
      own who = its t story i c of k x is who (λ c'. FitsClean t (suc k) c' (standing t (suc i) c' (suc k)))
          (clean-next t story k (suc i) x is who sound one
          (back t story i c of k x is who (λ c'. FitsClean t k c' (standing t (suc i) c' k)) fits))

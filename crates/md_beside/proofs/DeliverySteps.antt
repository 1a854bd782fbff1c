-- What is so of a delivery of ours at each moment, and what each step of its own does.
use Rattle.std.proofs.Common.{ℕ, suc, ◌≡◌, ◌≤◌, ◌+◌, List, Option, Some, None, refl, sym, ap, subst, ◌∙◌, slice_get}
use Rattle.md_dirs.specs.State.{IsSound}
use Rattle.md_dirs.specs.declared.rows.Row.{Row}
use Rattle.md_jobs.specs.Turn.{After, rows_for}
use Rattle.md_jobs.specs.Tasks.Delivery.{Delivery}
use Rattle.md_jobs.specs.Machines.Deliver.{new_delivery, delivery_turn}
use Rattle.md_jobs.specs.declared.answer.Answer.{Answer}
use Rattle.md_jobs.specs.declared.answer.Answer.TheVariants as answer
use Rattle.md_jobs.specs.declared.call.Call.{Call}
use Rattle.md_jobs.specs.declared.call.Call.TheVariants as call
use Rattle.md_core.specs.Accepting.{MakesMessage}
use Rattle.md_core.specs.Interleaving.{IsDelivery}
use Rattle.md_core.specs.Machine.{Standing, working, answered, turn_of, standing_of}
use Rattle.md_core.specs.Mailbox.{HasOnePath, mailbox_of}
use Rattle.md_core.specs.Tasks.Task.{Task, Deliver}
use Rattle.md_core.proofs.Directories.Frames.{makes-delivery}
use Rattle.md_core.proofs.Induction.Good.{Does, TaskFits, DeliveryFits, Found, HasSize}
use Rattle.md_core.proofs.Machines.Errand.Table.Calls.{each-new}
use Rattle.md_core.proofs.Worlds.UniqueNames.{unique_name}
use Rattle.md_log.specs.declared.clause.Clause.{Clause}
use Rattle.md_log.specs.declared.clause.Clause.TheVariants as clause
use Rattle.md_law.specs.Law.{Breaks}
use Rattle.md_law.specs.Law.{WrittenLate}
use Rattle.md_beside.specs.Story.{Story, Step, asked, ours, step_at, state, state_after, history, standing, standing_from, standing_after, IsTurn}
use Rattle.md_beside.specs.Beside.{IsStory, IsClean, Says}
use Rattle.md_beside.specs.Jobs.{MayBreak}
use Rattle.md_beside.proofs.Acting.{Had, OwnStep, had-own, stands-own}
use Rattle.md_beside.proofs.DeliverySays.{TellsAt, TellsTask, TellsOf, tells-goes, tells-ends}
use Rattle.md_beside.proofs.Fresh.{StageFresh, unused-none, never-first, unused-first, whole-first}
use Rattle.md_beside.proofs.Histories.{next_at}
use Rattle.md_beside.proofs.KeepsPaths.{KeepsPaths, widens, breaks-none}
use Rattle.md_beside.proofs.Others.{IsOther}
use Rattle.md_beside.proofs.OwnPath.{goes_on}
use Rattle.md_beside.proofs.OwnSteps.{plain, keeps-paths, fresh-next}
use Rattle.md_beside.proofs.OwnTurns.{own-does, as_alone}
use Rattle.md_beside.proofs.Replies.{IsNoReading, is-directory, lists-nothing}
use Rattle.md_beside.proofs.Rearranges.{MayByPaths, no-more}
use Rattle.md_beside.proofs.StaysBeside.{StageMine, delivery-stays, mine-stays, fresh-stays}
use Rattle.md_beside.proofs.StaysThere.{IsSpared, StageThere, there-stays, there-goes, never-gone, never-late}
use Rattle.md_beside.proofs.WholeBytes.{StageBody, Ended, stage_body-stays, ended-stays, body-next, ends-next}

-- what is so of a delivery
abbrev pub FitsDelivery : Story → ℕ → ℕ → Call → Standing → Type 0
FitsDelivery t k job c (working task) = (d : Delivery) × (task ≡ Deliver d) × DeliveryFits (state t k) c d × StageMine t k job d.tmp d.stage
    × StageFresh t k job d.tmp d.stage × StageBody t k d.tmp.name d.body d.stage
FitsDelivery t k job c (answered a) = Ended t k job c a

-- its file is there, or the clock is past the time for it
abbrev pub ThereTask : Story → ℕ → Task → Type 0
ThereTask t k (Deliver d) = StageThere t k d.tmp d.stage
ThereTask t k task = Unit {0}

abbrev pub There : Story → ℕ → Standing → Type 0
There t k (working task) = ThereTask t k task
There t k (answered a) = Unit {0}

-- ---- at the beginning

pub delivery-first : (t : Story) → IsStory t → (i : ℕ) (c : Call) → slice_get t.calls i ≡ Some c → IsDelivery c →
    FitsDelivery t 0 (suc i) c (standing t (suc i) c 0)
unfolding state_after standing_from
delivery-first t story i (call.Deliver folder u body chunk) of delivery =
    let accepted = story.accepted i (call.Deliver folder u body chunk) of in (
      new_delivery folder u body chunk,
      refl,
      record {
        of = refl;
        in_tmp = refl;
        in_folder = accepted.0;
        name = unique_name u accepted.2.valid;
        chunked = accepted.1;
        stage = accepted.2.unused;
      },
      tt,
      (
        never-first t story.sound u (unused-none t.image u accepted.2.unused),
        whole-first t story.sound,
        unused-first t story.sound u accepted.2.unused,
      ),
      tt,
    )
delivery-first t story i other of delivery = absurd delivery

pub there-first : (t : Story) (job : ℕ) (c : Call) → There t 0 (standing t job c 0)
unfolding standing_from
there-first t job c = each-new (λ c' st. There t 0 st) (λ folder u body chunk. tt) (λ folder u p tries. tt) (λ folder. tt) c

pub tells-first : (t : Story) (job : ℕ) (c : Call) → TellsOf t 0 job (standing t job c 0)
unfolding standing_from
tells-first t job c = each-new (λ c' st. TellsOf t 0 job st) (λ folder u body chunk. tt) (λ folder u p tries. tt) (λ folder. tt) c

-- ---- a step of another

module _ (t : Story) (story : IsStory t) (k : ℕ) (x : Step) (is : step_at t k ≡ Some x) (sound : IsSound (state t k)) (job : ℕ) (c : Call)
    (other : (u : List ℕ) → MakesMessage c u → IsOther t k x job u) where
  pub delivery-beside : (st : Standing) → FitsDelivery t k job c st → FitsDelivery t (suc k) job c st
  delivery-beside (working task) f =
      let its = other f.0.tmp.name (makes-delivery (state t k) c f.0 f.2) in (
        f.0,
        f.1,
        delivery-stays t story k x is c job f.0 sound f.2 f.3 its,
        mine-stays t story k x is c job f.0 sound f.2 f.3 its,
        fresh-stays t story k x is c job f.0 sound f.2 f.3 its f.4,
        stage_body-stays t story k x is job f.0.tmp.name its sound f.0.tmp refl f.0.body f.0.stage f.4 f.5,
      )
  delivery-beside (answered a) f = ended-stays t story k x is job c a other sound f

  pub there-beside : (st : Standing) → FitsDelivery t k job c st → There t k st → There t (suc k) st
  there-beside (working task) f was =
      let its = other f.0.tmp.name (makes-delivery (state t k) c f.0 f.2) in
      subst (ThereTask t (suc k)) (sym f.1)
      (there-stays t story k x is job f.0.tmp f.2.in_tmp its sound f.0.stage f.3 (subst (ThereTask t k) f.1 was))
  there-beside (answered a) f was = tt

-- ---- a step of its own

module _ (t : Story) (story : IsStory t) (k job : ℕ) (x : Step) (is : step_at t k ≡ Some x) (who : x.who ≡ ours job)
    (sound : IsSound (state t k)) (one : HasOnePath (state t k))
    (fits : FitsDelivery t k job (story.turns k job x is who).call (standing t job (story.turns k job x is who).call k)) where
  abbrev turned : IsTurn t k x job
  turned = story.turns k job x is who

  abbrev c : Call
  c = turned.call

  fit : FitsDelivery t k job c (working turned.task)
  fit = subst (FitsDelivery t k job c) turned.works fits

  abbrev d : Delivery
  d = fit.0

  task-fits : TaskFits (state t k) c turned.task
  task-fits = subst (TaskFits (state t k) c) (sym fit.1) fit.2

  known : (v : List ℕ) (size : ℕ) → Found turned.task v size → HasSize (mailbox_of (state t k)) v size
  known v size f = absurd (subst (λ (task : Task). Found task v size) fit.1 f)

  abbrev after : After Task
  after = (turn_of job turned.task x.at).follows x.reply (rows_for (turn_of job turned.task x.at).asked (state t k))

  pub delivery-does : Does (state t k) (state t (suc k)) job c turned.task (turn_of job turned.task x.at).asked x.reply after
  delivery-does = own-does t story k job x is who sound one task-fits known

  stands : standing t job c (suc k) ≡ standing_of after.task after.answer
  stands = stands-own t job c k x is who ∙ ap (standing_after job (state t k) x) turned.works

  -- the step is that of its stage
  made : x.did ≡ asked (delivery_turn job d x.at).asked
  made = turned.made ∙ ap (λ (task : Task). asked (turn_of job task x.at).asked) fit.1

  abbrev rows : List Row
  rows = rows_for (delivery_turn job d x.at).asked (state t k)

  abbrev left : After Delivery
  left = (delivery_turn job d x.at).follows x.reply rows

  task-is : after.task ≡ Deliver left.task
  task-is = ap (λ (task : Task). ((turn_of job task x.at).follows x.reply (rows_for (turn_of job task x.at).asked (state t k))).task) fit.1

  answer-is : left.answer ≡ after.answer
  answer-is = sym (ap (λ (task : Task). ((turn_of job task x.at).follows x.reply
      (rows_for (turn_of job task x.at).asked (state t k))).answer) fit.1)

  goes-on : after.answer ≡ None → FitsDelivery t (suc k) job c (working after.task)
  goes-on on =
      let next : DeliveryFits (state t (suc k)) c left.task = subst (TaskFits (state t (suc k)) c) task-is (delivery-does.fits on) in
      let mine = goes_on t story k job x is who sound d rows d.stage fit.2.stage fit.3 x.reply refl made (answer-is ∙ on) in (
        left.task,
        task-is,
        next,
        mine,
        fresh-next t story k job x is who sound d fit.2.in_tmp fit.2.name rows d.stage fit.2.stage fit.3 fit.4 x.reply refl made
            (answer-is ∙ on) next.stage mine,
        body-next t story k job x is who sound d fit.2.in_tmp fit.2.name rows d.stage fit.2.stage fit.3 x.reply refl made (answer-is ∙ on),
      )

  ends : (a : Answer) → after.answer ≡ Some a → Ended t (suc k) job c a
  ends a gave = subst (λ (c' : Call). Ended t (suc k) job c' a) (sym fit.2.of)
      (ends-next t story k job x is who sound d fit.2.in_tmp fit.2.name rows d.stage fit.2.stage fit.3 fit.4 fit.5 x.reply refl made a
      (answer-is ∙ gave))

  pub delivery-next : FitsDelivery t (suc k) job c (standing t job c (suc k))
  delivery-next = subst (FitsDelivery t (suc k) job c) (sym stands) (by after.answer refl)
    where
      by : (o : Option Answer) → after.answer ≡ o → FitsDelivery t (suc k) job c (standing_of after.task o)
      by None on = goes-on on
      by (Some a) gave = ends a gave

  pub own-step : OwnStep t k job x c
  own-step = record {
    as_alone = as_alone t story k job x is who sound one task-fits known;
    answers = λ a gave. stands ∙ ap (standing_of after.task) (turned.answers ∙ gave);
    had = λ had. subst (Had t (suc k) job) (sym stands)
        (had-own t job k x is who turned.task after (sym turned.affects) delivery-does.first delivery-does.settles
        (subst (Had t k job) turned.works had));
  }

  -- ---- what it says

  module _ (tells : TellsOf t k job (standing t job c k)) where
    tells-here : TellsAt t k job d.tmp d.stage
    tells-here = subst (TellsTask t k job) fit.1 (subst (TellsOf t k job) turned.works tells)

    pub tells-next : TellsOf t (suc k) job (standing t job c (suc k))
    tells-next = subst (TellsOf t (suc k) job) (sym stands) (by after.answer refl)
      where
        by : (o : Option Answer) → after.answer ≡ o → TellsOf t (suc k) job (standing_of after.task o)
        by None on = subst (TellsTask t (suc k) job) (sym task-is)
            (tells-goes t story k job x is who sound c d fit.2 made tells-here (answer-is ∙ on))
        by (Some a) on = tt

    pub says-here : (a : Answer) → x.answer ≡ Some a → Says t job c a
    says-here a gave = tells-ends t story k job x is who sound c d fit.2 made tells-here a (answer-is ∙ turned.answers ∙ gave)

  -- ---- what it does to paths

  pub keeps-here : KeepsPaths t k x (MakesMessage c) (MayByPaths t c)
  keeps-here = widens t k x (λ v. v ≡ d.tmp.name) (MakesMessage c) (λ b. ⊥) (MayByPaths t c)
      (λ v same. subst (MakesMessage c) (sym same) (makes-delivery (state t k) c d fit.2)) (λ b m. absurd m)
      (keeps-paths t story k job x is who sound d fit.2.in_tmp fit.2.name d.stage fit.2.stage fit.3 fit.4 made)

  reads-none : IsNoReading (delivery_turn job d x.at).asked
  reads-none = plain t story k job x is who sound d fit.2.in_tmp fit.2.name d.stage

  -- it breaks no clause, but that its bytes are not flushed
  not-clean : IsClean c → ⊥
  not-clean clean = subst IsClean fit.2.of clean

  pub lawful-here : ((MayBreak t c clause.WrittenLate → ⊥) → WrittenLate (next_at t k x) → ⊥) → (b : Clause) → (MayBreak t c b → ⊥) →
      Breaks b (history t (suc k)) → ⊥
  lawful-here in_time b not = breaks-none t story k x is (MakesMessage c) (MayByPaths t c) keeps-here delivery-does.one_path (record {
    rightly = is-directory t story k x is (delivery_turn job d x.at).asked made reads-none;
    flushed = λ not. absurd (not (subst IsDelivery (sym fit.2.of) tt));
    listed = λ _. lists-nothing t story k x is (delivery_turn job d x.at).asked made reads-none;
    in_time = in_time;
  }) delivery-does.none_overwritten b (no-more t c not-clean b not)

  -- ---- its file is there

  module _ (apart : (x.at.own ≤ x.at.clock + 14400) × (x.at.clock ≤ x.at.own + 14400))
      (there : There t k (standing t job c k)) where
    stage-there : StageThere t k d.tmp d.stage
    stage-there = subst (ThereTask t k) fit.1 (subst (There t k) turned.works there)

    pub there-next : There t (suc k) (standing t job c (suc k))
    there-next = subst (There t (suc k)) (sym stands) (by after.answer refl)
      where
        by : (o : Option Answer) → after.answer ≡ o → There t (suc k) (standing_of after.task o)
        by None on = subst (ThereTask t (suc k)) (sym task-is)
            (there-goes t story k x is job who sound d fit.2.in_tmp fit.2.name fit.2.in_folder rows apart d.stage stage-there x.reply refl
            made (answer-is ∙ on))
        by (Some a) on = tt

    pub not-gone : IsSpared t → x.answer ≡ Some answer.TmpGone → ⊥
    not-gone spare gave = never-gone t story k x is job who sound d fit.2.in_tmp fit.2.name fit.2.in_folder rows apart spare d.stage
        stage-there x.reply refl made (answer-is ∙ turned.answers ∙ gave)

    -- so it is written in time
    pub in_time-here : WrittenLate (next_at t k x) → ⊥
    in_time-here = never-late t story k x is job who sound d fit.2.in_tmp fit.2.name fit.2.in_folder rows apart d.stage stage-there made

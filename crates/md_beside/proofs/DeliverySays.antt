-- What the answer of a delivery says: that a call faulted, that others took its file in tmp away, or that its time was over.
use Rattle.std.proofs.Common.{ℕ, suc, ◌≡◌, ◌≢◌, ◌<◌, ◌≤◌, ◌-◌, inl, inr, List, Option, Some, None, Bool, true, false, cond, is_some, length, nat_lt, refl, sym, ap, subst, ◌∙◌, arith}
use Rattle.std.proofs.lemmas.Bool.Decides.{nat_tests}
use Rattle.lists.proofs.Maps as maps
use Rattle.md_dirs.proofs.PathOrder.{path_total, path_exact}
use Rattle.md_dirs.specs.State.{State, IsSound, file_at}
use Rattle.md_dirs.specs.declared.calls.DirError.TheVariants.{NotFound}
use Rattle.md_dirs.specs.declared.paths.Path.{Path}
use Rattle.md_dirs.specs.declared.rows.Row.{Row}
use Rattle.md_jobs.specs.Asked.{Asked, create, append, link, ask_of, reply_by}
use Rattle.md_jobs.specs.Machines.Deliver.{stage_turn, append_turn, link_turn, unlink_turn, delivery_turn, is_in_time, piece, target}
use Rattle.md_jobs.specs.Machines.Refusals.{refused_by}
use Rattle.md_jobs.specs.Tasks.Delivery.{Delivery}
use Rattle.md_jobs.specs.Turn.{After, Turn, rows_for}
use Rattle.md_jobs.specs.declared.answer.Answer.{Answer}
use Rattle.md_jobs.specs.declared.answer.Answer.TheVariants as answer
use Rattle.md_jobs.specs.declared.call.Call.{Call}
use Rattle.md_jobs.specs.declared.deliver.Stage.{Stage}
use Rattle.md_jobs.specs.declared.deliver.Stage.TheVariants.{Start, Writing, Linked, Undo}
use Rattle.md_jobs.specs.declared.refusal.Refusal.TheVariants.{TimedOut}
use Rattle.md_jobs.specs.declared.step.DirReply.{DirReply}
use Rattle.md_jobs.specs.declared.step.DirReply.TheVariants as reply
use Rattle.md_core.specs.Machine.{Standing, working, answered}
use Rattle.md_core.specs.Tasks.Task.{Task, Deliver, Errand, Clean}
use Rattle.md_core.proofs.Answers.Turns.OfDeliver.{DeliverySays, delivery-says}
use Rattle.md_core.proofs.Answers.Turns.Refusals.{link-not_found}
use Rattle.md_core.proofs.Induction.Good.{DeliveryFits, StageFits}
use Rattle.md_beside.specs.Story.{Story, Step, Did, asked, ours, step_at, state}
use Rattle.md_beside.specs.Beside.{IsStory, IsStepOf, IsFaulted, IsTmpGone, IsTimedOut, Says, reply_due}
use Rattle.md_beside.proofs.Held.{Held, held-still, held-beside}
use Rattle.md_beside.proofs.OwnPath.{append-paths, after}

-- what a delivery could say at its stage: since its first step its file is there, or others took it away; and it undoes for a fault alone
abbrev pub TellsAt : Story → ℕ → ℕ → Path → Stage → Type 0
TellsAt t k job tmp Start = Unit {0}
TellsAt t k job tmp (Writing start from) = (first : ℕ) × (own : IsStepOf t job first) × (first < k) × (own.step.at.own ≡ start)
    × Held t job first k tmp
TellsAt t k job tmp Linked = Unit {0}
TellsAt t k job tmp (Undo refusal) = (refused_by refusal ≡ answer.Fault) × IsFaulted t job

abbrev pub TellsTask : Story → ℕ → ℕ → Task → Type 0
TellsTask t k job (Deliver d) = TellsAt t k job d.tmp d.stage
TellsTask t k job (Errand e) = Unit {0}
TellsTask t k job (Clean c) = Unit {0}

abbrev pub TellsOf : Story → ℕ → ℕ → Standing → Type 0
TellsOf t k job (working task) = TellsTask t k job task
TellsOf t k job (answered a) = Unit {0}

-- ---- a step of another

module _ (t : Story) (k job : ℕ) (x : Step) (is : step_at t k ≡ Some x) (not-own : x.who ≢ ours job) where
  at-beside : (tmp : Path) (stage : Stage) → TellsAt t k job tmp stage → TellsAt t (suc k) job tmp stage
  at-beside tmp Start tells = tt
  at-beside tmp (Writing start from) (first, own, low, same, held) =
      (first, own, omega (arith, low), same, held-beside t job k x is first tmp not-own low held)
  at-beside tmp Linked tells = tt
  at-beside tmp (Undo refusal) tells = tells

  task-beside : (task : Task) → TellsTask t k job task → TellsTask t (suc k) job task
  task-beside (Deliver d) tells = at-beside d.tmp d.stage tells
  task-beside (Errand e) tells = tt
  task-beside (Clean c) tells = tt

  pub tells-beside : (st : Standing) → TellsOf t k job st → TellsOf t (suc k) job st
  tells-beside (working task) tells = task-beside task tells
  tells-beside (answered a) tells = tt

-- where an append doesn't find its path, it is gone
append-none : (o : Option ℕ) → reply.NotFound ≡ reply_by (cond (is_some o) None (Some NotFound)) → o ≡ None
append-none None is = refl
append-none (Some n) is = cc

-- ---- a step of its own

module _ (t : Story) (story : IsStory t) (k job : ℕ) (x : Step) (is : step_at t k ≡ Some x) (who : x.who ≡ ours job)
    (sound : IsSound (state t k)) (c : Call) (d : Delivery) (fits : DeliveryFits (state t k) c d) where
  abbrev this : IsStepOf t job k
  this = record { step = x; at = is; own = who }

  -- it is answered as the directories answer it
  says-turn : x.did ≡ asked (delivery_turn job d x.at).asked →
      DeliverySays d.stage x.reply ((delivery_turn job d x.at).follows x.reply (rows_for (delivery_turn job d x.at).asked (state t k)))
  says-turn makes = elim (story.replied k x is) as (λ _. SaysBy x.reply) [
    | inl due ↦ subst SaysBy (sym (due ∙ ap (λ (y : Did). reply_due (state t k) y x.at.clock) makes))
        (delivery-says (state t k) job c x.at false d fits)
    | inr fault ↦ subst SaysBy (sym fault) (delivery-says (state t k) job c x.at true d fits)
  ]
    where
      SaysBy : DirReply → Type 0
      SaysBy r = DeliverySays d.stage r ((delivery_turn job d x.at).follows r (rows_for (delivery_turn job d x.at).asked (state t k)))

  due : (a : Asked) → x.did ≡ asked a → x.reply ≡ reply.NotFound →
      reply.NotFound ≡ reply_by ((ask_of a x.at.clock).refusal (state t k))
  due a did gone = elim (story.replied k x is) [
    | inl is-due ↦ sym gone ∙ is-due ∙ ap (λ (y : Did). reply_due (state t k) y x.at.clock) did
    | inr fault ↦ (let clash = sym gone ∙ fault in cc)
  ]

  -- ---- it goes on

  created : x.did ≡ asked (create d.tmp) → x.reply ≡ reply.Ok → file_at (state t (suc k)) d.tmp ≢ None
  created did ok none =
      let there = ap (λ (s : State). file_at s d.tmp) (after t story k job x is who sound (create d.tmp) reply.Ok did ok)
      ∙ maps.at_put path_total path_exact (state t k).names d.tmp d.tmp (length (state t k).files) refl in cc

  appended : (bytes : List ℕ) → x.did ≡ asked (append d.tmp bytes) → x.reply ≡ reply.Ok →
      file_at (state t (suc k)) d.tmp ≡ file_at (state t k) d.tmp
  appended bytes did ok = ap (λ (s : State). file_at s d.tmp) (after t story k job x is who sound (append d.tmp bytes) reply.Ok did ok)
      ∙ append-paths bytes x.at.clock (state t k) (file_at (state t k) d.tmp) d.tmp

  module _ (rows : List Row) where
    abbrev Goes : Stage → Turn Delivery → DirReply → Type 0
    Goes stage turn r = x.did ≡ asked turn.asked → DeliverySays stage r (turn.follows r rows) → (turn.follows r rows).answer ≡ None →
        TellsAt t (suc k) job (turn.follows r rows).task.tmp (turn.follows r rows).task.stage

    goes-writing : (in_time more : Bool) (start from : ℕ) → TellsAt t k job d.tmp (Writing start from) → (r : DirReply) → x.reply ≡ r →
        Goes (Writing start from)
        (cond in_time (cond more (append_turn d start from) (link_turn job d)) (unlink_turn d (refused_by TimedOut))) r
    goes-writing true true start from (first, own, low, same, held) reply.Ok ok did says on =
        let still = appended (piece d from) did ok in
        (first, own, omega (arith, low), same, held-still t job k x is first d.tmp (λ there none. there (sym still ∙ none)) held)
    goes-writing true true start from tells reply.Exists ok did says on = cc
    goes-writing true true start from tells reply.NotFound ok did says on = cc
    goes-writing true true start from tells reply.Fault ok did says on = (refl, (k, this, ok))
    goes-writing true false start from tells reply.Ok ok did says on = tt
    goes-writing true false start from tells reply.Exists ok did says on = let clash = says.1 in cc
    goes-writing true false start from tells reply.NotFound ok did says on = cc
    goes-writing true false start from tells reply.Fault ok did says on = (refl, (k, this, ok))
    goes-writing false more start from tells r ok did says on = cc

    goes : (stage : Stage) → TellsAt t k job d.tmp stage → (r : DirReply) → x.reply ≡ r → Goes stage (stage_turn job d x.at stage) r
    goes Start tells reply.Ok ok did says on = (k, this, omega arith, refl, inl (created did ok))
    goes Start tells reply.Exists ok did says on = cc
    goes Start tells reply.NotFound ok did says on = cc
    goes Start tells reply.Fault ok did says on = cc
    goes (Writing start from) tells r ok did says on =
        goes-writing (is_in_time start x.at.own) (nat_lt from (length d.body)) start from tells r ok did says on
    goes Linked tells r ok did says on = cc
    goes (Undo refusal) tells r ok did says on = cc

    -- ---- it ends

    -- its file was there, and is gone
    gone : (start from : ℕ) → TellsAt t k job d.tmp (Writing start from) → file_at (state t k) d.tmp ≡ None → IsTmpGone t job c
    gone start from (first, own, low, same, inl there) none = absurd (there none)
    gone start from (first, own, low, same, inr (j, since, before, (y, at, other, was, left))) none =
        subst (IsTmpGone t job) (sym fits.of) (
          j,
          record {
            step = y;
            at = at;
            by_another = other;
            path = d.tmp;
            in_tmp = fits.in_tmp;
            named = refl;
            was = was;
            gone = left;
            in_span = record {
              from = first;
              to = k;
              begun = own;
              goes_on = this;
              after = omega (arith, since);
              before = omega (arith, before);
            };
          },
        )

    timed : (start from : ℕ) → TellsAt t k job d.tmp (Writing start from) → is_in_time start x.at.own ≡ false → IsTimedOut t job c
    timed start from (first, own, low, same, held) late =
        let past : 86400 ≤ x.at.own - start = grind (arith, nat_tests, late) in
        subst (IsTimedOut t job) (sym fits.of)
        (first, k, own, this, low, subst (λ (n : ℕ). 86400 ≤ x.at.own - n) (sym same) past)

    abbrev Ends : Stage → Turn Delivery → DirReply → Type 0
    Ends stage turn r = x.did ≡ asked turn.asked → DeliverySays stage r (turn.follows r rows) → (a : Answer) →
        (turn.follows r rows).answer ≡ Some a → Says t job c a

    ends-writing : (in_time more : Bool) (start from : ℕ) → is_in_time start x.at.own ≡ in_time →
        StageFits (state t k) d (Writing start from) → TellsAt t k job d.tmp (Writing start from) → (r : DirReply) → x.reply ≡ r →
        Ends (Writing start from)
        (cond in_time (cond more (append_turn d start from) (link_turn job d)) (unlink_turn d (refused_by TimedOut))) r
    ends-writing true true start from timely stage tells reply.Ok ok did says a gave = cc
    ends-writing true true start from timely stage tells reply.Exists ok did says a gave = cc
    ends-writing true true start from timely stage tells reply.NotFound ok did says a gave =
        let same : answer.TmpGone ≡ a = cc in
        subst (Says t job c) same (gone start from tells
        (append-none (file_at (state t k) d.tmp) (due (append d.tmp (piece d from)) did ok)))
    ends-writing true true start from timely stage tells reply.Fault ok did says a gave = cc
    ends-writing true false start from timely stage tells reply.Ok ok did says a gave = cc
    ends-writing true false start from timely stage tells reply.Exists ok did says a gave = cc
    ends-writing true false start from timely stage tells reply.NotFound ok did says a gave =
        let same : answer.TmpGone ≡ a = cc in
        subst (Says t job c) same (gone start from tells
        (link-not_found (state t k) false d.tmp (target d) (stage.1 (target d) fits.name.message fits.name.plain) fits.in_folder
        (due (link d.tmp (target d)) did ok)))
    ends-writing true false start from timely stage tells reply.Fault ok did says a gave = cc
    ends-writing false more start from timely stage tells r ok did says a gave =
        let same : answer.TimedOut ≡ a = cc in subst (Says t job c) same (timed start from tells timely)

    ends : (stage : Stage) → StageFits (state t k) d stage → TellsAt t k job d.tmp stage → (r : DirReply) → x.reply ≡ r →
        Ends stage (stage_turn job d x.at stage) r
    ends Start fit tells reply.Ok ok did says a gave = cc
    ends Start fit tells reply.Exists ok did says a gave = absurd says
    ends Start fit tells reply.NotFound ok did says a gave = cc
    ends Start fit tells reply.Fault ok did says a gave = let same : answer.Fault ≡ a = cc in subst (Says t job c) same (k, this, ok)
    ends (Writing start from) fit tells r ok did says a gave =
        ends-writing (is_in_time start x.at.own) (nat_lt from (length d.body)) start from refl fit tells r ok did says a gave
    ends Linked fit tells r ok did says a gave = let same : answer.Delivered ≡ a = cc in subst (Says t job c) same tt
    ends (Undo refusal) fit tells r ok did says a gave =
        let same : refused_by refusal ≡ a = cc in subst (Says t job c) (sym tells.0 ∙ same) tells.1

  -- ---- the turn

  module _ (makes : x.did ≡ asked (delivery_turn job d x.at).asked) (tells : TellsAt t k job d.tmp d.stage) where
    abbrev left : After Delivery
    left = (delivery_turn job d x.at).follows x.reply (rows_for (delivery_turn job d x.at).asked (state t k))

    pub tells-goes : left.answer ≡ None → TellsAt t (suc k) job left.task.tmp left.task.stage
    tells-goes on = goes (rows_for (delivery_turn job d x.at).asked (state t k)) d.stage tells x.reply refl makes (says-turn makes) on

    pub tells-ends : (a : Answer) → left.answer ≡ Some a → Says t job c a
    tells-ends a gave =
        ends (rows_for (delivery_turn job d x.at).asked (state t k)) d.stage fits.stage tells x.reply refl makes (says-turn makes) a gave

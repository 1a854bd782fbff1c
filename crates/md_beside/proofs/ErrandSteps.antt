-- What is so of an errand of ours at each moment, whatever others do, and what each step of its own does, where each message has one path.
use Rattle.std.proofs.Common.{ℕ, suc, ◌≡◌, inl, inr, List, Option, Some, None, IfSome, MatchOption, Bool, true, false, cond, refl, sym, ap, subst, ◌∙◌, arith, slice_get}
use Rattle.std.specs.FinMap.{get}
use Rattle.std.specs.Option.{option_or}
use Rattle.md_dirs.specs.State.{State, IsSound, file_at}
use Rattle.md_dirs.specs.declared.paths.Place.{Place}
use Rattle.md_dirs.specs.declared.paths.Place.TheVariants.{Cur}
use Rattle.md_jobs.specs.Asked.{ask_of, state_by}
use Rattle.md_jobs.specs.Turn.{After, rows_for}
use Rattle.md_jobs.specs.Machines.Errand.{new_errand, errand_turn}
use Rattle.md_jobs.specs.Machines.Purposes.{first, searches}
use Rattle.md_jobs.specs.Tasks.Errand.{Errand as ErrandOf, Stage, Look, Act}
use Rattle.md_jobs.specs.declared.answer.Answer.{Answer}
use Rattle.md_jobs.specs.declared.answer.Answer.TheVariants as answer
use Rattle.md_jobs.specs.declared.call.Call.{Call}
use Rattle.md_jobs.specs.declared.call.Call.TheVariants as call
use Rattle.md_jobs.specs.declared.effect.Effect.{Effect}
use Rattle.md_jobs.specs.declared.purpose.Purpose.{Purpose}
use Rattle.md_jobs.specs.declared.purpose.Purpose.TheVariants.{Seen, Flag, Move, Copy, Expunge}
use Rattle.md_core.specs.Accepting.{MakesMessage}
use Rattle.md_core.specs.Alone.{entry_if, is_in_folder, is_in_place}
use Rattle.md_core.specs.Machine.{Standing, working, answered, turn_of, standing_of}
use Rattle.md_core.specs.Mailbox.{HasOnePath, mailbox_of}
use Rattle.md_core.specs.Stepping.{AsAlone}
use Rattle.md_core.specs.Tasks.Task.{Task, Errand}
use Rattle.md_core.proofs.Answers.Turns.OfErrand.{SaysBy, errand-says}
use Rattle.md_core.proofs.Answers.Turns.OneMessage.{IsAlone, IsOver, IsPastLast, Tells, TriesOn, Trying, idle, trying_of}
use Rattle.md_core.proofs.Answers.Turns.Told.{at-none, at-some}
use Rattle.md_core.proofs.Directories.Frames.{errand-refit, unused-no_message}
use Rattle.md_core.proofs.Induction.Good.{Does, ErrandFits, IsAtStage, IsUnused, Settles}
use Rattle.md_core.proofs.Machines.Errand.Table.Calls.{call_by, sought}
use Rattle.md_core.proofs.Machines.Errand.Table.Checks.{accepted-errand}
use Rattle.md_core.proofs.Machines.Errand.Table.Rows.{last-place, one-place}
use Rattle.md_core.proofs.Machines.Errand.Table.Says.{alone-none}
use Rattle.md_core.proofs.Machines.Stays.{as_after}
use Rattle.md_log.specs.declared.clause.Clause.{Clause}
use Rattle.md_law.specs.Law.{Breaks}
use Rattle.md_law.specs.Law.{WrittenLate}
use Rattle.md_beside.specs.Story.{Story, Step, Did, after_did, asked, ours, step_at, state, state_after, box, history, standing, standing_from, standing_after, IsTurn}
use Rattle.md_beside.specs.Beside.{IsStory, IsClean, IsStepOf, IsInSpan, IsOfSpan, Says, BringsAbout, reply_due}
use Rattle.md_beside.specs.Jobs.{LooksInBoth, AreUsedOnce, MayBreak}
use Rattle.md_beside.proofs.Acting.{Had, OwnStep, had-own, stands-own, stands-beside, by-who}
use Rattle.md_beside.proofs.ErrandClauses.{looks, single, turn-alone, turn-rightly}
use Rattle.md_beside.proofs.ErrandLooks.{HasPassed, PassedBy, Passed, looked-at, absent-once}
use Rattle.md_beside.proofs.ErrandPaths.{rearranges, still}
use Rattle.md_beside.proofs.ErrandTurns.{IsLike, alone-like, settles-like, now, after_now, now-does, now-like}
use Rattle.md_beside.proofs.Fresh.{NeverUsed, unused-first, unused-next}
use Rattle.md_beside.proofs.Histories.{next_at, state-more}
use Rattle.md_beside.proofs.KeepsPaths.{KeepsPaths, breaks-none}
use Rattle.md_beside.proofs.OneFile.{IsOneFile}
use Rattle.md_beside.proofs.OnlyPath.{unused-beside}
use Rattle.md_beside.proofs.OwnCall.{its, back}
use Rattle.md_beside.proofs.Readings.{ListsAlone, ReadsAlone, reads-own, lists-none}
use Rattle.md_beside.proofs.Rearranges.{MayByPaths, no-more, Rearranges, flushes-all, keeps-paths, writes-in_time}
use Rattle.md_beside.proofs.StaysBeside.{folders-stay}

-- the call looks for a message and acts on it
abbrev pub IsErrand : Call → Type 0
IsErrand (call.Deliver folder u body chunk) = ⊥
IsErrand (call.Clean folder) = ⊥
IsErrand c = Unit {0}

-- the names that a call makes were never used
abbrev pub AreUnused : Story → ℕ → Call → Type 0
AreUnused t k c = (u : List ℕ) → MakesMessage c u → IsUnused (state t k) u × NeverUsed t k u

-- what is so of an errand: it is an errand of its call, its folders are there, and the name that it makes was never used
abbrev pub FitsErrand : Story → ℕ → Call → Standing → Type 0
FitsErrand t k c (working task) = (e : ErrandOf) × (task ≡ Errand e) × ErrandFits (state t k) c e × AreUnused t k c
FitsErrand t k c (answered a) = Unit {0}

-- how far it is with its tries
abbrev pub trying : Standing → Trying
trying (working task) = trying_of task
trying (answered a) = idle

-- ---- at the beginning

module _ (t : Story) (story : IsStory t) (i : ℕ) where
  -- a name that a call makes is fresh when the call is accepted
  fresh-name : (c : Call) → slice_get t.calls i ≡ Some c → AreUnused t 0 c
  unfolding state_after
  fresh-name (call.Copy folder v to fresh tries) of u makes =
      let unused : IsUnused t.image u =
      subst (IsUnused t.image) makes (story.accepted i (call.Copy folder v to fresh tries) of).1.unused in
      (unused, unused-first t story.sound u unused)
  fresh-name (call.Deliver folder v body chunk) of u makes =
      let unused : IsUnused t.image u =
      subst (IsUnused t.image) makes (story.accepted i (call.Deliver folder v body chunk) of).2.unused in
      (unused, unused-first t story.sound u unused)
  fresh-name other of u makes = absurd makes

  new-fits : (p : Purpose) (folder : ℕ) (u : List ℕ) (tries : ℕ) → slice_get t.calls i ≡ Some (call_by folder u p tries) →
      FitsErrand t 0 (call_by folder u p tries) (working (Errand (new_errand folder u p tries)))
  unfolding state_after
  new-fits p folder u tries of =
      let a = accepted-errand t.image _ folder u p tries (story.accepted i (call_by folder u p tries) of) in
      let unused = fresh-name (call_by folder u p tries) of in (
        new_errand folder u p tries,
        refl,
        record {
          tries = tries;
          of = refl;
          in_folder = a.in_folder;
          to_folder = a.to_folder;
          valid = a.valid;
          is_for = a.is_for;
          none = λ v makes. unused-no_message t.image v (unused v makes).0;
          stage = inl refl;
        },
        unused,
      )

  pub fits-first : (c : Call) → slice_get t.calls i ≡ Some c → IsErrand c → FitsErrand t 0 c (standing t (suc i) c 0)
  unfolding standing_from
  fits-first (call.Seen folder u flags tries) of errand = new-fits (Seen flags) folder u tries of
  fits-first (call.Flag folder u add remove tries) of errand = new-fits (Flag add remove) folder u tries of
  fits-first (call.Move folder u to tries) of errand = new-fits (Move to) folder u tries of
  fits-first (call.Expunge folder u tries) of errand = new-fits Expunge folder u tries of
  fits-first (call.Copy folder u to fresh tries) of errand = new-fits (Copy to fresh) folder u tries of
  fits-first (call.Deliver folder u body chunk) of errand = absurd errand
  fits-first (call.Clean folder) of errand = absurd errand

-- ---- a step that brings no name about that the call makes

module _ (t : Story) (story : IsStory t) (k : ℕ) (x : Step) (is : step_at t k ≡ Some x) (c : Call)
    (brings : (u : List ℕ) → MakesMessage c u → BringsAbout t k u → ⊥) where
  unused-still : AreUnused t k c → AreUnused t (suc k) c
  unused-still unused u makes =
      let still : IsUnused (state t (suc k)) u =
      unused-beside (state t k) (state t (suc k)) u (λ p n used now none. brings u makes (p, n, used, now, none)) (unused u makes).0 in
      (still, unused-next t story k x is u still (unused u makes).1)

  fits-beside : (st : Standing) → FitsErrand t k c st → FitsErrand t (suc k) c st
  fits-beside (working task) fits =
      let unused = unused-still fits.3 in (
        fits.0,
        fits.1,
        errand-refit (state t k) (state t (suc k)) fits.0 c (folders-stay t story k x is)
            (λ u makes none. unused-no_message (state t (suc k)) u (unused u makes).0) fits.2,
        unused,
      )
  fits-beside (answered a) fits = tt

-- ---- a message that is in none of its places

no-clean : (p : Purpose) (folder : ℕ) (u : List ℕ) (tries : ℕ) → IsClean (call_by folder u p tries) → ⊥
no-clean (Seen given) folder u tries clean = clean
no-clean other folder u tries clean = clean

both-in : (p : Purpose) (folder : ℕ) (u : List ℕ) (tries : ℕ) → searches p ≡ true → LooksInBoth (call_by folder u p tries)
both-in (Seen given) folder u tries both = cc
both-in (Flag add remove) folder u tries both = cc
both-in (Move to) folder u tries both = tt
both-in (Copy to fresh) folder u tries both = tt
both-in Expunge folder u tries both = cc

nothing-there : (s : State) (p : Purpose) → searches p ≡ false → (folder : ℕ) (u : List ℕ) (tries : ℕ) (stage : Stage) →
    IsAtStage u p stage → IsPastLast s folder u (searches p) stage → IsAlone s (call_by folder u p tries) answer.NotThere
nothing-there s p alone folder u tries (Look place left) at past = alone-none s p folder u tries
    (ap (λ (b : Bool). entry_if (cond b (is_in_folder folder) (is_in_place (first p) folder)) (get (mailbox_of s) u)) alone
    ∙ ap (λ (q : Place). entry_if (is_in_place q folder) (get (mailbox_of s) u)) (sym (one-place p place alone at))
    ∙ past.0)
nothing-there s p alone folder u tries (Act place row left) at past = absurd past

-- ---- a step of its own

module _ (t : Story) (story : IsStory t) (k job : ℕ) (x : Step) (is : step_at t k ≡ Some x) (who : x.who ≡ ours job)
    (sound : IsSound (state t k)) (one : HasOnePath (state t k))
    (fits : FitsErrand t k (story.turns k job x is who).call (standing t job (story.turns k job x is who).call k)) where
  abbrev turned : IsTurn t k x job
  turned = story.turns k job x is who

  abbrev c : Call
  c = turned.call

  pub fit : FitsErrand t k c (working turned.task)
  fit = subst (FitsErrand t k c) turned.works fits

  abbrev pub errand : ErrandOf
  errand = fit.0

  pub makes : x.did ≡ asked (errand_turn job errand).asked
  makes = turned.made ∙ ap (λ (task : Task). asked (turn_of job task x.at).asked) fit.1

  abbrev after : After ErrandOf
  after = (errand_turn job errand).follows x.reply (rows_for (errand_turn job errand).asked (state t k))

  abbrev left : After ErrandOf
  left = after_now t story k job x is c errand makes sound one fit.2

  pub step-does : Does (state t k) (state t (suc k)) job c (Errand (now t story k job x is c errand makes sound one fit.2))
      (errand_turn job (now t story k job x is c errand makes sound one fit.2)).asked x.reply
      (record { task = Errand left.task; answer = left.answer; effect = left.effect })
  step-does = now-does t story k job x is c errand makes sound one fit.2

  like : IsLike left after
  like = now-like t story k job x is c errand makes sound one fit.2

  -- the story tells what the errand does
  told : (turn_of job turned.task x.at).follows x.reply (rows_for (turn_of job turned.task x.at).asked (state t k)) ≡ as_after Errand after
  told = ap (λ (task : Task). (turn_of job task x.at).follows x.reply (rows_for (turn_of job task x.at).asked (state t k))) fit.1

  answer-is : after.answer ≡ x.answer
  answer-is = sym (ap (λ (a : After Task). a.answer) told) ∙ turned.answers

  effect-is : after.effect ≡ x.effect
  effect-is = sym (ap (λ (a : After Task). a.effect) told) ∙ turned.affects

  -- the headline
  alone-here : AsAlone c x.effect (box t k) (box t (suc k))
  alone-here = subst (λ (o : Option Effect). AsAlone c o (box t k) (box t (suc k))) effect-is
      (alone-like c (box t k) (box t (suc k)) left.effect after.effect like.effect step-does.as_alone)

  stands : standing t job c (suc k) ≡ standing_of (Errand after.task) after.answer
  stands = stands-own t job c k x is who ∙ ap (standing_after job (state t k) x) turned.works
      ∙ ap (λ (a : After Task). standing_of a.task a.answer) told

  -- the job has the answer of a step that gave one
  answered-here : (a : Answer) → x.answer ≡ Some a → standing t job c (suc k) ≡ answered a
  answered-here a gave = stands ∙ ap (standing_of (Errand after.task)) (answer-is ∙ gave)

  -- where the job goes on nothing has changed
  same-here : after.answer ≡ None → state t (suc k) ≡ state t k
  same-here on = still t story k x is c job errand.folder errand.unique errand.purpose errand.stage x.reply refl makes on

  unused-goes : after.answer ≡ None → AreUnused t (suc k) c
  unused-goes on = unused-still t story k x is c
      (λ u makes brought. let same = same-here on in
      brought.4 brought.0 brought.2 (ap (λ (s : State). file_at s brought.0) (sym same) ∙ brought.3)) fit.3

  fits-next : FitsErrand t (suc k) c (standing t job c (suc k))
  fits-next = subst (FitsErrand t (suc k) c) (sym stands) (by after.answer refl)
    where
      by : (o : Option Answer) → after.answer ≡ o → FitsErrand t (suc k) c (standing_of (Errand after.task) o)
      by None on =
          (after.task, refl, subst (ErrandFits (state t (suc k)) c) (like.task on) (step-does.fits (like.answer ∙ on)), unused-goes on)
      by (Some a) on = tt

  first-here : (o : Option Effect) → IfSome o (λ e. ◌≡◌ {A = Option Effect} None None)
  first-here None = tt
  first-here (Some e) = refl

  settles-here : MatchOption after.answer (None ≡ option_or after.effect None) (Settles (option_or after.effect None))
  settles-here = settles-like after.answer left.effect after.effect like.effect
      (subst (λ (o : Option Answer). MatchOption o (None ≡ option_or left.effect None) (Settles (option_or left.effect None))) like.answer
      step-does.settles)

  had-next : Had t k job (standing t job c k) → Had t (suc k) job (standing t job c (suc k))
  had-next had = subst (Had t (suc k) job) (sym stands)
      (had-own t job k x is who (Errand errand) (as_after Errand after) (sym effect-is) (first-here after.effect) settles-here
      (subst (λ (task : Task). Had t k job (working task)) fit.1 (subst (Had t k job) turned.works had)))

  not-clean : IsClean c → ⊥
  not-clean clean =
      no-clean errand.purpose errand.folder errand.unique fit.2.tries (subst IsClean fit.2.of clean)

  -- it has read one place alone, where it looks in one
  lists-alone : (LooksInBoth c → ⊥) → ListsAlone (looks c) (errand_turn job errand).asked
  lists-alone not = turn-alone (state t k) job c errand.folder errand.unique errand.purpose
      (single errand.purpose errand.folder errand.unique fit.2.tries (subst (λ (c' : Call). LooksInBoth c' → ⊥) fit.2.of not))
      errand.stage fit.2

  pub reads-next : (LooksInBoth c → ⊥) → ReadsAlone t k job (looks c) → ReadsAlone t (suc k) job (looks c)
  reads-next not alone = reads-own t story k job x is (looks c) alone who (errand_turn job errand).asked makes (lists-alone not)

  pub own-step : OwnStep t k job x c
  own-step = record { as_alone = alone-here; answers = answered-here; had = had-next }

  -- ---- what it does to paths

  rearranges-here : Rearranges t k x c
  rearranges-here = rearranges t story k x is c job errand.folder errand.unique one (λ u makes'. (fit.3 u makes').1)
      errand.purpose errand.stage fit.2 makes

  pub in_time-here : WrittenLate (next_at t k x) → ⊥
  in_time-here = writes-in_time t story k x is c rearranges-here

  module _ (files : AreUsedOnce t → IsOneFile (history t k)) where
    pub keeps-here : KeepsPaths t k x (MakesMessage c) (MayByPaths t c)
    keeps-here = keeps-paths t story k x is c rearranges-here files

    pub lawful-here : ((LooksInBoth c → ⊥) → ReadsAlone t k job (looks c)) → (b : Clause) → (MayBreak t c b → ⊥) →
        Breaks b (history t (suc k)) → ⊥
    lawful-here alone b not = breaks-none t story k x is (MakesMessage c) (MayByPaths t c) keeps-here step-does.one_path (record {
      rightly = turn-rightly (state t k) job c errand.folder errand.unique t story k x is refl errand.purpose errand.stage fit.2 makes;
      flushed = λ _. flushes-all t story k x is c rearranges-here;
      listed = λ not. lists-none t story k job x is (looks c) (alone not) who (errand_turn job errand).asked makes (lists-alone not);
      in_time = λ _. in_time-here;
    }) step-does.none_overwritten b (no-more t c not-clean b not)

  -- ---- what it says

  says-turn : SaysBy (state t k) c errand x.at.clock (errand_turn job errand) x.reply
  says-turn = elim (story.replied k x is) as (λ _. SaysBy (state t k) c errand x.at.clock (errand_turn job errand) x.reply) [
    | inl due ↦ subst (SaysBy (state t k) c errand x.at.clock (errand_turn job errand))
        (sym (due ∙ ap (λ (d : Did). reply_due (state t k) d x.at.clock) makes))
        (errand-says (state t k) job c x.at one false errand fit.2)
    | inr fault ↦ subst (SaysBy (state t k) c errand x.at.clock (errand_turn job errand)) (sym fault)
        (errand-says (state t k) job c x.at one true errand fit.2)
  ]

  tells : (a : Answer) → x.answer ≡ Some a → Tells (state t k) c (Errand errand) x.reply a
  tells a gave = at-some after.answer _ _ a (answer-is ∙ gave) says-turn

  -- a try is over only where the path was gone
  trying-is : trying (standing t job c k) ≡ trying_of (Errand errand)
  trying-is = ap trying turned.works ∙ ap trying_of fit.1

  state-is : state_by (ask_of (errand_turn job errand).asked x.at.clock) (state t k) x.reply ≡ state t (suc k)
  state-is = sym (state-more t.image t.steps k x is ∙ ap (λ (d : Did). after_did d x.at.clock x.reply (state t k)) makes)

  pub tries-next : x.answer ≡ None → TriesOn (state t k) (state t (suc k)) (sought c) (trying (standing t job c k))
      (trying (standing t job c (suc k)))
  tries-next none =
      let on : after.answer ≡ None = answer-is ∙ none in
      let next : trying (standing t job c (suc k)) ≡ trying_of (Errand after.task) =
      ap trying (stands ∙ ap (standing_of (Errand after.task)) on) in
      subst (λ (y : Trying). TriesOn (state t k) (state t (suc k)) (sought c) y (trying (standing t job c (suc k)))) (sym trying-is)
      (subst (λ (y : Trying). TriesOn (state t k) (state t (suc k)) (sought c) (trying_of (Errand errand)) y) (sym next)
      (subst (λ (s : State). TriesOn (state t k) s (sought c) (trying_of (Errand errand)) (trying_of (Errand after.task))) state-is
      (at-none after.answer _ _ on says-turn).tries))

  pub over-here : x.answer ≡ Some answer.Lost → IsOver (state t k) (trying (standing t job c k))
  over-here gave = subst (IsOver (state t k)) (sym trying-is) (tells answer.Lost gave)

  abbrev this : IsStepOf t job k
  this = record { step = x; at = is; own = who }

  in-span : IsInSpan t job k
  in-span = record { from = k; to = k; begun = this; goes_on = this; after = omega arith; before = omega arith }

  pub never-gone : x.answer ≡ Some answer.TmpGone → ⊥
  never-gone gave = tells answer.TmpGone gave

  -- where it looks in new and then in cur, the message was in neither once
  not-there : (LooksInBoth c → HasPassed t job k (standing t job c k)) → (b : Bool) → searches errand.purpose ≡ b →
      (stage : Stage) → errand.stage ≡ stage → IsAtStage errand.unique errand.purpose stage →
      IsPastLast (state t k) errand.folder errand.unique b stage → IsOfSpan t job c answer.NotThere
  not-there passed false alone stage here at past = (
    k,
    in-span,
    subst (λ (c' : Call). IsAlone (state t k) c' answer.NotThere) (sym fit.2.of)
        (nothing-there (state t k) errand.purpose alone errand.folder errand.unique fit.2.tries stage at
        (subst (λ (b : Bool). IsPastLast (state t k) errand.folder errand.unique b stage) (sym alone) past)),
  )
  not-there passed true both (Look place tries) here at past =
      let cur : place ≡ Cur = last-place errand.purpose place both at past.1 in
      let has : HasPassed t job k (working (Errand errand)) =
      subst (λ (task : Task). HasPassed t job k (working task)) fit.1 (subst (HasPassed t job k) turned.works
      (passed (subst LooksInBoth (sym fit.2.of) (both-in errand.purpose errand.folder errand.unique fit.2.tries both)))) in
      let since : Passed t job k errand.folder errand.unique =
      subst (λ (stage : Stage). PassedBy t job k (Errand (record errand { stage = stage }))) here has both cur in
      let once = absent-once t story k job x is one who errand.folder errand.unique since
      (subst (λ (q : Place). entry_if (is_in_place q errand.folder) (get (mailbox_of (state t k)) errand.unique) ≡ None) cur past.0) in (
        once.0,
        once.1,
        subst (λ (c' : Call). IsAlone (state t once.0) c' answer.NotThere) (sym fit.2.of)
            (alone-none (state t once.0) errand.purpose errand.folder errand.unique fit.2.tries
            (ap (λ (b : Bool). entry_if (cond b (is_in_folder errand.folder) (is_in_place (first errand.purpose) errand.folder))
            (get (mailbox_of (state t once.0)) errand.unique)) both ∙ once.2)),
      )
  not-there passed true both (Act place row tries) here at past = absurd past

  pub says-here : (LooksInBoth c → HasPassed t job k (standing t job c k)) → (a : Answer) → x.answer ≡ Some a →
      (a ≡ answer.Lost → Says t job c answer.Lost) → Says t job c a
  says-here passed a gave lost = by a (tells a gave) lost
    where
      by : (a : Answer) → Tells (state t k) c (Errand errand) x.reply a → (a ≡ answer.Lost → Says t job c answer.Lost) → Says t job c a
      by answer.NotThere says lost' = not-there passed (searches errand.purpose) refl errand.stage refl fit.2.stage says
      by answer.NotTrashed says lost' = (k, in-span, says)
      by answer.OtherInfo says lost' = (k, in-span, says)
      by answer.Lost says lost' = lost' refl
      by answer.Fault says lost' = (k, this, says)
      by answer.NameTaken says lost' = says
      by answer.TimedOut says lost' = absurd says
      by answer.TmpGone says lost' = absurd says
      by (answer.Cleaned n) says lost' = absurd says
      by other says lost' = tt

  -- ---- what it has passed

  pub passed-next : HasPassed t job (suc k) (standing t job c (suc k))
  passed-next = subst (HasPassed t job (suc k)) (sym stands) (by after.answer refl)
    where
      by : (o : Option Answer) → after.answer ≡ o → HasPassed t job (suc k) (standing_of (Errand after.task) o)
      by None on = looked-at t story k job x is one who (same-here on) (Errand after.task) (at-none after.answer _ _ on says-turn).looked
      by (Some a) on = tt

-- ---- any step

module _ (t : Story) (story : IsStory t) (k : ℕ) (x : Step) (is : step_at t k ≡ Some x) (sound : IsSound (state t k))
    (one : HasOnePath (state t k)) (i : ℕ) (c : Call) (of : slice_get t.calls i ≡ Some c)
    (brings : (x.who ≡ ours (suc i) → ⊥) → (u : List ℕ) → MakesMessage c u → BringsAbout t k u → ⊥) where
  pub fits-step : FitsErrand t k c (standing t (suc i) c k) → FitsErrand t (suc k) c (standing t (suc i) c (suc k))
  fits-step fits = by-who x.who (suc i) own
      (λ not-own. subst (FitsErrand t (suc k) c) (sym (stands-beside t (suc i) c k x is not-own))
      (fits-beside t story k x is c (brings not-own) (standing t (suc i) c k) fits))
    where
      own : x.who ≡ ours (suc i) → FitsErrand t (suc k) c (standing t (suc i) c (suc k))
      own who = its t story i c of k x is who (λ c'. FitsErrand t (suc k) c' (standing t (suc i) c' (suc k)))
          (fits-next t story k (suc i) x is who sound one
          (back t story i c of k x is who (λ c'. FitsErrand t k c' (standing t (suc i) c' k)) fits))

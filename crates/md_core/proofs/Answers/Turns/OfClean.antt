-- What each turn of a clean says: it fails only where a call faults.
use Rattle.std.proofs.Common.{ℕ, ◌≡◌, ◌<◌, ◌-◌, List, [], ◌∷◌, Bool, length, refl, MatchOption}
use Rattle.md_dirs.specs.Calls as dirs
use Rattle.md_core.proofs.Values.{State, Answer, DirReply, Moment, rows_of, Tmp, After, Turn, rows_for, reply_of, ask_of}
use Rattle.md_jobs.specs.declared.answer.Answer.TheVariants as answer
use Rattle.md_jobs.specs.Tasks.Cleaning.{Cleaning, Stage, Look, Remove}
use Rattle.md_jobs.specs.declared.step.DirReply.TheVariants as reply
use Rattle.md_jobs.specs.Machines.Clean.{at_stage, tmp, old_names, after_next, look_turn, unlink_turn, stage_turn, cleaning_turn}
use Rattle.md_core.proofs.Answers.Turns.Refusals.{list-exists, list-not_found, unlink-exists}

-- what an answer says of the reply
abbrev pub CleanTells : DirReply → Answer → Type 0
CleanTells r (answer.Cleaned n) = Unit {0}
CleanTells r answer.Fault = r ≡ reply.Fault
CleanTells r a = ⊥

abbrev CleanSays : DirReply → After Cleaning → Type 0
CleanSays r after = MatchOption after.answer (Unit {0}) (CleanTells r)

module _ (s : State) (at : Moment) (faulted : Bool) (c : Cleaning) where
  next-says : (x : Cleaning) (r : DirReply) (rest : List (List ℕ)) (files : ℕ) → CleanSays r (after_next x rest files)
  next-says x r [] files = tt
  next-says x r (name ∷ rest) files = tt

  look-says : c.folder < s.folders → (r : DirReply) → r ≡ reply_of (dirs.list c.folder Tmp) s faulted →
      CleanSays r ((look_turn (at_stage c Look) at.own).follows r (rows_of s c.folder Tmp))
  look-says within reply.Ok replied =
      let names = old_names at.own (rows_of s c.folder Tmp) in next-says (at_stage c Look) reply.Ok names (length names)
  look-says within reply.Exists replied = absurd (list-exists s faulted c.folder Tmp within replied)
  look-says within reply.NotFound replied = absurd (list-not_found s faulted c.folder Tmp within replied)
  look-says within reply.Fault replied = refl

  module _ (name : List ℕ) (rest : List (List ℕ)) (files : ℕ) where
    abbrev z : Cleaning
    z = at_stage c (Remove name rest files)

    unlink-says : (r : DirReply) → r ≡ reply_of (dirs.unlink (tmp c name)) s faulted →
        CleanSays r ((unlink_turn z name rest files).follows r [])
    unlink-says reply.Ok replied = next-says z reply.Ok rest files
    unlink-says reply.Exists replied = absurd (unlink-exists s faulted (tmp c name) replied)
    unlink-says reply.NotFound replied = next-says z reply.NotFound rest (files - 1)
    unlink-says reply.Fault replied = refl

  -- what a turn says, with the reply that the directories give
  abbrev SaysOne : Turn Cleaning → Type 0
  SaysOne turn = let r = reply_of (ask_of turn.asked at.clock) s faulted in CleanSays r (turn.follows r (rows_for turn.asked s))

  stage-says : c.folder < s.folders → (stage : Stage) → SaysOne (stage_turn (at_stage c stage) at.own stage)
  stage-says within Look = look-says within (reply_of (dirs.list c.folder Tmp) s faulted) refl
  stage-says within (Remove name rest files) = unlink-says name rest files (reply_of (dirs.unlink (tmp c name)) s faulted) refl

  -- What a turn of a clean says, whatever its stage.
  pub cleaning-says : c.folder < s.folders → SaysOne (cleaning_turn c at.own)
  cleaning-says within = stage-says within c.stage

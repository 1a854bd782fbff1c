-- What each turn of a clean does, by its stage and the reply: no message changes.
use Rattle.std.proofs.Common.{ℕ, ◌≡◌, ◌<◌, ◌-◌, List, [], ◌∷◌, Option, Some, None, Bool, false, not, length, refl, sym, ap, arith}
use Rattle.std.proofs.lemmas.List.{length-map}
use Rattle.std.proofs.lemmas.List.Filters.{length-filter_both}
use Rattle.md_dirs.specs.Calls as dirs
use Rattle.md_core.proofs.Values.{State, IsSound, Call, Answer, DirReply, Moment, Clean, rows_of, Tmp, HasOnePath, is_effect_at, is_success, as_task, Asked, list, unlink, ask_of, state_by, Turn, After, ends, rows_for, reply_of, after_unlink}
use Rattle.md_jobs.specs.declared.answer.Answer.TheVariants as answer
use Rattle.md_jobs.specs.Tasks.Cleaning.{Cleaning, Stage, Look, Remove}
use Rattle.md_jobs.specs.declared.step.DirReply.TheVariants as reply
use Rattle.md_jobs.specs.Machines.Clean.{at_stage, tmp, is_old, old_rows, old_names, after_next, look_turn, unlink_turn, stage_turn, cleaning_turn, steps_left}
use Rattle.md_core.proofs.Induction.Good.{CleaningFits, Does}
use Rattle.md_core.proofs.Mailbox.Changes.{one-keeps, mailbox-keeps}
use Rattle.md_core.proofs.Directories.Frames.{Shrinks, task-shrinks}
use Rattle.md_core.proofs.Directories.Quiet.{Quiet, quiet-stays, quiet-unlink}
use Rattle.md_core.proofs.Machines.Stays.{as_after}
use Rattle.md_core.proofs.Machines.Stays.{settles-none}
use Rattle.md_core.proofs.Directories.Calls.Unlink.{unlink-shrinks}

-- what a turn of a clean does at a reply
abbrev pub DoesBy : State → ℕ → Call → Cleaning → ℕ → Turn Cleaning → DirReply → Type 0
DoesBy s number asked c clock turn r =
    Does s (state_by (ask_of turn.asked clock) s r) number asked (Clean c) turn.asked r ((as_task Clean turn).follows r (rows_for turn.asked s))

-- a turn at which no message changes, and names in tmp alone go
module _ (s s' : State) (number : ℕ) (asked : Call) (one : HasOnePath s) (c : Cleaning) (fits : CleaningFits asked c) (made : Asked) (r : DirReply) (u : List ℕ)
    (quiet : Quiet s s' u) (shrinks : Shrinks s s') where
  abbrev DoesQuietly : After Cleaning → Type 0
  DoesQuietly after = Does s s' number asked (Clean c) made r (as_after Clean after)

  no_effect : (o : Option Answer) → false ≡ is_effect_at asked made r o
  no_effect o = sym (ap (λ (a : Call). is_effect_at a made r o) fits)

  ends-does : (a : Answer) → is_success a ≡ false → 0 < steps_left s c.folder c.stage → DoesQuietly (ends c a)
  ends-does a failure some = record {
    sound = quiet.sound;
    one_path = one-keeps s s' one quiet.keeps;
    folders = quiet.spares.folders;
    fits = λ is. cc;
    others = λ asked' task' apart. task-shrinks s s' shrinks asked' task';
    none_overwritten = quiet.spares.none_overwritten;
    no_messages = quiet.spares.no_messages;
    as_alone = mailbox-keeps s s' one quiet.keeps;
    is_effect = no_effect (Some a);
    first = tt;
    found = λ v size unanswered its. absurd its;
    effect = tt;
    settles = settles-none None a refl failure;
    nearer = some;
    fixed = λ is. cc;
  }

  -- the next of the names that are left, or the answer
  next-does : (rest : List (List ℕ)) (files : ℕ) → length rest < steps_left s c.folder c.stage → DoesQuietly (after_next c rest files)
  next-does [] files less = ends-does (answer.Cleaned files) refl (omega arith)
  next-does (name ∷ rest) files less = record {
    sound = quiet.sound;
    one_path = one-keeps s s' one quiet.keeps;
    folders = quiet.spares.folders;
    fits = λ is. fits;
    others = λ asked' task' apart. task-shrinks s s' shrinks asked' task';
    none_overwritten = quiet.spares.none_overwritten;
    no_messages = quiet.spares.no_messages;
    as_alone = mailbox-keeps s s' one quiet.keeps;
    is_effect = no_effect None;
    first = tt;
    found = λ v size unanswered its. absurd its;
    effect = tt;
    settles = refl;
    nearer = omega (arith, less);
    fixed = λ is a b. refl;
  }

shrinks-stays : (s : State) → Shrinks s s
shrinks-stays s = record { folders = refl; names = λ q n is. is; bytes = λ q n is. refl }

module _ (s : State) (number : ℕ) (asked : Call) (clock : ℕ) (sound : IsSound s) (one : HasOnePath s) (c : Cleaning) where
  -- nothing changes
  module _ (x : Cleaning) (fits : CleaningFits asked x) (made : Asked) (r : DirReply) where
    still-ends : (a : Answer) → is_success a ≡ false → 0 < steps_left s x.folder x.stage → Does s s number asked (Clean x) made r (as_after Clean (ends x a))
    still-ends a failure some = ends-does s s number asked one x fits made r [] (quiet-stays s [] sound) (shrinks-stays s) a failure some

    still-next : (rest : List (List ℕ)) (files : ℕ) → length rest < steps_left s x.folder x.stage →
        Does s s number asked (Clean x) made r (as_after Clean (after_next x rest files))
    still-next rest files less = next-does s s number asked one x fits made r [] (quiet-stays s [] sound) (shrinks-stays s) rest files less

  -- tmp is listed
  module _ (own : ℕ) (fits : CleaningFits asked (at_stage c Look)) where
    abbrev y : Cleaning
    y = at_stage c Look

    look-does : (r : DirReply) → DoesBy s number asked y clock (look_turn y own) r
    look-does reply.Ok =
        let rows = rows_of s c.folder Tmp in
        let both = length-filter_both (is_old own) (λ row. not (is_old own row)) (λ row. refl) rows in
        let size : length (old_names own rows) ≡ length (old_rows own rows) = length-map (old_rows own rows) (λ row. row.name) in
        still-next y fits (list c.folder Tmp) reply.Ok (old_names own rows) (length (old_names own rows)) (omega (arith, both, size))
    look-does reply.Exists = still-ends y fits (list c.folder Tmp) reply.Exists answer.Fault refl (omega arith)
    look-does reply.NotFound = still-ends y fits (list c.folder Tmp) reply.NotFound answer.Fault refl (omega arith)
    look-does reply.Fault = still-ends y fits (list c.folder Tmp) reply.Fault answer.Fault refl (omega arith)

  -- a name is taken away
  module _ (name : List ℕ) (rest : List (List ℕ)) (files : ℕ) (fits : CleaningFits asked (at_stage c (Remove name rest files))) where
    abbrev z : Cleaning
    z = at_stage c (Remove name rest files)

    unlink-does : (r : DirReply) → DoesBy s number asked z clock (unlink_turn z name rest files) r
    unlink-does reply.Ok = next-does s (after_unlink (tmp c name) s) number asked one z fits (unlink (tmp c name)) reply.Ok name
        (quiet-unlink s (tmp c name) refl sound) (unlink-shrinks s (tmp c name) refl sound) rest files (omega arith)
    unlink-does reply.Exists = still-ends z fits (unlink (tmp c name)) reply.Exists answer.Fault refl (omega arith)
    unlink-does reply.NotFound = still-next z fits (unlink (tmp c name)) reply.NotFound rest (files - 1) (omega arith)
    unlink-does reply.Fault = still-ends z fits (unlink (tmp c name)) reply.Fault answer.Fault refl (omega arith)

-- What a turn of a clean does, whatever its stage.
module _ (s : State) (number : ℕ) (asked : Call) (at : Moment) (faulted : Bool) (sound : IsSound s) (one : HasOnePath s) (c : Cleaning) where
  stage-does : (stage : Stage) → CleaningFits asked (at_stage c stage) →
      DoesBy s number asked (at_stage c stage) at.clock (stage_turn (at_stage c stage) at.own stage)
      (reply_of (ask_of (stage_turn (at_stage c stage) at.own stage).asked at.clock) s faulted)
  stage-does Look fits = look-does s number asked at.clock sound one c at.own fits (reply_of (dirs.list c.folder Tmp) s faulted)
  stage-does (Remove name rest files) fits =
      unlink-does s number asked at.clock sound one c name rest files fits (reply_of (dirs.unlink (tmp c name)) s faulted)

  pub cleaning-does : CleaningFits asked c →
      DoesBy s number asked c at.clock (cleaning_turn c at.own) (reply_of (ask_of (cleaning_turn c at.own).asked at.clock) s faulted)
  cleaning-does fits = stage-does c.stage fits

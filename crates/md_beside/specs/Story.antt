-- A story: what an observer writes down of directories that our jobs share with other programs: a history, with the bytes, and with what
-- our jobs answered.
use Rattle.std.specs.Prelude.{ℕ, zero, suc, ◌+◌, ◌≡◌, ◌≤◌, ◌<◌, ◌∷◌, ◌⊎◌, [], List, Option, Some, None, Bool, true, false, max, map, fold, take, length, slice_get, slice_set, is_some, if◌then◌else◌}
use Rattle.std.specs.List.{filter_map}
use Rattle.md_dirs.specs.State.{State, file_at, file_by}
use Rattle.md_dirs.specs.Rows.{rows_of}
use Rattle.md_dirs.specs.declared.paths.File.{File}
use Rattle.md_dirs.specs.declared.paths.Path.{Path}
use Rattle.md_jobs.specs.Asked.{Asked, create, append, link, rename, unlink, list, ask_of, state_by}
use Rattle.md_jobs.specs.Turn.{rows_for}
use Rattle.md_jobs.specs.declared.answer.Answer.{Answer}
use Rattle.md_jobs.specs.declared.call.Call.{Call}
use Rattle.md_jobs.specs.declared.effect.Effect.{Effect}
use Rattle.md_jobs.specs.declared.step.DirReply.{DirReply}
use Rattle.md_jobs.specs.declared.step.DirReply.TheVariants as reply
use Rattle.md_jobs.specs.declared.step.Moment.{Moment}
use Rattle.md_core.specs.Mailbox.{Mailbox, mailbox_of}
use Rattle.md_core.specs.Trace.{call_at}
use Rattle.md_core.specs.Tasks.Task.{Task}
use Rattle.md_core.specs.Machine.{Standing, working, answered, new_job, turn_of, standing_of}
use Rattle.md_log.specs.declared.line.Call.{Call as Told}
use Rattle.md_log.specs.declared.line.Call.TheVariants as told
use Rattle.md_log.specs.declared.line.Deed.TheVariants as deed
use Rattle.md_log.specs.declared.line.Naming.TheVariants as naming
use Rattle.md_log.specs.declared.line.Reply.{Reply}
use Rattle.md_log.specs.declared.line.Reply.TheVariants as said
use Rattle.md_log.specs.declared.line.Step.{Step as Seen}
use Rattle.md_law.specs.History.{History, opening, next}

-- who took a step: one of our jobs, by its number, or another program
pub data Who : Type 0 where
  ours : (job : ℕ) → Who
  another : (actor : List ℕ) → Who

-- What was done. A job of ours makes the calls of `Asked`. Another program may also change a file's bytes in any way, so that it has these
-- then, and flush a file.
pub data Did : Type 0 where
  asked : (a : Asked) → Did
  wrote : (p : Path) (bytes : List ℕ) → Did
  flushed : (p : Path) → Did

pub record Step : Type 0 where
  pub who : Who
  pub did : Did
  pub reply : DirReply
  pub at : Moment
  -- of a job of ours: its answer, where it has one now, and its effect where this step is one
  pub answer : Option Answer
  pub effect : Option Effect

-- The directories and the clock at the beginning, the calls of our jobs, numbered from 1, the name of each job as an actor, and the steps
-- in their order.
pub record Story : Type 0 where
  pub image : State
  pub clock : ℕ
  pub calls : List Call
  pub actor : ℕ → List ℕ
  pub steps : List Step

abbrev pub step_at : Story → ℕ → Option Step
step_at t k = slice_get t.steps k

-- ---- the directories

-- a file that was written to has these bytes. A write that failed may have left a part of its own, but sets no stamp
abbrev pub file_written : List ℕ → ℕ → DirReply → Option File → Option File
file_written bytes now r None = None
file_written bytes now reply.Ok (Some file) = Some (record { bytes = bytes; stamp = now })
file_written bytes now reply.Fault (Some file) = Some (record file { bytes = bytes })
file_written bytes now r (Some file) = Some file

abbrev pub after_write : List ℕ → ℕ → DirReply → State → Option ℕ → State
after_write bytes now r s None = s
after_write bytes now r s (Some n) = record s { files = slice_set s.files n (file_written bytes now r (file_by s.files n)) }

-- the directories after a step
abbrev pub after_did : Did → ℕ → DirReply → State → State
after_did (asked a) now r s = state_by (ask_of a now) s r
after_did (wrote p bytes) now r s = after_write bytes now r s (file_at s p)
after_did (flushed p) now r s = s

unfoldable pub state_after : State → List Step → State
state_after s [] = s
state_after s (x ∷ steps) = state_after (after_did x.did x.at.clock x.reply s) steps

-- the directories, and the mailbox, at moment k, before step k
abbrev pub state : Story → ℕ → State
state t k = state_after t.image (take k t.steps)

abbrev pub box : Story → ℕ → Mailbox
box t k = mailbox_of (state t k)

-- the effects of our jobs before moment k
abbrev pub effects : Story → ℕ → List Effect
effects t k = filter_map (λ x. x.effect) (take k t.steps)

-- ---- our jobs

-- how far a job is once it has taken a step
abbrev pub standing_after : ℕ → State → Step → Standing → Standing
standing_after job s x (answered a) = answered a
standing_after job s x (working task) =
    let turn = turn_of job task x.at in
    let after = turn.follows x.reply (rows_for turn.asked s) in
    standing_of after.task after.answer

abbrev pub is_by : ℕ → Who → Bool
is_by job (ours n) = Rattle.std.specs.Prelude.nat_eq n job
is_by job (another actor) = false

unfoldable pub standing_from : ℕ → State → List Step → Standing → Standing
standing_from job s [] standing = standing
standing_from job s (x ∷ steps) standing =
    standing_from job (after_did x.did x.at.clock x.reply s) steps (if is_by job x.who then standing_after job s x standing else standing)

-- how far a job of a call is at moment k
abbrev pub standing : Story → ℕ → Call → ℕ → Standing
standing t job c k = standing_from job t.image (take k t.steps) (new_job c)

-- Step k is a turn of the job: it was at work, and it made the call of its machine, and shows what that says.
pub record IsTurn (t : Story) (k : ℕ) (x : Step) (job : ℕ) : Type 0 where
  pub call : Call
  pub of : call_at t.calls job ≡ Some call
  pub task : Task
  pub works : standing t job call k ≡ working task
  pub made : x.did ≡ asked (turn_of job task x.at).asked
  pub answers : ((turn_of job task x.at).follows x.reply (rows_for (turn_of job task x.at).asked (state t k))).answer ≡ x.answer
  pub affects : ((turn_of job task x.at).follows x.reply (rows_for (turn_of job task x.at).asked (state t k))).effect ≡ x.effect

-- ---- the history of a story, as the law sees it

abbrev pub reply_seen : DirReply → Reply
reply_seen reply.Ok = said.Ok
reply_seen reply.Exists = said.Exists
reply_seen reply.NotFound = said.NotFound
reply_seen reply.Fault = said.Fault

abbrev pub call_seen : State → Did → Reply → Told
call_seen s (asked (create p)) r = told.At deed.Create p r
call_seen s (asked (append p bytes)) r = told.At deed.Write p r
call_seen s (asked (link old new)) r = told.Between naming.Link old new r
call_seen s (asked (rename old new)) r = told.Between naming.Rename old new r
call_seen s (asked (unlink p)) r = told.At deed.Unlink p r
call_seen s (asked (list folder place)) r = told.List folder place r (map (λ row. row.name) (rows_of s folder place))
call_seen s (wrote p bytes) r = told.At deed.Write p r
call_seen s (flushed p) r = told.At deed.Flush p r

abbrev pub actor_seen : (ℕ → List ℕ) → Who → List ℕ
actor_seen actor (ours job) = actor job
actor_seen actor (another name) = name

abbrev pub step_seen : (ℕ → List ℕ) → State → Step → Seen
step_seen actor s x = record {
  moment = x.at.clock;
  ticks = None;
  actor = actor_seen actor x.who;
  call = call_seen s x.did (reply_seen x.reply);
}

-- a history knows no bytes
abbrev pub bare_file : Option File → Option File
bare_file None = None
bare_file (Some file) = Some (record file { bytes = [] })

abbrev pub without_bytes : State → State
without_bytes s = record s { files = map bare_file s.files }

-- a history with these steps more, which begin at these directories
unfoldable pub history_after : (ℕ → List ℕ) → State → List Step → History → History
history_after actor s [] h = h
history_after actor s (x ∷ steps) h = history_after actor (after_did x.did x.at.clock x.reply s) steps (next h (step_seen actor s x))

-- the history at moment k, before step k
abbrev pub history : Story → ℕ → History
history t k = history_after t.actor t.image (take k t.steps) (opening (record { state = without_bytes t.image; now = t.clock }))

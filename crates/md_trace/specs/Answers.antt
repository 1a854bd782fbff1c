-- What a log says of the answers of jobs.
use Rattle.std.specs.Prelude.{ℕ, ◌-◌, ◌≤◌, List, [], ◌++◌, Option, None, Some, codes, slice_get}
use Rattle.std.specs.Fmt.{decimal}
use Rattle.md_core.specs.declared.Answer.{Answer}
use Rattle.md_core.specs.declared.Answer.TheVariants as answer
use Rattle.md_core.specs.declared.Call.{Call}
use Rattle.md_core.specs.declared.Call.TheVariants as call
use Rattle.md_core.specs.declared.Event.{Event}
use Rattle.md_script.specs.Texts.{answer_text}
use Rattle.md_trace.specs.declared.answers.Subject.{Subject}
use Rattle.md_trace.specs.declared.text.Log.{Log}
use Rattle.md_trace.specs.Growing.{folder_in, message_text, most, told_text}

-- the message of a call, and the one that it makes of it elsewhere; nothing for a clean
abbrev pub subject_of : Call → Option Subject
subject_of (call.Deliver folder u body chunk) = Some (record { folder = folder; unique = u; to = None; fresh = None })
subject_of (call.Seen folder u flags tries) = Some (record { folder = folder; unique = u; to = None; fresh = None })
subject_of (call.Flag folder u add remove tries) = Some (record { folder = folder; unique = u; to = None; fresh = None })
subject_of (call.Move folder u to tries) = Some (record { folder = folder; unique = u; to = Some to; fresh = None })
subject_of (call.Expunge folder u tries) = Some (record { folder = folder; unique = u; to = None; fresh = None })
subject_of (call.Copy folder u to fresh tries) = Some (record { folder = folder; unique = u; to = Some to; fresh = Some fresh })
subject_of (call.Clean folder) = None

-- an answer that a log has no word for: the job did nothing to the message
abbrev pub failed_text : Log → Subject → ℕ → List ℕ
failed_text log s job = decimal job ++ codes " answer failed" ++ message_text log s.folder s.unique

-- an answer in its own words, and the message
abbrev pub own_text : Log → Subject → ℕ → Answer → List ℕ
own_text log s job a = told_text job a ++ message_text log s.folder s.unique

-- a copy, which is a message that was delivered
abbrev pub copied_text : Log → Subject → ℕ → Option ℕ → Option (List ℕ) → List ℕ
copied_text log s job (Some folder) (Some unique) = told_text job answer.Delivered ++ message_text log folder unique
copied_text log s job to fresh = failed_text log s job

-- a message that was moved, with its new folder
abbrev pub moved_text : Log → Subject → ℕ → Option ℕ → Option (List ℕ) → List ℕ
moved_text log s job (Some folder) None =
    told_text job answer.Moved ++ codes " " ++ folder_in log folder ++ message_text log s.folder s.unique
moved_text log s job to fresh = failed_text log s job

-- That a message is not there a log says of the whole folder, so it is said only where new and cur were looked through: by a job that takes
-- it to another folder.
abbrev pub missed_text : Log → Subject → ℕ → Option ℕ → List ℕ
missed_text log s job (Some folder) = own_text log s job answer.NotThere
missed_text log s job None = failed_text log s job

-- an answer and the message that it is about
abbrev pub answered_text : Log → Subject → ℕ → Answer → List ℕ
answered_text log s job answer.Copied = copied_text log s job s.to s.fresh
answered_text log s job answer.Moved = moved_text log s job s.to s.fresh
answered_text log s job answer.NotThere = missed_text log s job s.to
answered_text log s job answer.Delivered = own_text log s job answer.Delivered
answered_text log s job (answer.Flags flags) = own_text log s job (answer.Flags flags)
answered_text log s job answer.Expunged = own_text log s job answer.Expunged
answered_text log s job a = failed_text log s job

-- the line of an answer that a job has by a step
abbrev pub answer_line : Log → Event → Answer → Subject → List ℕ
answer_line log event a s = decimal event.now ++ codes " job" ++ answered_text log s event.job a ++ codes "\n"

-- it has one if it is about a message
abbrev pub answer_lines_of : Log → Event → Answer → Option Subject → List ℕ
answer_lines_of log event a None = []
answer_lines_of log event a (Some s) = answer_line log event a s

-- and before that a comment in its own words
abbrev pub answer_lines : Log → Event → Answer → Option Subject → List ℕ
answer_lines log event a of = codes "# answer " ++ answer_text a ++ codes "\n" ++ answer_lines_of log event a of

-- a line has a moment of 19 digits at most
abbrev pub IsFitAnswer : Event → Option Subject → Type 0
IsFitAnswer event None = Unit {0}
IsFitAnswer event (Some s) = event.now ≤ most

-- what the answer of a job is about, by the jobs' numbers from 1
abbrev pub subject_at : Option (Option Subject) → Option Subject
subject_at None = None
subject_at (Some of) = of

abbrev pub subject_in : List (Option Subject) → ℕ → Option Subject
subject_in subjects job = subject_at (slice_get subjects (job - 1))

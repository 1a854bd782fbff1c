-- What C sees of answers and steps.
use Rattle.std.specs.Prelude.{ℕ, ◌==◌, Option, Some, None, if◌then◌else◌}
use Rattle.std.specs.Int.{from_bool}
use Rattle.md_jobs.specs.declared.answer.Answer.{Answer}
use Rattle.md_jobs.specs.declared.answer.Answer.TheVariants as answer
use Rattle.md_jobs.specs.declared.step.DirCall.{DirCall}
use Rattle.md_jobs.specs.declared.step.DirCall.TheVariants as dir
use Rattle.md_jobs.specs.declared.step.DirReply.{DirReply}
use Rattle.md_jobs.specs.declared.step.DirReply.TheVariants as reply
use Rattle.md_jobs.specs.declared.step.StepOut.{StepOut}
use Rattle.md_name.specs.Words.{word_of}
use Rattle.md_dirs.specs.Path.{place_index}
use Rattle.md_dirs.specs.declared.paths.Place.{Place}
use Rattle.md_dirs.specs.declared.paths.Place.TheVariants.{Tmp, New, Cur}
use Rattle.md_driven.specs.declared.shown.AnswerShown.{AnswerShown}
use Rattle.md_driven.specs.declared.shown.StepShown.{StepShown}

-- the number of an answer, 0 where there is none yet
abbrev pub answer_number : Option Answer → ℕ
answer_number None = 0
answer_number (Some answer.Delivered) = 1
answer_number (Some (answer.Flags flags)) = 2
answer_number (Some answer.Moved) = 3
answer_number (Some answer.Expunged) = 4
answer_number (Some answer.Copied) = 5
answer_number (Some (answer.Cleaned count)) = 6
answer_number (Some answer.NotThere) = 7
answer_number (Some answer.NotTrashed) = 8
answer_number (Some answer.OtherInfo) = 9
answer_number (Some answer.Lost) = 10
answer_number (Some answer.TimedOut) = 11
answer_number (Some answer.TmpGone) = 12
answer_number (Some answer.NameTaken) = 13
answer_number (Some answer.Fault) = 14

-- the flags, bit 0 for A to bit 25 for Z and bit 26 for a to bit 51 for z, or the count that an answer has, else 0
abbrev pub answer_value : Option Answer → ℕ
answer_value (Some (answer.Flags flags)) = word_of flags
answer_value (Some (answer.Cleaned count)) = count
answer_value other = 0

-- what is shown of an answer, or that there is none yet
abbrev pub answer_shown : Option Answer → AnswerShown
answer_shown a = record { kind = answer_number a; value = answer_value a }

-- the number of a directory call
abbrev pub call_number : DirCall → ℕ
call_number dir.Create = 1
call_number (dir.Append count) = 2
call_number dir.Link = 3
call_number dir.Rename = 4
call_number dir.Unlink = 5
call_number (dir.List place) = 6

-- the bytes of an append, or the place of a listing, else 0
abbrev pub call_value : DirCall → ℕ
call_value (dir.Append count) = count
call_value (dir.List place) = place_index place
call_value other = 0

-- the number of what the directories answered
abbrev pub reply_number : DirReply → ℕ
reply_number reply.Ok = 1
reply_number reply.Exists = 2
reply_number reply.NotFound = 3
reply_number reply.Fault = 4

-- what is shown of a step; its effect is 1 where it is its job's effect
abbrev pub step_shown : StepOut → StepShown
step_shown step = record {
  call = call_number step.call;
  reply = reply_number step.reply;
  value = call_value step.call;
  effect = from_bool step.effect;
  answer = answer_shown step.answer;
}

-- the place of a number
abbrev pub place_at : ℕ → Option Place
place_at n = if n == 0 then Some Tmp else if n == 1 then Some New else if n == 2 then Some Cur else None

-- the reply of a number
abbrev pub reply_at : ℕ → Option DirReply
reply_at n =
    if n == 1 then Some reply.Ok else if n == 2 then Some reply.Exists else if n == 3 then Some reply.NotFound
    else if n == 4 then Some reply.Fault else None

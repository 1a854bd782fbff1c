-- Every answer of a run says what happened.
use Rattle.std.proofs.Common.{ℕ, ◌≡◌, Some}
use Rattle.md_jobs.specs.declared.answer.Answer.TheVariants as answer
use Rattle.md_core.proofs.Values.{Call, Answer, answered, job_at, Run, jobs_of, call_at, IsAnswered, IsRun, Says, trace_of}
use Rattle.md_core.proofs.Answers.Touches.OfMailbox.{says_of_mailbox}
use Rattle.md_core.proofs.Answers.Files.OfTime.{says_of_time}
use Rattle.md_core.proofs.Answers.Files.Unlinks.{is-delivered, is-faulted, is-undone}
use Rattle.md_core.proofs.Traces.Stands.{answered-at}

all-say : (r : Run) → IsRun r → (job : ℕ) (c : Call) (a : Answer) → call_at r.calls job ≡ Some c →
    job_at (jobs_of r) job ≡ Some (answered a) → Says (trace_of r) job c a
all-say r run job c answer.TimedOut of is = says_of_time r run job c answer.TimedOut of is tt
all-say r run job c answer.TmpGone of is = says_of_time r run job c answer.TmpGone of is tt
all-say r run job c (answer.Cleaned n) of is = says_of_time r run job c (answer.Cleaned n) of is tt
all-say r run job c answer.NotThere of is = says_of_mailbox r run job c answer.NotThere of is tt
all-say r run job c answer.NotTrashed of is = says_of_mailbox r run job c answer.NotTrashed of is tt
all-say r run job c answer.OtherInfo of is = says_of_mailbox r run job c answer.OtherInfo of is tt
all-say r run job c answer.Lost of is = says_of_mailbox r run job c answer.Lost of is tt
all-say r run job c answer.Fault of is = (is-faulted r run job c of is, is-undone r run job c of is)
all-say r run job c answer.NameTaken of is = says_of_mailbox r run job c answer.NameTaken of is tt
all-say r run job c answer.Delivered of is = is-delivered r run job c of is
all-say r run job c other of is = tt

pub says : (r : Run) → IsRun r → (job : ℕ) (c : Call) (a : Answer) → call_at r.calls job ≡ Some c → IsAnswered (trace_of r) job a →
    Says (trace_of r) job c a
says r run job c a of answers = all-say r run job c a of (answered-at r run job a answers)

use Rattle.std.proofs.Common.{◌≡◌, ℕ, ◌+◌, ◌<◌, ◌++◌, true, is_some}
use Rattle.md_core.specs.Machine.{job_at}
use Rattle.md_core.specs.Runs.{jobs_of, answer_of}
use Rattle.md_runs.specs.Threading.{answers_text}
use Rattle.md_runs.proofs.threads.report.push_answers.Given as goal

abbrev pub invariant-loop-before : goal.invariant-loop-before
invariant-loop-before g l = record {
  text : l.text.items ≡ l.fn.text.items ++ answers_text (jobs_of l.world) l.before;
  answered : (n : ℕ) → n < l.before → is_some (answer_of (job_at (jobs_of l.world) (n + 1))) ≡ true;
}

-- The turn of a delivery, an errand or a clean is the turn of its task.
use Rattle.std.proofs.Common.{List, ap}
use Rattle.md_dirs.specs.declared.rows.Row.{Row}
use Rattle.md_jobs.specs.Turn.{Turn}
use Rattle.md_jobs.specs.declared.step.DirReply.{DirReply}
use Rattle.md_jobs.specs.declared.step.StepOut.{StepOut}
use Rattle.md_core.specs.Machine.{as_task}
use Rattle.md_core.specs.Tasks.Task.{Task}
use Rattle.md_driven.specs.Driving.{Took}

pub took_wrapped : {T : Type 0} (wrap : T → Task) (turn : Turn T) (r : DirReply) (rows : List Row) (task : T) (out : StepOut)
    → Took turn r rows task out → Took (as_task wrap turn) r rows (wrap task) out
took_wrapped wrap turn r rows task out took = record {
  call = took.call;
  reply = took.reply;
  effect = took.effect;
  answered = took.answered;
  goes_on = λ none. ap wrap (took.goes_on none);
}

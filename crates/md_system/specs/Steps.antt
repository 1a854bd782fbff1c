-- One call of a job that is run.
use Rattle.std.specs.Prelude.{◌≡◌, ◌++◌, List, [], ◌∷◌, Option, None}
use Rattle.md_jobs.specs.Turn.{Turn}
use Rattle.md_jobs.specs.declared.answer.Answer.{Answer}
use Rattle.md_jobs.specs.declared.step.Moment.{Moment}
use Rattle.md_system.specs.Exchanges.{Exchange}

-- One call was made, that which the job asked for. It has this answer, if any; a job that has none goes on with this task.
pub record Steps {T : Type 0} (turn : T → Moment → Turn T) (t : T)
    (old new : List Exchange) (answer : Option Answer) (task : T) : Type 0 where
  pub call : Exchange
  pub logged : new ≡ old ++ call ∷ []
  pub asked : call.asked ≡ (turn t call.heard.at).asked
  pub answered : ((turn t call.heard.at).follows call.heard.reply call.heard.rows).answer ≡ answer
  pub goes_on : answer ≡ None → ((turn t call.heard.at).follows call.heard.reply call.heard.rows).task ≡ task

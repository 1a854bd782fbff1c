use Rattle.md_core.proofs.Theorem.Effects.{after-push}
use Rattle.md_core.proofs.laws.histories_grow_by_one_change.Goals as goal

pub returns : goal.returns
returns c = λ opening history next. after-push opening history next

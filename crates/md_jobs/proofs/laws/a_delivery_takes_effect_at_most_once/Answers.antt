use Rattle.md_jobs.proofs.AllCalls.{delivery-once}
use Rattle.md_jobs.proofs.laws.a_delivery_takes_effect_at_most_once.Goals as goal

pub returns : goal.returns
returns c = delivery-once

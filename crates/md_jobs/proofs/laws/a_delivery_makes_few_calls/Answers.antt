use Rattle.md_jobs.proofs.AllCalls.{delivery-few}
use Rattle.md_jobs.proofs.laws.a_delivery_makes_few_calls.Goals as goal

pub returns : goal.returns
returns c = delivery-few

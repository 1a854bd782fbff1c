use Rattle.md_jobs.proofs.Turns.{delivery-on}
use Rattle.md_jobs.proofs.laws.a_delivery_keeps_to_its_path.Goals as goal

pub returns : goal.returns
returns c = λ job d at. delivery-on job d at

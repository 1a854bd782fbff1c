use Rattle.md_jobs.proofs.Replies.{delivery-linked}
use Rattle.md_jobs.proofs.laws.a_delivery_is_delivered_by_its_link.Goals as goal

pub returns : goal.returns
returns c = λ job d at reply rows. delivery-linked job d at reply rows

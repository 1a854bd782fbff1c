use Rattle.md_jobs.proofs.Replies.{delivery-whole}
use Rattle.md_jobs.proofs.laws.a_delivery_links_what_it_wrote.Goals as goal

pub returns : goal.returns
returns c = λ job d at file. delivery-whole job d at file

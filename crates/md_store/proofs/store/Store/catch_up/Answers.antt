use Rattle.md_store.proofs.Since.{holds-all}
use Rattle.md_store.proofs.store.Store.catch_up.Goals as goal

pub returns-clause-all : goal.returns-clause-all
returns-clause-all g c = holds-all c.catch_up-made.new.self c.catch_up-made.new.pass c.catch_up-made.result c.catch_up-made.ensures.all c.catch_up-made.ensures.run_told

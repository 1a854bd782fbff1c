use Rattle.md_runs.proofs.WordLists.{called}
use Rattle.md_runs.proofs.words.operands.Goals as goal

pub returns : goal.returns
returns c = called c.args.words.now _ _ _ c.in-len1-up.len_at_least c.if-ne.ensures c.without_dashes.ensures

use Rattle.std.proofs.Common.{◌∙◌}
use Rattle.md_name.proofs.SameSets.{words-same}
use Rattle.md_jobs.proofs.purpose.is_same.Goals as goal

pub returns : goal.returns
returns c = c.eq.ensures ∙ words-same c.args.first c.args.second c.only_letters.ensures c.only_letters-2.ensures

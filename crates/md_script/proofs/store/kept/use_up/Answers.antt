use Rattle.std.proofs.Common.{◌==◌, not, rules}
use Rattle.std.proofs.lemmas.Fn.{filter_same}
use Rattle.md_script.proofs.store.kept.use_up.Goals as goal

pub returns : goal.returns
returns c = filter_same _ (λ l. not (l.folder == c.args.folder)) _ (λ x b f' k. search rules) _ _ c.retain.ensures.filtered

use Rattle.std.proofs.Common.{◌∙◌, nat_lt, length}
use Rattle.md_dirs.proofs.Uniques.{told}
use Rattle.md_dirs.proofs.index.named.Named.has_info.Goals as goal

pub returns : goal.returns
returns c = (λ i. nat_lt (c.unique_len.ensures i) (length (c.name.ensures i))) ∙ told c.args.self.now.0

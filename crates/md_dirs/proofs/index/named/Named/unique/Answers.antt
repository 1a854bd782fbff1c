use Rattle.std.proofs.Common.{◌∙◌, sym, ap, take, length}
use Rattle.md_dirs.proofs.Uniques.{take-unique}
use Rattle.md_dirs.proofs.index.named.Named.unique.Goals as goal

pub returns : goal.returns
returns c = (λ i. take (c.unique_len.ensures i) (c.name-name.ensures i)) ∙ take-unique c.args.self.now.0

pub slice_bounds-result-end : goal.slice_bounds-result-end
slice_bounds-result-end c = c.unique_len.ensures ∙ sym (ap length ((λ i. take (c.unique_len.ensures i) (c.name-name.ensures i)) ∙ take-unique c.args.self.now.0))

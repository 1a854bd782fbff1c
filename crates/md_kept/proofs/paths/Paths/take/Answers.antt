use Rattle.std.proofs.Common.{None, ap, cond, ◌∙◌}
use Rattle.md_dirs.specs.Index.{directory_number}
use Rattle.md_kept.specs.Changes.{file_in}
use Rattle.md_kept.specs.Tables.{is_key}
use Rattle.md_kept.proofs.Keys.{spot-is}
use Rattle.md_kept.proofs.paths.Paths.take.Goals as goal

pub returns : goal.returns
returns c = λ q.
    let number = directory_number q.folder q.place in
    c.take_at.ensures number q.name
    ∙ (λ i. cond (is_key (c.number_of.ensures i, c.as_slice.ensures i) (number, q.name)) None (file_in c.args.self.now q))
    ∙ ap (λ b. cond b None (file_in c.args.self.now q)) (spot-is c.args.path.now q)

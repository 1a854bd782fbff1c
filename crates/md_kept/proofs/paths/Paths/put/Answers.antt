use Rattle.std.proofs.Common.{Some, cond, ◌∙◌}
use Rattle.md_dirs.specs.Index.{directory_number}
use Rattle.md_kept.specs.Directories.{file_named}
use Rattle.md_kept.specs.Tables.{is_key}
use Rattle.md_kept.proofs.Keys.{then, spot-is}
use Rattle.md_kept.proofs.paths.Paths.put.Goals as goal

pub returns : goal.returns
returns c = then c.put_at.result
    (λ puts q.
    let number = directory_number q.folder q.place in
    puts number q.name
    ∙ (λ i. cond (is_key (c.number_of-number.ensures i, c.as_slice.ensures i) (number, q.name)) (Some c.args.file)
    (file_named c.grow.new.self number q.name))
    ∙ (λ i. cond (spot-is c.args.path.now q i) (Some c.args.file) (c.in_ok-grow.ensures.same number q.name i)))
    c.put_at.ensures

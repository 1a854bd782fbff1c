use Rattle.std.proofs.Common.{◌<◌, count_by, arith, lt-ltb, ltb-true}
use Rattle.md_name.specs.Names.{unique_of}
use Rattle.md_system.specs.Checks.{is_of, is_of_in}
use Rattle.md_system.proofs.Elsewhere.{elsewhere}
use Rattle.md_system.proofs.flaws.is_elsewhere.Goals as goal

pub returns : goal.returns
returns c =
    let all = c.args.seen.now in
    let one = c.args.one.now in
    let by = elsewhere one all in (
      λ less. let fewer : c.count_in_folder.result < c.count_everywhere.result = ltb-true _ _ less in
          by.0 (omega (arith, fewer, c.count_in_folder.ensures, c.count_everywhere.ensures)),
      λ some. let fewer : count_by (is_of_in one.folder (unique_of one.name)) all < count_by (is_of (unique_of one.name)) all = by.1 some in
          lt-ltb _ _ (omega (arith, fewer, c.count_in_folder.ensures, c.count_everywhere.ensures)),
    )

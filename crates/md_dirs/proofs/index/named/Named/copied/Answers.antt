use Rattle.std.proofs.Common.{length, ap, arith, refl}
use Rattle.md_dirs.proofs.Uniques.{unique-le}
use Rattle.md_dirs.proofs.index.named.Named.copied.Goals as goal

-- src/index/named.rt:61:25
pub overflow_cast-name : goal.overflow_cast-name
overflow_cast-name c =
    let le = unique-le c.args.name.now in
    omega (arith, ap length c.unique_part-unique.ensures, le, c.in-Some.ensures.few.0 refl)

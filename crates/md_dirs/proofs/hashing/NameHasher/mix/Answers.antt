use Rattle.std.proofs.Common.{refl}
use Rattle.md_dirs.specs.Hashing.{mix}
use Rattle.md_dirs.proofs.hashing.NameHasher.mix.Goals as goal

pub returns : goal.returns
unfolding mix
returns c = refl

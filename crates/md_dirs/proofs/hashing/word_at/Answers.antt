use Rattle.md_dirs.specs.Hashing.{word_at}
use Rattle.md_dirs.proofs.hashing.word_at.Goals as goal

pub returns : goal.returns
unfolding word_at
returns c = c.from_le_bytes.ensures

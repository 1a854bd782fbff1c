use Rattle.std.proofs.Common.{◌≡◌, take}
use Rattle.md_dirs.specs.Hashing.{short_word}
use Rattle.md_dirs.proofs.hashing.short_word.Given as goal

abbrev pub invariant-loop-byte : goal.invariant-loop-byte
invariant-loop-byte l = l.word ≡ short_word (take l.byte-index l.bytes)

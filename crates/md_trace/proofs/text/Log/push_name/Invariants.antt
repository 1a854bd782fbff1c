use Rattle.std.proofs.Common.{take}
use Rattle.md_trace.specs.Growing.{Grows, name_text}
use Rattle.md_trace.proofs.text.Log.push_name.Given as goal

abbrev pub invariant-loop-byte : goal.invariant-loop-byte
invariant-loop-byte l = Grows (name_text (take l.byte-index l.name)) l.initial.self l.self

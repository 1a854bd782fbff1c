use Rattle.std.proofs.Common.{◌≡◌, ◌++◌, take}
use Rattle.std.specs.List.{flat_map}
use Rattle.md_runs.specs.Indexes.{made_text}
use Rattle.md_runs.proofs.indexing.workers.push_all.Given as goal

abbrev pub invariant-loop-made : goal.invariant-loop-made
invariant-loop-made l = l.out.items ≡ l.fn.out.items ++ flat_map (made_text l.name) (take l.made-index l.all)

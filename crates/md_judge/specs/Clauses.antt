-- Sets of clauses.
use Rattle.std.specs.Prelude.{◌≡◌, true, Some, slice_get}
use Rattle.md_law.specs.Values.{Clause}
use Rattle.md_log.specs.Texts.{clause_index}
use Rattle.md_judge.specs.declared.clauses.Clauses.{Clauses}

-- the set has the clause
abbrev pub Has : Clauses → Clause → Type 0
Has s c = slice_get s.has (clause_index c) ≡ Some true

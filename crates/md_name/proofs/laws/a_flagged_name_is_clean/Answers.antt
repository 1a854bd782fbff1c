use Rattle.md_name.proofs.Flagged.{slash-flagged, terminator-flagged}
use Rattle.md_name.proofs.laws.a_flagged_name_is_clean.Goals as goal

pub returns-clause-slash : goal.returns-clause-slash
returns-clause-slash c = slash-flagged c.args.unique.now c.args.flags

pub returns-clause-terminator : goal.returns-clause-terminator
returns-clause-terminator c = terminator-flagged c.args.unique.now c.args.flags

use Rattle.md_command.specs.Parts.{IsRead}
use Rattle.md_command.proofs.lines.Lines.next.Given as goal

abbrev pub invariant-loop : goal.invariant-loop
invariant-loop g l = IsRead l.kind l.most l.line.items

use Rattle.std.proofs.Common.{◌≤◌, length}
use Rattle.md_command.proofs.lines.Lines.rest.Given as goal

abbrev pub invariant-loop : goal.invariant-loop
invariant-loop g l = length l.bytes.items ≤ l.most

use Rattle.std.proofs.Common.{sym, subst, rules}
use Rattle.md_runs.proofs.FirstLines.{is_complaint}
use Rattle.md_runs.specs.Complaints.{IsComplaint}
use Rattle.md_runs.proofs.complaining.complaint.Goals as goal

pub returns-clause-text : goal.returns-clause-text
returns-clause-text c = search rules

pub returns-clause-lines : goal.returns-clause-lines
returns-clause-lines c =
    subst (IsComplaint c.args.program.now) (sym (returns-clause-text c)) (is_complaint c.args.program.now c.args.why.now c.args.tip.now)

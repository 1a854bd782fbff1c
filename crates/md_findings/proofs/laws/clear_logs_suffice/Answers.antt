use Rattle.md_findings.proofs.ClearLogs.{suffice}
use Rattle.md_findings.proofs.laws.clear_logs_suffice.Goals as goal

pub returns : goal.returns
returns c = suffice

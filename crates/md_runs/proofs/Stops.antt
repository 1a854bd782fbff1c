-- Why a script that sets up a store has no report.
use Rattle.std.proofs.Common.{ℕ, List, inl}
use Rattle.md_runs.specs.declared.fault.RunFault.{RunFault}
use Rattle.md_runs.specs.declared.fault.RunFault.TheVariants.{Play, NoReader, Closed}
use Rattle.md_runs.specs.Threading.{Begins, IsStop, IsUnreported}

pub unreported : (script : List ℕ) (fault : RunFault) → IsStop fault → Begins script → IsUnreported script fault
unreported script (Play e) stop begins = inl stop
unreported script NoReader stop begins = begins
unreported script Closed stop begins = begins

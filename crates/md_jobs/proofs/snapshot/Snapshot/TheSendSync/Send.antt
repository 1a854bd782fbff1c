-- A snapshot holds a fact alone, which is as true in another thread.
use denote.Param.Send.{IsSend, Pure-keyless}
use denote.RattleType.{RattleType}
use Rattle.md_jobs.specs.contracts.snapshot.Snapshot.{the_row}
use Rattle.md_jobs.proofs.NoMemory.{no-memory}

pub send : (D : RattleType) → IsSend (the_row D)
send D = record { owned = λ x vs. Pure-keyless ((the_row D).own_val x vs) (no-memory D x vs); leaving = λ k x last. tt }

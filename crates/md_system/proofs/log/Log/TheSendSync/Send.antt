-- A log holds a fact alone, which is as true in another thread.
use denote.Param.Send.{IsSend, Pure-keyless}
use Rattle.md_system.specs.contracts.log.Log.{the_row}
use Rattle.md_system.proofs.NoMemory.{no-memory}

pub send : IsSend the_row
send = record { owned = λ x vs. Pure-keyless (the_row.own_val x vs) (no-memory x vs); leaving = λ k x last. tt }

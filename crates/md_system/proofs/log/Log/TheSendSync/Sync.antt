-- A `&` to a log holds a share of a place with no bytes, and that fact.
use denote.Param.Send.{IsSync, Pure-keyless, whole-keyless}
use Rattle.md_system.specs.contracts.log.Log.{the_row}
use Rattle.md_system.proofs.NoMemory.{no-memory}

pub sync : IsSync the_row
sync = record { shared = λ x b o κ q. whole-keyless _ the_row.own_val (λ y vs. Pure-keyless (the_row.own_val y vs) (no-memory y vs)) q x b o }

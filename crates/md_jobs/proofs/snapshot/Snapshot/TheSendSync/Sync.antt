-- A `&` to a snapshot holds a share of a place with no bytes, and that fact.
use denote.Param.Send.{IsSync, Pure-keyless, whole-keyless}
use denote.RattleType.{RattleType}
use Rattle.md_jobs.specs.contracts.snapshot.Snapshot.{the_row}
use Rattle.md_jobs.proofs.NoMemory.{no-memory}

pub sync : (D : RattleType) → IsSync (the_row D)
sync D = record { shared = λ x b o κ q. whole-keyless _ (the_row D).own_val (λ y vs. Pure-keyless ((the_row D).own_val y vs) (no-memory D y vs)) q x b o }

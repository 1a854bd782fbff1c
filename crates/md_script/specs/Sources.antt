-- What is known of a source of bytes, and what one read makes of it.
use Rattle.std.specs.Prelude.{◌≡◌, ℕ, ◌+◌, ◌<◌, ◌≤◌, List, length, take, Option}
use Rattle.std.specs.Io.KnownBytes.{Consumes, IsAtEnd, Keeps}
use Rattle.md_script.specs.declared.source.Got.{Got}
use Rattle.md_script.specs.declared.source.Got.TheVariants.{Bytes, Interrupted, Failed}

-- the bytes that reads will give from here on, where they are known; how many reads were made, how many of them found the end, and how many
-- failed
pub record Source : Type 0 where
  pub remaining : Option (List ℕ)
  pub reads : ℕ
  pub ends : ℕ
  pub failures : ℕ

-- the least room that a read is offered, in bytes
abbrev pub least_room : ℕ
least_room = 4096

-- some bytes were read into the front of the room, none of them only at the end; the read that finds the end counts as any other
pub record Gave (old new : Source) (room : List ℕ) (count : ℕ) : Type 0 where
  pub fits : count ≤ length room
  pub bytes : Consumes old.remaining new.remaining (take count room)
  pub ended : count ≡ 0 → IsAtEnd new.remaining
  pub found : count ≡ 0 → new.ends ≡ old.ends + 1
  pub goes_on : 0 < count → new.ends ≡ old.ends
  pub counted : new.reads ≡ old.reads + 1
  pub failed : new.failures ≡ old.failures

-- nothing was read, and a signal came in between; this counts as a read too
pub record Paused (old new : Source) : Type 0 where
  pub bytes : Keeps old.remaining new.remaining
  pub goes_on : new.ends ≡ old.ends
  pub counted : new.reads ≡ old.reads + 1
  pub failed : new.failures ≡ old.failures

-- one read, and what it gave
abbrev pub Reads : Source → Source → List ℕ → Got → Type 0
Reads old new room (Bytes count) = Gave old new room count
Reads old new room Interrupted = Paused old new
Reads old new room Failed = (new.failures ≡ old.failures + 1) × (new.ends ≡ old.ends)

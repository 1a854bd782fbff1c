-- What is known of a sink of bytes, and what writing a text makes of it.
use Rattle.std.specs.Prelude.{◌≡◌, ℕ, ◌+◌, List, Option}
use Rattle.std.specs.Io.KnownBytes.{Appends, Keeps}
use Rattle.md_script.specs.declared.sink.Put.{Put}
use Rattle.md_script.specs.declared.sink.Put.TheVariants.{Done, Failed, NoMemory}

-- the bytes that it holds, where they are known; how many writes failed, and to how many memory was refused
pub record Sink : Type 0 where
  pub contents : Option (List ℕ)
  pub failures : ℕ
  pub refusals : ℕ

-- the text was added to what the sink holds
pub record Took (old new : Sink) (text : List ℕ) : Type 0 where
  pub contents : Appends old.contents new.contents text
  pub failed : new.failures ≡ old.failures
  pub refused : new.refusals ≡ old.refusals

-- the sink holds what it held, and no write failed
pub record Untouched (old new : Sink) : Type 0 where
  pub contents : Keeps old.contents new.contents
  pub failed : new.failures ≡ old.failures

-- memory was refused to one write, and nothing was written
pub record Refused (old new : Sink) : Type 0 where
  pub untouched : Untouched old new
  pub refused : new.refusals ≡ old.refusals + 1

-- a text was written whole and passed on, or the sink failed, or memory was refused and nothing was written
abbrev pub Puts : Sink → Sink → List ℕ → Put → Type 0
Puts old new text Done = Took old new text
Puts old new text Failed = new.failures ≡ old.failures + 1
Puts old new text NoMemory = Refused old new

-- What reading a script whole comes to.
use Rattle.std.specs.Prelude.{◌≡◌, ℕ, ◌+◌, ◌<◌, ◌≤◌, List, length}
use Rattle.std.specs.Io.KnownBytes.{Consumes, IsAtEnd}
use Rattle.md_script.specs.declared.error.PlayKind.{PlayKind}
use Rattle.md_script.specs.declared.error.PlayKind.TheVariants.{ReadFault, TooLong, TooManyReads, NoMemory}
use Rattle.md_script.specs.Sources.{Source}

-- the most bytes of a script
abbrev pub most_bytes : ℕ
most_bytes = 67108864

-- the most reads that a script may take
abbrev pub most_reads : ℕ
most_reads = 1048576

-- no read failed
abbrev pub Sound : Source → Source → Type 0
Sound old new = new.failures ≡ old.failures

-- no read found the end
abbrev pub Endless : Source → Source → Type 0
Endless old new = new.ends ≡ old.ends

-- the source gave a script to its end, within the limit; the last read found the end, and none before it
pub record IsReadWhole (old new : Source) (script : List ℕ) : Type 0 where
  pub given : Consumes old.remaining new.remaining script
  pub ended : IsAtEnd new.remaining
  pub found : new.ends ≡ old.ends + 1
  pub within : length script ≤ most_bytes
  pub sound : Sound old new

-- More bytes were given than a script may have.
pub record GivesTooMuch (old new : Source) : Type 0 where
  pub bytes : List ℕ
  pub given : Consumes old.remaining new.remaining bytes
  pub beyond : most_bytes < length bytes
  pub endless : Endless old new
  pub sound : Sound old new

-- So many reads were made without coming to an end, interrupted ones counted.
pub record ReadsOn (old new : Source) : Type 0 where
  pub bytes : List ℕ
  pub given : Consumes old.remaining new.remaining bytes
  pub within : length bytes ≤ most_bytes
  pub counted : new.reads ≡ old.reads + most_reads
  pub endless : Endless old new
  pub sound : Sound old new

-- why a script was not read whole
abbrev pub Unread : Source → Source → PlayKind → Type 0
Unread old new ReadFault = (new.failures ≡ old.failures + 1) × Endless old new
Unread old new TooLong = GivesTooMuch old new
Unread old new TooManyReads = ReadsOn old new
Unread old new NoMemory = Sound old new
Unread old new other = ⊥

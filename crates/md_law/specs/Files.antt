-- What the last step of a history does to files and paths, and what was done to a file so far.
use Rattle.std.specs.Prelude.{ℕ, ◌≡◌, ◌≢◌, List, Some, None, true, length}
use Rattle.md_law.specs.Values.{file_at, Path, Cur, Reply}
use Rattle.md_log.specs.declared.line.Call.TheVariants as call
use Rattle.md_log.specs.declared.line.Deed.TheVariants as deed
use Rattle.md_log.specs.declared.line.Reply.TheVariants as reply
use Rattle.md_law.specs.History.{History, at, before, IsCall, IsBy, Once, Since}
use Rattle.md_law.specs.Messages.{is_message, IsSeen}

-- ---- the last step

-- it makes a path name a file that it did not name before
abbrev pub Names : History → Path → ℕ → Type 0
Names h p file = (file_at (at h) p ≡ Some file) × (file_at (at (before h)) p ≢ Some file)

-- it makes a path no longer name a file
abbrev pub Leaves : History → Path → ℕ → Type 0
Leaves h p file = (file_at (at (before h)) p ≡ Some file) × (file_at (at h) p ≢ Some file)

-- it adds a path
abbrev pub Adds : History → Path → ℕ → Type 0
Adds h p file = (file_at (at (before h)) p ≡ None) × (file_at (at h) p ≡ Some file)

-- it takes a path away
abbrev pub Takes : History → Path → ℕ → Type 0
Takes h p file = (file_at (at (before h)) p ≡ Some file) × (file_at (at h) p ≡ None)

-- by it readers begin to see the file
abbrev pub BeginsToBeSeen : History → ℕ → Type 0
BeginsToBeSeen h file = IsSeen (at h) file × (IsSeen (at (before h)) file → ⊥)

-- it is a write to the file, and the write answers so
abbrev pub Writes : History → ℕ → Reply → Type 0
Writes h file r = (p : Path) × IsCall h (call.At deed.Write p r) × (file_at (at (before h)) p ≡ Some file)

-- it is a write to the file, done or failed: one that failed may have left a part of its bytes
abbrev pub MayWrite : History → ℕ → Type 0
MayWrite h file = (r : Reply) × (r ≢ reply.NotFound) × Writes h file r

-- it flushes the file
abbrev pub Flushes : History → ℕ → Type 0
Flushes h file = (p : Path) × IsCall h (call.At deed.Flush p reply.Ok) × (file_at (at (before h)) p ≡ Some file)

-- the actor makes the file by it
abbrev pub Makes : History → List ℕ → ℕ → Type 0
Makes h actor file =
    (p : Path) × IsBy h actor × IsCall h (call.At deed.Create p reply.Ok) × (file ≡ length (at (before h)).files)

-- ---- so far

-- the file was written to, and not flushed since
abbrev pub IsUnflushed : History → ℕ → Type 0
IsUnflushed h file = Since (λ m. Writes m file reply.Ok) (λ m. Flushes m file → ⊥) h

-- the last write to the file failed
abbrev pub IsCut : History → ℕ → Type 0
IsCut h file = Since (λ m. Writes m file reply.Fault) (λ m. Writes m file reply.Ok → ⊥) h

-- the file was a message in cur
abbrev pub WasInCur : History → ℕ → Type 0
WasInCur h file = Once (λ m. (p : Path) × (file_at (at m) p ≡ Some file) × (is_message p ≡ true) × (p.place ≡ Cur)) h

-- the actor made the file
abbrev pub IsMaker : History → List ℕ → ℕ → Type 0
IsMaker h actor file = Once (λ m. Makes m actor file) h

-- What is done with the messages that words name.
use Rattle.std.specs.Prelude.{◌≡◌, ℕ, List, Option, None, Some, codes}
use Rattle.std.specs.FinSet as set
use Rattle.md_jobs.specs.declared.purpose.Purpose.{Purpose}
use Rattle.md_jobs.specs.declared.purpose.Purpose.TheVariants as purpose
use Rattle.md_maildirs.specs.declared.acting.Act.{Act}
use Rattle.md_maildirs.specs.declared.acting.Act.TheVariants.{Seen, Flag, Move, Copy, Expunge}

-- What the errand on each message is for. A move and a copy go to the second maildir of the command.
abbrev pub IsFor : Act → Purpose → Type 0
IsFor Seen errand = errand ≡ purpose.Seen (set.from_list (codes "S"))
IsFor (Flag change) errand = errand ≡ purpose.Flag change.add change.remove
IsFor Move errand = errand ≡ purpose.Move 1
IsFor Copy (purpose.Copy to fresh) = to ≡ 1
IsFor Copy errand = ⊥
IsFor Expunge errand = errand ≡ purpose.Expunge

-- What the errand is for, made of a fresh name, if there is one. A copy needs it, and none else takes it.
abbrev pub errand_of : Act → Option (List ℕ) → Option Purpose
errand_of Seen fresh = Some (purpose.Seen (set.from_list (codes "S")))
errand_of (Flag change) fresh = Some (purpose.Flag change.add change.remove)
errand_of Move fresh = Some (purpose.Move 1)
errand_of Copy None = None
errand_of Copy (Some fresh) = Some (purpose.Copy 1 fresh)
errand_of Expunge fresh = Some purpose.Expunge

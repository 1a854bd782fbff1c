-- The law: what no step of a lawful history does. Beside it stands what each program owes the others, so that a job beside them keeps its
-- promises: the six clauses below, and TwoNames, Mixed, CleanedEarly and MovedBack of the law. A clause says of a history that its last
-- step breaks it.
use Rattle.std.specs.Prelude.{ℕ, ◌≡◌, ◌≢◌, ◌≤◌, ◌-◌, List, Some, true}
use Rattle.md_law.specs.Values.{file_at, file_by, File, Path, Tmp, Clause}
use Rattle.md_name.specs.Names.{unique_of}
use Rattle.md_log.specs.declared.clause.Clause.TheVariants as clause
use Rattle.md_law.specs.History.{History, at, now, before, IsBy, Once}
use Rattle.md_law.specs.Messages.{is_message, IsSeen, IsMessageAt}
use Rattle.md_law.specs.Files.{Names, Adds, MayWrite, IsMaker}
use Rattle.md_law.specs.Clauses as law

-- "Using maildir format", a message is written in tmp: a file is written to that readers saw once.
abbrev pub Rewritten : History → Type 0
Rewritten h = (file : ℕ) × MayWrite h file × Once (λ m. IsSeen (at m) file) (before h)

-- "Using maildir format", who wrote tmp/unique links it to new/unique: a file that readers don't see gets a path by another actor than made
-- it. (It may be taken away, after 36 hours.)
abbrev pub NamedByAnother : History → Type 0
NamedByAnother h = (actor : List ℕ) × (p : Path) × (file : ℕ) × IsBy h actor × Names h p file × (IsSeen (at (before h)) file → ⊥)
    × (IsMaker h actor file → ⊥)

-- "Using maildir format", names are unique: a path of a message is added, and its unique name is that of a message in another folder.
abbrev pub InTwoFolders : History → Type 0
InTwoFolders h = (p q : Path) × (m n : ℕ) × Adds h p m × (is_message p ≡ true) × (p.folder ≢ q.folder)
    × IsMessageAt (at h) q.folder (unique_of p.name) q n

-- the file is, or was, a message of the unique name, in any folder
abbrev pub WasOf : History → List ℕ → ℕ → Type 0
WasOf h unique file = Once (λ m. (p : Path) × IsMessageAt (at m) p.folder unique p file) h

-- The same, of messages that were: a path of a message comes to name a file that never was a message of its unique name, and another file
-- was.
abbrev pub UsedTwice : History → Type 0
UsedTwice h = (p : Path) × (file other : ℕ) × Names h p file × (is_message p ≡ true)
    × WasOf (before h) (unique_of p.name) other × (WasOf (before h) (unique_of p.name) file → ⊥)

-- The same, of tmp: a path of tmp comes to name a file, and once named another.
abbrev pub MadeAgain : History → Type 0
MadeAgain h = (p : Path) × (file other : ℕ) × Names h p file × (p.place ≡ Tmp) × (other ≢ file)
    × Once (λ m. file_at (at m) p ≡ Some other) (before h)

-- "Using maildir format", the deliverer gives up after 24 hours: a file that nobody has written to for 36 hours is written to.
abbrev pub WrittenLate : History → Type 0
WrittenLate h = (n : ℕ) × (file : File) × MayWrite h n × (file_by (at (before h)).files n ≡ Some file) × (129600 ≤ now h - file.stamp)

-- the last step breaks the clause
abbrev pub Breaks : Clause → History → Type 0
Breaks clause.NotADirectory h = law.NotADirectory h
Breaks clause.Overwritten h = law.Overwritten h
Breaks clause.SeenBeforeWhole h = law.SeenBeforeWhole h
Breaks clause.Mixed h = law.Mixed h
Breaks clause.NotFlushed h = law.NotFlushed h
Breaks clause.TwoNames h = law.TwoNames h
Breaks clause.Gone h = law.Gone h
Breaks clause.UsedAgain h = law.UsedAgain h
Breaks clause.MovedBack h = law.MovedBack h
Breaks clause.CleanedEarly h = law.CleanedEarly h
Breaks clause.Unlisted h = law.Unlisted h
Breaks clause.GaveUp h = law.GaveUp h
Breaks clause.AnsweredFalsely h = law.AnsweredFalsely h
Breaks clause.InTwoFolders h = InTwoFolders h
Breaks clause.NamedByAnother h = NamedByAnother h
Breaks clause.Rewritten h = Rewritten h
Breaks clause.UsedTwice h = UsedTwice h
Breaks clause.MadeAgain h = MadeAgain h
Breaks clause.WrittenLate h = WrittenLate h

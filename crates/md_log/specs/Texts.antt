-- What is said of wrong lines, and the names of clauses.
use Rattle.std.specs.Prelude.{ℕ, List, [], ◌∷◌, ◌++◌, Option, codes}
use Rattle.std.specs.List.{find}
use Rattle.std.specs.Str.{bytes_eq}
use Rattle.md_log.specs.declared.error.LineFault.{LineFault}
use Rattle.md_log.specs.declared.error.LineFault.TheVariants as fault
use Rattle.md_log.specs.declared.clause.Clause.{Clause}
use Rattle.md_log.specs.declared.clause.Clause.TheVariants as clause

-- what is said of a line for each fault
abbrev pub fault_text : LineFault → List ℕ
fault_text fault.NoLog = codes "no log"
fault_text fault.BadLine = codes "bad line"
fault_text fault.BadNumber = codes "bad number"
fault_text fault.BadEscape = codes "bad escape"
fault_text fault.BadPlace = codes "bad place"
fault_text fault.BadName = codes "bad name"
fault_text fault.BadReply = codes "bad reply"
fault_text fault.BadClause = codes "bad clause"
fault_text fault.BadFlags = codes "bad flags"
fault_text fault.UnknownFolder = codes "unknown folder"
fault_text fault.SameFolder = codes "same folder"
fault_text fault.TooManyFolders = codes "too many folders"
fault_text fault.SamePath = codes "same path"
fault_text fault.NoSuchPath = codes "no such path"
fault_text fault.TooLate = codes "too late"
fault_text fault.NoOrder = codes "no order"
fault_text fault.TooManyOrders = codes "too many orders"
fault_text fault.NoMemory = codes "no memory"

-- each clause by its name, and why a step that breaks it is wrong
abbrev pub clause_texts : Clause → List ℕ × List ℕ
clause_texts clause.NotADirectory = (codes "NotADirectory", codes "no directory gives this reply, or the log lacks a step before")
clause_texts clause.Overwritten = (codes "Overwritten", codes "a path names another file than before, so what it named may be lost")
clause_texts clause.SeenBeforeWhole = (codes "SeenBeforeWhole", codes "readers see a message that is not written whole")
clause_texts clause.Mixed = (codes "Mixed", codes "a file is written to by another program than made it")
clause_texts clause.NotFlushed = (codes "NotFlushed", codes "readers see bytes that were not flushed: a crash may lose them")
clause_texts clause.TwoNames = (codes "TwoNames", codes "a message has two names in its folder, and is shown twice")
clause_texts clause.Gone = (codes "Gone", codes "a message leaves its folder without the flag T")
clause_texts clause.UsedAgain = (codes "UsedAgain", codes "a unique name is used for a second message")
clause_texts clause.MovedBack = (codes "MovedBack", codes "a message that was read is in new again")
clause_texts clause.CleanedEarly = (codes "CleanedEarly", codes "a file in tmp is taken from a program that may still write it")
clause_texts clause.Unlisted = (codes "Unlisted", codes "a listing lacks a message that was there all the while")
clause_texts clause.GaveUp = (codes "GaveUp", codes "a call was refused, and the program reports success without another look")
clause_texts clause.AnsweredFalsely = (codes "AnsweredFalsely", codes "what the program reports is not so")
clause_texts clause.InTwoFolders = (codes "InTwoFolders", codes "a message has the unique name of one in another folder")
clause_texts clause.NamedByAnother = (codes "NamedByAnother", codes "a file that no reader sees is named by another program than made it")
clause_texts clause.Rewritten = (codes "Rewritten", codes "a file is written to that readers have seen")
clause_texts clause.UsedTwice = (codes "UsedTwice", codes "a unique name is used for a second message")
clause_texts clause.MadeAgain = (codes "MadeAgain", codes "a name in tmp is used for a second file")
clause_texts clause.WrittenLate = (codes "WrittenLate", codes "a file is written to that nobody has written to for 36 hours")

-- the clauses of the law, in its order
abbrev pub law : List Clause
law =
    clause.NotADirectory ∷ clause.Overwritten ∷ clause.SeenBeforeWhole ∷ clause.Mixed ∷ clause.NotFlushed ∷ clause.TwoNames ∷ clause.Gone
    ∷ clause.UsedAgain ∷ clause.MovedBack ∷ clause.CleanedEarly ∷ clause.Unlisted ∷ clause.GaveUp ∷ clause.AnsweredFalsely ∷ []

-- all clauses: those of the law, and then those that are owed beside it
abbrev pub clauses : List Clause
clauses =
    law ++ clause.InTwoFolders ∷ clause.NamedByAnother ∷ clause.Rewritten ∷ clause.UsedTwice ∷ clause.MadeAgain ∷ clause.WrittenLate ∷ []

-- the number of a clause in that order, from 0
abbrev pub clause_index : Clause → ℕ
clause_index clause.NotADirectory = 0
clause_index clause.Overwritten = 1
clause_index clause.SeenBeforeWhole = 2
clause_index clause.Mixed = 3
clause_index clause.NotFlushed = 4
clause_index clause.TwoNames = 5
clause_index clause.Gone = 6
clause_index clause.UsedAgain = 7
clause_index clause.MovedBack = 8
clause_index clause.CleanedEarly = 9
clause_index clause.Unlisted = 10
clause_index clause.GaveUp = 11
clause_index clause.AnsweredFalsely = 12
clause_index clause.InTwoFolders = 13
clause_index clause.NamedByAnother = 14
clause_index clause.Rewritten = 15
clause_index clause.UsedTwice = 16
clause_index clause.MadeAgain = 17
clause_index clause.WrittenLate = 18

-- the clause of the law that has a name
unfoldable pub clause_named : List ℕ → Option Clause
clause_named name = find (λ c. bytes_eq (clause_texts c).0 name) law

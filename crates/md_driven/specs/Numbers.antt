-- The numbers and the texts of refusals. The numbers that a part of the store gives are in a range of that part; out of memory is one
-- number, wherever it was met.
use Rattle.std.specs.Prelude.{ℕ, ◌≡◌, ◌≢◌, ◌⊎◌, List, [], Result, Ok, Err, codes}
use Rattle.md_name.specs.declared.error.NameError.{NameError}
use Rattle.md_name.specs.declared.error.NameError.TheVariants as name
use Rattle.md_jobs.specs.declared.error.CoreError.{CoreError}
use Rattle.md_jobs.specs.declared.error.CoreError.TheVariants as core
use Rattle.md_log.specs.Texts.{fault_text}
use Rattle.md_log.specs.declared.error.LineFault.{LineFault}
use Rattle.md_log.specs.declared.error.LineFault.TheVariants as fault
use Rattle.md_script.specs.Refusals.{kind_text}
use Rattle.md_script.specs.declared.error.PlayKind.{PlayKind}
use Rattle.md_script.specs.declared.error.PlayKind.TheVariants as play
use Rattle.md_driven.specs.declared.refusal.Refusal.{Refusal}
use Rattle.md_driven.specs.declared.refusal.Refusal.TheVariants as refusal

-- the number of what the store refuses
abbrev pub core_number : CoreError → ℕ
core_number core.NoMemory = 4
core_number core.BadName = 20
core_number core.LongUnique = 21
core_number core.DuplicateUnique = 22
core_number core.NameUsed = 23
core_number core.NoFolder = 24
core_number core.SameFolder = 25
core_number core.BadUnique = 26
core_number core.BadTries = 27
core_number core.BadChunk = 28
core_number core.TooManyJobs = 29
core_number core.BodyTooLong = 30
core_number core.NoJob = 31
core_number core.Answered = 32

-- the number of why no name is made
abbrev pub name_number : NameError → ℕ
name_number name.NoMemory = 4
name_number name.BadHost = 40
name_number name.BadMicro = 41
name_number name.BadFlag = 42

-- the number of why a line is refused
abbrev pub kind_number : PlayKind → ℕ
kind_number play.NoMemory = 4
kind_number (play.Core error) = core_number error
kind_number (play.Name error) = name_number error
kind_number play.BadCommand = 50
kind_number play.BadNumber = 51
kind_number play.BadEscape = 52
kind_number play.BadPlace = 53
kind_number play.BadFolder = 54
kind_number play.UnknownFolder = 55
kind_number play.TooLate = 56
kind_number play.NoFirst = 57
kind_number play.SamePath = 58
kind_number play.NotInThisRun = 59
kind_number play.ReadFault = 60
kind_number play.WriteFault = 61
kind_number play.TooLong = 62
kind_number play.TooManyReads = 63

-- the number of why a line of a judge's log is refused
abbrev pub fault_number : LineFault → ℕ
fault_number fault.NoMemory = 4
fault_number fault.NoLog = 70
fault_number fault.BadLine = 71
fault_number fault.BadNumber = 72
fault_number fault.BadEscape = 73
fault_number fault.BadPlace = 74
fault_number fault.BadName = 75
fault_number fault.BadReply = 76
fault_number fault.BadClause = 77
fault_number fault.BadFlags = 78
fault_number fault.UnknownFolder = 79
fault_number fault.SameFolder = 80
fault_number fault.TooManyFolders = 81
fault_number fault.SamePath = 82
fault_number fault.NoSuchPath = 83
fault_number fault.TooLate = 84
fault_number fault.NoOrder = 85
fault_number fault.TooManyOrders = 86

-- the number of a refusal
abbrev pub refusal_number : Refusal → ℕ
refusal_number refusal.Null = 1
refusal_number refusal.Length = 2
refusal_number refusal.Room = 3
refusal_number refusal.BadKind = 5
refusal_number refusal.NoPlace = 6
refusal_number refusal.BadRecord = 7
refusal_number refusal.NotThere = 8
refusal_number refusal.NoMessageName = 9
refusal_number refusal.Unanswered = 10
refusal_number refusal.Closed = 11
refusal_number refusal.NotAsked = 12
refusal_number refusal.Asked = 13
refusal_number refusal.BadReply = 14
refusal_number (refusal.Kind kind) = kind_number kind
refusal_number (refusal.Log fault) = fault_number fault

-- what a refusal says
abbrev pub refusal_text : Refusal → List ℕ
refusal_text refusal.Null = codes "null pointer"
refusal_text refusal.Length = codes "bad length"
refusal_text refusal.Room = codes "too little room"
refusal_text refusal.BadKind = codes "bad kind"
refusal_text refusal.NoPlace = codes "no place"
refusal_text refusal.BadRecord = codes "bad record"
refusal_text refusal.NotThere = codes "not there"
refusal_text refusal.NoMessageName = codes "no message's name"
refusal_text refusal.Unanswered = codes "unanswered"
refusal_text refusal.Closed = codes "closed"
refusal_text refusal.NotAsked = codes "not asked"
refusal_text refusal.Asked = codes "asked before"
refusal_text refusal.BadReply = codes "bad reply"
refusal_text (refusal.Kind kind) = kind_text kind
refusal_text (refusal.Log fault) = fault_text fault

-- the text of the refusal that has this number, and no byte where none has it
abbrev pub IsTextOf : ℕ → List ℕ → Type 0
IsTextOf number text =
    ((r : Refusal) × (refusal_number r ≡ number) × (text ≡ refusal_text r)) ⊎ (((r : Refusal) → refusal_number r ≢ number) × (text ≡ []))

-- 0 where a call is done, else the number of its refusal
abbrev pub status_number : Result (Unit {0}) Refusal → ℕ
status_number (Ok done) = 0
status_number (Err refusal) = refusal_number refusal

-- The clauses of the law, each with its source. Each says of a history that its last step breaks the clause.
use Rattle.std.specs.Prelude.{ℕ, ◌≡◌, ◌≢◌, ◌<◌, ◌-◌, ◌⊎◌, List, Option, Some, None, true, slice_get}
use Rattle.md_dirs.specs.Path.{path_of}
use Rattle.md_law.specs.Values.{file_at, file_by, File, Path, Place, Tmp, New, Cur, Call, Naming, Reply, Said}
use Rattle.md_dirs.specs.declared.calls.DirError.{DirError}
use Rattle.md_dirs.specs.declared.calls.DirError.TheVariants as error
use Rattle.md_log.specs.declared.line.Call.TheVariants as call
use Rattle.md_log.specs.declared.line.Deed.TheVariants as deed
use Rattle.md_log.specs.declared.line.Reply.TheVariants as reply
use Rattle.md_log.specs.declared.line.Said.TheVariants as said
use Rattle.md_name.specs.Names.{unique_of}
use Rattle.md_law.specs.History.{History, at, now, before, ask_at, ask_between, IsCall, IsBy, Once, Since}
use Rattle.md_law.specs.Messages.{is_message, IsOf, IsMessageAt, IsThere, IsSeen, IsTrashed, ShowsFlags}
use Rattle.md_law.specs.Files.{Names, Leaves, Adds, Takes, BeginsToBeSeen, MayWrite, IsUnflushed, IsCut, WasInCur, IsMaker}
use Rattle.md_law.specs.Readings.{Looker, IsReading, IsMomentOf, Shows, IsListing, IsOfListing}
use Rattle.md_law.specs.Answers.{Claim, Tells, TellsNothing, Own, Lately, ActsOn, Looks, AddsMessage, TakesMessage, ChangesMessage}

-- ---- calls and their replies

-- what a call answers that is refused so, or is not refused
abbrev pub reply_by : Option DirError → Reply
reply_by None = reply.Ok
reply_by (Some error.Exists) = reply.Exists
reply_by (Some error.NotFound) = reply.NotFound
reply_by (Some error.Fault) = reply.Fault
reply_by (Some error.NoMemory) = reply.Fault

-- a reply is not what the directory call is defined to answer; any call may fail
abbrev pub IsWrongReply : Reply → Option DirError → Type 0
IsWrongReply r refusal = (r ≢ reply.Fault) × (r ≢ reply_by refusal)

-- POSIX readdir: a part of a reading shows a name that its directory had at no moment of the reading
abbrev pub ShowsWrongly : History → Looker → List (List ℕ) → Type 0
ShowsWrongly h d shown = (first : History) × (name : List ℕ) × (k : ℕ) × IsReading first h d × (slice_get shown k ≡ Some name)
    × ((m : History) → IsMomentOf m first h → file_at (at m) (path_of d.folder d.place name) ≡ None)

-- POSIX readdir: a whole reading lacks a name that its directory had at each moment of the reading
abbrev pub Lacks : History → Looker → Type 0
Lacks h d = (first : History) × (name : List ℕ) × IsReading first h d × (Shows first h d name → ⊥)
    × ((m : History) → IsMomentOf m first h → file_at (at m) (path_of d.folder d.place name) ≢ None)

abbrev pub IsWrongReading : History → Looker → Reply → List (List ℕ) → Type 0
IsWrongReading h d reply.Ok shown = ShowsWrongly h d shown ⊎ Lacks h d
IsWrongReading h d reply.More shown = ShowsWrongly h d shown
IsWrongReading h d reply.NotFound shown = Unit {0}
IsWrongReading h d r shown = ⊥

-- a call by an actor is answered as the directories never answer it
abbrev pub IsWrongCall : History → List ℕ → Call → Type 0
IsWrongCall h actor (call.At d p r) = IsWrongReply r ((ask_at d p (now h)).refusal (at (before h)))
IsWrongCall h actor (call.Between n old new r) = IsWrongReply r ((ask_between n old new).refusal (at (before h)))
IsWrongCall h actor (call.List folder place r shown) =
    IsWrongReading h (record { actor = actor; folder = folder; place = place }) r shown
IsWrongCall h actor (call.Answer said folder unique) = ⊥

-- POSIX open, write, fsync, link, rename, unlink and readdir: the reply is none that the directories give. (Or the history lacks a step
-- before.) Each call may fail, and a directory of a folder that is there is always found.
abbrev pub NotADirectory : History → Type 0
NotADirectory h = (actor : List ℕ) × (c : Call) × IsBy h actor × IsCall h c × IsWrongCall h actor c

-- POSIX rename, "if the link named by the new argument exists, it shall be removed": a path names another file than before.
abbrev pub Overwritten : History → Type 0
Overwritten h = (p : Path) × (m n : ℕ) × (file_at (at (before h)) p ≡ Some m) × (file_at (at h) p ≡ Some n) × (m ≢ n)

-- ---- bytes

-- a message is made empty
abbrev pub MakesMessage : History → Type 0
MakesMessage h = (p : Path) × IsCall h (call.At deed.Create p reply.Ok) × (is_message p ≡ true)

-- a message is written to where readers see it, or may have been
abbrev pub WritesSeen : History → Type 0
WritesSeen h = (file : ℕ) × MayWrite h file × IsSeen (at (before h)) file

-- a file begins to be seen whose last write has failed
abbrev pub ShowsCut : History → Type 0
ShowsCut h = (file : ℕ) × BeginsToBeSeen h file × IsCut (before h) file

-- "Using maildir format", a message is written in tmp and then moved: a message is made empty, is written to where readers see it, or
-- begins to be seen when its last write has failed.
abbrev pub SeenBeforeWhole : History → Type 0
SeenBeforeWhole h = MakesMessage h ⊎ WritesSeen h ⊎ ShowsCut h

-- "Using maildir format", tmp/unique is the deliverer's own: a file is written to by an actor that did not make it. (Also where the write
-- failed.)
abbrev pub Mixed : History → Type 0
Mixed h = (actor : List ℕ) × (file : ℕ) × IsBy h actor × MayWrite h file × (IsMaker (before h) actor file → ⊥)

-- "Using maildir format", the deliverer calls fsync before it links: readers begin to see bytes that were not flushed.
abbrev pub NotFlushed : History → Type 0
NotFlushed h = (file : ℕ) × BeginsToBeSeen h file × IsUnflushed (before h) file

-- ---- names

-- maildir(5), the unique part names the message: the step adds a second path of a message to its folder.
abbrev pub TwoNames : History → Type 0
TwoNames h = (p q : Path) × (m n : ℕ) × Adds h p m × (is_message p ≡ true) × (p ≢ q)
    × IsMessageAt (at h) p.folder (unique_of p.name) q n

-- maildir(5), T: "the trash will be emptied by a later user action": a message leaves its folder otherwise than by an unlink of a name in
-- cur with T, and its file is no message of its unique name in another folder.
abbrev pub Gone : History → Type 0
Gone h = (p : Path) × (file : ℕ) × Takes h p file × (is_message p ≡ true) × (IsThere (at h) p.folder (unique_of p.name) → ⊥)
    × ((IsCall h (call.At deed.Unlink p reply.Ok) × (p.place ≡ Cur) × IsTrashed p.name) → ⊥)
    × ((q : Path) → file_at (at h) q ≡ Some file → is_message q ≡ true → unique_of q.name ≡ unique_of p.name → ⊥)

-- "Using maildir format", a unique name is never used again: a message that had gone from the folder is there as a file that it never was.
abbrev pub UsedAgain : History → Type 0
UsedAgain h = (p : Path) × (file : ℕ) × Adds h p file × (is_message p ≡ true)
    × (IsThere (at (before h)) p.folder (unique_of p.name) → ⊥)
    × Once (λ m. IsThere (at m) p.folder (unique_of p.name)) (before h)
    × (Once (λ m. (q : Path) × IsMessageAt (at m) p.folder (unique_of p.name) q file) (before h) → ⊥)

-- maildir(5), new has what no reader has seen: a path in new comes to name a file that once was a message in cur, otherwise than by a link
-- or rename of a message in new. (An unread message may be moved and copied, though a copy of it was read.)
abbrev pub MovedBack : History → Type 0
MovedBack h = (p : Path) × (file : ℕ) × Names h p file × (is_message p ≡ true) × (p.place ≡ New) × WasInCur (before h) file
    × ((n : Naming) (old new : Path) (r : Reply) → IsCall h (call.Between n old new r) → is_message old ≡ true → old.place ≡ New → ⊥)

-- maildir(5), files of tmp "not accessed in 36 hours" may be removed: a path of tmp no longer names a younger file, which readers don't
-- see and which the actor did not make.
abbrev pub CleanedEarly : History → Type 0
CleanedEarly h = (actor : List ℕ) × (p : Path) × (n : ℕ) × (file : File) × IsBy h actor × (p.place ≡ Tmp) × Leaves h p n
    × (IsSeen (at h) n → ⊥) × (IsMaker (before h) actor n → ⊥)
    × (file_by (at (before h)).files n ≡ Some file) × (now h - file.stamp < 129600)

-- ---- listings

-- the message was there at each moment of each reading of a listing
abbrev pub WasThere : History → History → List ℕ → ℕ → List ℕ → Type 0
WasThere begun h actor folder unique = (first last : History) (place : Place)
    → IsOfListing begun h first last (record { actor = actor; folder = folder; place = place })
    → (m : History) → IsMomentOf m first last → IsThere (at m) folder unique

-- one of the listing's readings shows the message
abbrev pub WasListed : History → History → List ℕ → ℕ → List ℕ → Type 0
WasListed begun h actor folder unique = (first last : History) × (place : Place) × (name : List ℕ)
    × IsOfListing begun h first last (record { actor = actor; folder = folder; place = place })
    × Shows first last (record { actor = actor; folder = folder; place = place }) name × IsOf (path_of folder place name) folder unique

-- maildir(5), a reader looks through new and cur: a listing is complete, and lacks a message that was in the folder at each of its
-- readings.
abbrev pub Unlisted : History → Type 0
Unlisted h = (begun : History) × (actor : List ℕ) × (folder : ℕ) × (unique : List ℕ) × IsListing begun h actor folder
    × WasThere begun h actor folder unique × (WasListed begun h actor folder unique → ⊥)

-- ---- answers

-- the answer says that the call was done
abbrev pub IsSuccess : Said → Type 0
IsSuccess said.Failed = ⊥
IsSuccess said.NotThere = ⊥
IsSuccess s = Unit {0}

-- since its last answer about the message, the actor's last call on it was refused, and it did not look again
abbrev pub IsLeft : Claim → History → Type 0
IsLeft c h = Since (λ m. IsBy m c.actor × ((r : Reply) × ActsOn m c r × (r ≢ reply.Ok)))
    (λ m. TellsNothing m c × (IsBy m c.actor → ((r : Reply) × ActsOn m c r) ⊎ Looks m c → ⊥)) h

-- POSIX link, rename and unlink: the actor's last call on the message was refused, as by ENOENT, it did not look again, the message is
-- there, and it answers success.
abbrev pub GaveUp : History → Type 0
GaveUp h = (c : Claim) × (s : Said) × Tells h c s × IsSuccess s × IsThere (at (before h)) c.folder c.unique × IsLeft c (before h)

-- what an answer says is so: of deliveries, moves and expunges by a step of the actor's own; of flags and of what is not there at a moment
-- while it was at work, and since it last changed the message itself; of a failure, that no step of its own changed the message
abbrev pub IsSo : Said → Claim → History → Type 0
IsSo said.Delivered c h = Own (λ m. AddsMessage m c) c h
IsSo (said.Flags flags) c h = Lately (λ m. (p : Path) × (file : ℕ) × IsMessageAt (at m) c.folder c.unique p file × (p.place ≡ Cur)
    × ShowsFlags p.name flags) c h
IsSo (said.Moved to) c h = Own (λ m. TakesMessage m c × IsThere (at m) to c.unique) c h
IsSo said.Expunged c h = Own (λ m. TakesMessage m c × ((p : Path) × (r : Reply) × IsCall m (call.At deed.Unlink p r))) c h
IsSo said.Done c h = Unit {0}
IsSo said.Failed c h = Own (λ m. ChangesMessage m c) c h → ⊥
IsSo said.NotThere c h = Lately (λ m. IsThere (at m) c.folder c.unique → ⊥) c h

-- The call taken alone: the answer is not so.
abbrev pub AnsweredFalsely : History → Type 0
AnsweredFalsely h = (c : Claim) × (s : Said) × Tells h c s × (IsSo s c (before h) → ⊥)

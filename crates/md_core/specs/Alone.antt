-- The one-at-a-time mailbox: what a call answers, and leaves, when nothing else runs. It has no tmp, no retries and no steps.
use Rattle.std.specs.Prelude.{ℕ, ◌++◌, List, Option, Some, None, Bool, ◌==◌, ◌&&◌, if◌then◌else◌, codes}
use Rattle.std.specs.FinMap as finmap
use Rattle.std.specs.FinSet as set
use Rattle.md_dirs.specs.Path.{place_index}
use Rattle.md_dirs.specs.declared.paths.Place.{Place}
use Rattle.md_dirs.specs.declared.paths.Place.TheVariants.{New, Cur}
use Rattle.md_name.specs.Letters.{Set, spelling, is_same_set}
use Rattle.md_name.specs.Names.{info_by, flags_of}
use Rattle.md_jobs.specs.declared.call.Call.{Call}
use Rattle.md_jobs.specs.declared.call.Call.TheVariants.{Deliver, Seen, Flag, Move, Expunge, Copy, Clean}
use Rattle.md_jobs.specs.declared.answer.Answer.{Answer}
use Rattle.md_jobs.specs.declared.answer.Answer.TheVariants as answer
use Rattle.md_core.specs.Mailbox.{Entry, Mailbox}

-- an answer, and the mailbox after it
pub record Outcome : Type 0 where
  pub answer : Answer
  pub after : Mailbox

-- a call that does nothing to the mailbox
abbrev pub refuse : Answer → Mailbox → Outcome
refuse a m = record { answer = a; after = m }

-- whether a message is in a folder
abbrev pub is_in_folder : ℕ → Entry → Bool
is_in_folder folder e = e.folder == folder

-- whether a message is in one directory of a folder
abbrev pub is_in_place : Place → ℕ → Entry → Bool
is_in_place place folder e = place_index e.place == place_index place && e.folder == folder

-- an entry, where it passes the test
abbrev pub entry_if : (Entry → Bool) → Option Entry → Option Entry
entry_if test None = None
entry_if test (Some e) = if test e then Some e else None

-- the info of these flags, as it is written
abbrev pub info_with : Set → Option (List ℕ)
info_with flags = Some (codes "2," ++ spelling flags)

-- the flags that an entry shows, and nothing where its info is other info
abbrev pub flags_in : Entry → Option Set
flags_in e = flags_of (info_by e.info)

-- Deliver: a new message, without info
abbrev pub deliver_alone : Mailbox → ℕ → List ℕ → List ℕ → Option Entry → Outcome
deliver_alone m folder u body (Some e) = refuse answer.NameTaken m
deliver_alone m folder u body None =
    let message : Entry = record { folder = folder; place = New; info = None; bytes = body } in
    record { answer = answer.Delivered; after = finmap.insert m u message }

-- Seen: a new message goes to cur, its flags joined by those given
abbrev pub seen_by : Mailbox → List ℕ → Set → Entry → Option Set → Outcome
seen_by m u given e None = refuse answer.OtherInfo m
seen_by m u given e (Some had) =
    let flags = set.union had given in
    record { answer = answer.Flags flags; after = finmap.insert m u (record e { place = Cur; info = info_with flags }) }

-- Seen of the message that is looked for, or NotThere without one
abbrev pub seen_alone : Mailbox → List ℕ → Set → Option Entry → Outcome
seen_alone m u given None = refuse answer.NotThere m
seen_alone m u given (Some e) = seen_by m u given e (flags_in e)

-- Flag: a message in cur has (its flags and those added) without those removed. Where that is the same set nothing changes
abbrev pub flag_by : Mailbox → List ℕ → Set → Set → Entry → Option Set → Outcome
flag_by m u add remove e None = refuse answer.OtherInfo m
flag_by m u add remove e (Some had) =
    let flags = set.difference (set.union had add) remove in
    if is_same_set had flags then refuse (answer.Flags flags) m
    else record { answer = answer.Flags flags; after = finmap.insert m u (record e { info = info_with flags }) }

-- Flag of the message that is looked for, or NotThere without one
abbrev pub flag_alone : Mailbox → List ℕ → Set → Set → Option Entry → Outcome
flag_alone m u add remove None = refuse answer.NotThere m
flag_alone m u add remove (Some e) = flag_by m u add remove e (flags_in e)

-- Move: a message goes to another folder, and keeps its place and its whole name
abbrev pub move_alone : Mailbox → List ℕ → ℕ → Option Entry → Outcome
move_alone m u to None = refuse answer.NotThere m
move_alone m u to (Some e) = record { answer = answer.Moved; after = finmap.insert m u (record e { folder = to }) }

-- Expunge: a message in cur with the flag T (trashed) goes
abbrev pub expunge_by : Mailbox → List ℕ → Option Set → Outcome
expunge_by m u None = refuse answer.NotTrashed m
expunge_by m u (Some had) =
    if set.contains had 84 then record { answer = answer.Expunged; after = finmap.remove m u } else refuse answer.NotTrashed m

-- Expunge of the message that is looked for, or NotThere without one
abbrev pub expunge_alone : Mailbox → List ℕ → Option Entry → Outcome
expunge_alone m u None = refuse answer.NotThere m
expunge_alone m u (Some e) = expunge_by m u (flags_in e)

-- Copy: a message gets a second one, under a new name in the same place of a folder, with its flags and its bytes
abbrev pub info_copied : Option (List ℕ) → Set → Option (List ℕ)
info_copied None had = None
info_copied (Some info) had = info_with had

-- a second message with the same bytes, place and flags; OtherInfo comes first, then NameTaken
abbrev pub copy_by : Mailbox → ℕ → List ℕ → Entry → Option Set → Option Entry → Outcome
copy_by m to fresh e None there = refuse answer.OtherInfo m
copy_by m to fresh e (Some had) (Some other) = refuse answer.NameTaken m
copy_by m to fresh e (Some had) None =
    let copy : Entry = record { folder = to; place = e.place; info = info_copied e.info had; bytes = e.bytes } in
    record { answer = answer.Copied; after = finmap.insert m fresh copy }

-- Copy of the message that is looked for, or NotThere without one
abbrev pub copy_alone : Mailbox → ℕ → List ℕ → Option Entry → Outcome
copy_alone m to fresh None = refuse answer.NotThere m
copy_alone m to fresh (Some e) = copy_by m to fresh e (flags_in e) (finmap.get m fresh)

-- What a call answers alone on a mailbox, and the mailbox after it. What Clean counts isn't the mailbox's matter.
abbrev pub alone : Call → Mailbox → Outcome
alone (Deliver folder u body chunk) m = deliver_alone m folder u body (finmap.get m u)
alone (Seen folder u flags tries) m = seen_alone m u flags (entry_if (is_in_place New folder) (finmap.get m u))
alone (Flag folder u add remove tries) m = flag_alone m u add remove (entry_if (is_in_place Cur folder) (finmap.get m u))
alone (Move folder u to tries) m = move_alone m u to (entry_if (is_in_folder folder) (finmap.get m u))
alone (Expunge folder u tries) m = expunge_alone m u (entry_if (is_in_place Cur folder) (finmap.get m u))
alone (Copy folder u to fresh tries) m = copy_alone m to fresh (entry_if (is_in_folder folder) (finmap.get m u))
alone (Clean folder) m = refuse (answer.Cleaned 0) m

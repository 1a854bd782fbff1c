-- The table of errands, a row for each purpose: the places that it looks in, what it decides of a message that it found, and what it does
-- with it.
use Rattle.std.specs.Prelude.{ℕ, List, Option, Some, None, Bool, true, false, is_some, unwrap_or, if◌then◌else◌}
use Rattle.std.specs.FinSet as set
use Rattle.md_dirs.specs.Path.{path_of as path}
use Rattle.md_dirs.specs.declared.paths.Place.{Place}
use Rattle.md_dirs.specs.declared.paths.Place.TheVariants.{New, Cur}
use Rattle.md_name.specs.Letters.{Set, is_same_set}
use Rattle.md_name.specs.Names.{split_of, flags_of, flagged}
use Rattle.md_name.specs.declared.info.Info.{Info}
use Rattle.md_name.specs.declared.info.Info.TheVariants.{Bare, Two, Opaque}
use Rattle.md_jobs.specs.declared.answer.Answer.{Answer}
use Rattle.md_jobs.specs.declared.answer.Answer.TheVariants as answer
use Rattle.md_jobs.specs.declared.purpose.Decision.{Decision}
use Rattle.md_jobs.specs.declared.purpose.Decision.TheVariants.{Refuse, Keep, Act}
use Rattle.md_jobs.specs.Tasks.Deed.{Deed}
use Rattle.md_jobs.specs.Tasks.Deed as deed
use Rattle.md_jobs.specs.declared.purpose.Purpose.{Purpose}
use Rattle.md_jobs.specs.declared.purpose.Purpose.TheVariants.{Seen, Flag, Move, Copy, Expunge}
use Rattle.md_jobs.specs.declared.refusal.Refusal.{Refusal}
use Rattle.md_jobs.specs.declared.refusal.Refusal.TheVariants.{NotTrashed, OtherInfo}

-- ---- the places

-- the place that is looked in first
abbrev pub first : Purpose → Place
first (Seen given) = New
first (Flag add remove) = Cur
first (Move to) = New
first (Copy to fresh) = New
first Expunge = Cur

-- whether cur is looked in too, where the message is not in new
abbrev pub searches : Purpose → Bool
searches (Seen given) = false
searches (Flag add remove) = false
searches (Move to) = true
searches (Copy to fresh) = true
searches Expunge = false

-- the place that is looked in after this one
abbrev pub place_after : Bool → Place → Option Place
place_after true New = Some Cur
place_after b place = None

-- ---- what is decided

-- what is no message's name has other info
abbrev pub info_in_parts : Option (List ℕ × Info) → Info
info_in_parts None = Opaque
info_in_parts (Some parts) = parts.1

-- the info of a message's name
abbrev pub info_in : List ℕ → Info
info_in name = info_in_parts (split_of name)

-- whether these flags have the letter T; other info has none
abbrev pub has_trashed : Option Set → Bool
has_trashed None = false
has_trashed (Some had) = set.contains had 84

-- the flags that a message with these gets
abbrev pub wanted : Purpose → Set → Set
wanted (Seen given) had = set.union had given
wanted (Flag add remove) had = set.difference (set.union had add) remove
wanted purpose had = had

-- what is done by a test, or refused
abbrev pub act_if : Bool → Refusal → Decision
act_if b refusal = if b then Act else Refuse refusal

-- a Flag keeps the name of a message that has its flags
abbrev pub decide_flag : Purpose → Option Set → Decision
decide_flag purpose None = Refuse OtherInfo
decide_flag purpose (Some had) = if is_same_set had (wanted purpose had) then Keep else Act

-- What is decided of a message of this info.
abbrev pub decide : Purpose → Info → Decision
decide (Seen given) info = act_if (is_some (flags_of info)) OtherInfo
decide (Flag add remove) info = decide_flag (Flag add remove) (flags_of info)
decide (Move to) info = Act
decide (Copy to fresh) info = act_if (is_some (flags_of info)) OtherInfo
decide Expunge info = act_if (has_trashed (flags_of info)) NotTrashed

-- ---- what is done

-- the flags of a message, and none where it has other info
abbrev pub shown : Info → Set
shown info = unwrap_or (flags_of info) set.empty

-- the answer of one whose call took effect
abbrev pub answer_by : Purpose → Info → Answer
answer_by (Seen given) info = answer.Flags (wanted (Seen given) (shown info))
answer_by (Flag add remove) info = answer.Flags (wanted (Flag add remove) (shown info))
answer_by (Move to) info = answer.Moved
answer_by (Copy to fresh) info = answer.Copied
answer_by Expunge info = answer.Expunged

-- the name of a copy: the fresh unique name, and the flags of the message where it has info. Other info is not copied
abbrev pub name_copied : List ℕ → Info → List ℕ
name_copied fresh Bare = fresh
name_copied fresh (Two flags) = flagged fresh flags
name_copied fresh Opaque = fresh

-- What is done with a message of this unique name, place, whole name and info, in a folder.
abbrev pub deed_by : Purpose → ℕ → List ℕ → Place → List ℕ → Info → Deed
deed_by (Seen given) folder unique place name info =
    deed.Rename (path folder place name) (path folder Cur (flagged unique (wanted (Seen given) (shown info))))
deed_by (Flag add remove) folder unique place name info =
    deed.Rename (path folder place name) (path folder Cur (flagged unique (wanted (Flag add remove) (shown info))))
deed_by (Move to) folder unique place name info = deed.Rename (path folder place name) (path to place name)
deed_by (Copy to fresh) folder unique place name info = deed.Link (path folder place name) (path to place (name_copied fresh info))
deed_by Expunge folder unique place name info = deed.Unlink (path folder place name)

-- How a name of new or cur breaks the format by itself.
use Rattle.std.specs.Prelude.{◌≡◌, ◌≢◌, ◌<◌, ℕ, List, Option, Some, None, codes, length, true}
use Rattle.std.specs.Str.{IsUtf8}
use Rattle.md_name.specs.Names.{begins_with_dot, flagged, split_of}
use Rattle.md_name.specs.declared.info.Info.{Info}
use Rattle.md_name.specs.declared.info.Info.TheVariants.{Bare, Two, Opaque}
use Rattle.md_dirs.specs.declared.paths.Place.{Place}
use Rattle.md_dirs.specs.declared.paths.Place.TheVariants.{New, Cur}
use Rattle.md_system.specs.declared.flaw.FlawKind.{FlawKind}
use Rattle.md_system.specs.declared.flaw.FlawKind.TheVariants as flaw

-- the parts of a message's name, which has a colon
abbrev pub HasInfo : Option (List ℕ × Info) → Type 0
HasInfo None = ⊥
HasInfo (Some parts) = parts.1 ≢ Bare

-- the parts of a message's name, which has no colon
abbrev pub LacksInfo : Option (List ℕ × Info) → Type 0
LacksInfo None = ⊥
LacksInfo (Some parts) = parts.1 ≡ Bare

-- A name is another than the one that is written for its parts: its letters are not in ASCII order, or not each there once.
abbrev pub IsOther : List ℕ → List ℕ → Info → Type 0
IsOther name unique Bare = ⊥
IsOther name unique (Two flags) = name ≢ flagged unique flags
IsOther name unique Opaque = ⊥

-- the parts of a message's name, which says flags out of order
abbrev pub AreFlagsOutOfOrder : List ℕ → Option (List ℕ × Info) → Type 0
AreFlagsOutOfOrder name None = ⊥
AreFlagsOutOfOrder name (Some parts) = IsOther name parts.0 parts.1

-- A name in a place breaks the format by itself so. The other kinds are told of more than a name.
abbrev pub HasFlaw : Place → List ℕ → FlawKind → Type 0
HasFlaw place name flaw.DotName = begins_with_dot name ≡ true
HasFlaw place name flaw.InfoInNew = (place ≡ New) × HasInfo (split_of name)
HasFlaw place name flaw.NoInfo = (place ≡ Cur) × LacksInfo (split_of name)
HasFlaw place name flaw.FlagsOutOfOrder = AreFlagsOutOfOrder name (split_of name)
HasFlaw place name flaw.NotText = ¬ (IsUtf8 name)
HasFlaw place name flaw.LongName = 255 < length name
HasFlaw place name _ = ⊥

-- what a kind is, for people
abbrev pub kind_text : FlawKind → List ℕ
kind_text flaw.TwiceInFolder = codes "its unique name is in this folder twice"
kind_text flaw.InOtherFolders = codes "its unique name is in another folder too"
kind_text flaw.Unused = codes "it was not used for 36 hours"
kind_text flaw.NotAFile = codes "it is no regular file"
kind_text flaw.DotName = codes "its name begins with a dot"
kind_text flaw.InfoInNew = codes "it has info in new"
kind_text flaw.NoInfo = codes "it has no info in cur"
kind_text flaw.FlagsOutOfOrder = codes "its flags are not in order"
kind_text flaw.NotText = codes "its name is not UTF-8"
kind_text flaw.LongName = codes "its name is longer than 255 bytes"

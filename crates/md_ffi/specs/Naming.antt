-- What names, summaries, scripts and their indexes give, as C has it.
use Rattle.std.specs.Prelude.{◌≡◌, ◌⊎◌, ◌≤◌, ◌<◌, ◌++◌, ℕ, List, Option, Some, None, Result, Ok, Err, length, drop}
use Rattle.md_name.specs.Made.{make_refusal, made_unique}
use Rattle.md_name.specs.Words.{word_of}
use Rattle.md_name.specs.declared.info.Info.{Info}
use Rattle.md_name.specs.declared.info.Info.TheVariants.{Bare, Two, Opaque}
use Rattle.md_script.specs.Kinds.{at_no_line, name_kind}
use Rattle.md_script.specs.declared.error.PlayError.{PlayError}
use Rattle.md_script.specs.declared.error.PlayKind.TheVariants.{NoMemory}
use Rattle.md_ffi.specs.Asking.{unless}
use Rattle.md_driven.specs.Laying.{Lays}
use Rattle.md_driven.specs.Numbers.{kind_number, refusal_number}
use Rattle.md_driven.specs.declared.refusal.Refusal.{Refusal}
use Rattle.md_driven.specs.declared.refusal.Refusal.TheVariants.{NoMessageName}

-- the unique name of a second, a microsecond, a process, a count and a host, or why there is none
unfoldable pub made : ℕ → ℕ → ℕ → ℕ → List ℕ → Result (List ℕ) Refusal
made sec micro pid count host = unless name_kind (make_refusal micro host) (made_unique sec micro pid count host)

-- the line that a script is refused at, 0 for none
abbrev pub line_of : Option PlayError → ℕ
line_of None = 0
line_of (Some refused) = refused.line

-- the number of a line's refusal, 0 for none
abbrev pub number_of : Option PlayError → ℕ
number_of None = 0
number_of (Some refused) = kind_number refused.kind

-- A transcript was laid, with its refusal as the status, or there was no room; the whole length and the refused line are said. Or memory
-- ran out.
abbrev pub Plays : List ℕ → Option PlayError → List ℕ → List ℕ → ℕ → ℕ → ℕ → Type 0
Plays text refusal old new whole line status =
    ((whole ≡ length text) × (line ≡ line_of refusal)
    × (((status ≡ number_of refusal) × (length text ≤ length old) × (new ≡ text ++ drop (length text) old))
    ⊎ ((status ≡ 3) × (length old < length text) × (new ≡ old))))
    ⊎ ((status ≡ 4) × (whole ≡ 0) × (line ≡ 0) × (new ≡ old))

-- An index was laid, or there was no room. Or a line is refused, which is said, and nothing was laid.
abbrev pub LaysIndex : Result (List ℕ) PlayError → List ℕ → List ℕ → ℕ → ℕ → ℕ → Type 0
LaysIndex (Ok text) old new whole line status = Lays text old new whole status × (line ≡ 0)
LaysIndex (Err refused) old new whole line status =
    (status ≡ kind_number refused.kind) × (line ≡ refused.line) × (whole ≡ 0) × (new ≡ old)

-- the same, unless memory ran out
abbrev pub Indexes : Result (List ℕ) PlayError → List ℕ → List ℕ → ℕ → ℕ → ℕ → Type 0
Indexes said old new whole line status =
    LaysIndex said old new whole line status ⊎ LaysIndex (Err (at_no_line NoMemory)) old new whole line status

-- the number of an info
abbrev pub info_number : Info → ℕ
info_number Bare = 0
info_number (Two flags) = 1
info_number Opaque = 2

-- the flags of an info, a bit each
abbrev pub info_flags : Info → ℕ
info_flags (Two flags) = word_of flags
info_flags other = 0

-- the length of a unique part, which info follows it, and its flags; a name that is no message's is refused, and nothing is said
abbrev pub Splits : Option (List ℕ × Info) → ℕ → ℕ → ℕ → ℕ → ℕ → ℕ → ℕ → Type 0
Splits None part_before part info_before info flags_before flags status =
    (status ≡ refusal_number NoMessageName) × (part ≡ part_before) × (info ≡ info_before) × (flags ≡ flags_before)
Splits (Some parts) part_before part info_before info flags_before flags status =
    (status ≡ 0) × (part ≡ length parts.0) × (info ≡ info_number parts.1) × (flags ≡ info_flags parts.1)

-- The message of an mbox that is read.
use Rattle.std.specs.Prelude.{ℕ, ◌-◌, Bool, true, false, nat_le, List, [], ◌∷◌, ◌++◌, length, if◌then◌else◌}
use Rattle.md_maildirs.specs.declared.mailbox.Draft.{Draft}
use Rattle.md_maildirs.specs.Mailbox.{is_empty, unquoted}

-- its bytes, whether an empty line was read that is not among them, and whether there was no room for all
pub record Drafted : Type 0 where
  pub bytes : List ℕ
  pub ends_empty : Bool
  pub is_too_long : Bool

-- what a draft shows
abbrev pub draft_view : Draft → Drafted
draft_view draft = record { bytes = draft.bytes.items; ends_empty = draft.ends_empty; is_too_long = draft.is_too_long }

-- with more bytes, if there is room for them
abbrev pub pushed : ℕ → Drafted → List ℕ → Drafted
pushed most draft more =
    if nat_le (length more) (most - length draft.bytes) then record draft { bytes = draft.bytes ++ more }
    else record draft { is_too_long = true }

-- with the empty line that was read, which is the message's after all
abbrev pub with_empty : ℕ → Drafted → Drafted
with_empty most draft = if draft.ends_empty then pushed most draft (10 ∷ []) else draft

-- after one more line: an empty one waits for the next
abbrev pub taken : ℕ → Drafted → List ℕ → Drafted
taken most draft line =
    if is_empty line then record (with_empty most draft) { ends_empty = true }
    else pushed most (record (with_empty most draft) { ends_empty = false }) (unquoted line)

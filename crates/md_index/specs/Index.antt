-- What an index is.
use Rattle.std.specs.Prelude.{◌≡◌, ℕ, List, Some, slice_get}
use Rattle.md_head.specs.Summaries.{summary_of}
use Rattle.md_index.specs.declared.item.Message.{Message}
use Rattle.md_index.specs.declared.item.Indexed.{Indexed}

-- the entry of a message: its unique name, and the one summary of its bytes
abbrev pub indexed_of : Message → Indexed
indexed_of message = record { unique = message.unique.now; summary = summary_of message.bytes.now }

-- a worker brought the entry of the message that has this number
abbrev pub IsBrought : List Message → ℕ × Indexed → Type 0
IsBrought messages (item, made) = (message : Message) × (slice_get messages item ≡ Some message) × (made ≡ indexed_of message)

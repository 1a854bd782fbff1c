-- What a message's summary does not depend on, and what it does.
use Rattle.std.specs.Prelude.{◌≡◌, ◌≢◌, ℕ, ◌<◌, ◌==◌, true, false, ◌↔◌, List, [], ◌∷◌, ◌++◌, length, slice_index, All, Contains, IsSome, if◌then◌else◌}
use Rattle.std.specs.List.{AllPass, flat_map}
use Rattle.std.specs.Str.{str_eq_ignore_ascii_case}
use Rattle.md_head.specs.Header.{is_blank, is_name_byte, lines_of, IsWholeLines, IsFieldLine}
use Rattle.md_head.specs.Summaries.{IsSummary, summary_of}
use Rattle.md_head.specs.declared.shown.Summary.{Summary}

-- The rules give each text exactly one summary.
abbrev pub OneSummary : Type 0
OneSummary = (text : List ℕ) (s : Summary) → IsSummary text s ↔ (s ≡ summary_of text)

-- The body isn't read: what follows lines of which one is empty changes nothing.
abbrev pub BodyIsNotRead : Type 0
BodyIsNotRead = (header body : List ℕ) → IsWholeLines header → Contains (lines_of header) []
    → summary_of (header ++ body) ≡ summary_of header

-- a line that isn't empty and that is no field
pub record IsPassedOver (line : List ℕ) : Type 0 where
  pub some : 0 < length line
  pub no_field : (name body : List ℕ) → ¬ IsFieldLine line name body

-- Lines that are no fields change nothing in front of a text, and nor do their continuations, which are no fields either.
abbrev pub OtherLinesArePassedOver : Type 0
OtherLinesArePassedOver = (front text : List ℕ) → IsWholeLines front → All IsPassedOver (lines_of front)
    → summary_of (front ++ text) ≡ summary_of text

-- each value that the first summary has is in the second
pub record KeepsValues (first second : Summary) : Type 0 where
  pub subject : IsSome first.subject → second.subject ≡ first.subject
  pub from : IsSome first.from → second.from ≡ first.from
  pub message_id : IsSome first.message_id → second.message_id ≡ first.message_id
  pub date : IsSome first.date → second.date ≡ first.date
  pub seconds : IsSome first.date → second.seconds ≡ first.seconds

-- The first field of a name wins: its value stays, whatever lines follow, unless they go on with it.
abbrev pub FirstFieldWins : Type 0
FirstFieldWins = (header later : List ℕ) → IsWholeLines header → is_blank (slice_index later 0) ≡ false
    → KeepsValues (summary_of header) (summary_of (header ++ later))

-- The case of a field's name doesn't matter.
abbrev pub NameCaseDoesNotMatter : Type 0
NameCaseDoesNotMatter = (front name other spacing rest : List ℕ) → IsWholeLines front → 0 < length name → AllPass is_name_byte name
    → str_eq_ignore_ascii_case name other ≡ true → AllPass is_blank spacing
    → summary_of (front ++ (name ++ (spacing ++ 58 ∷ rest))) ≡ summary_of (front ++ (other ++ (spacing ++ 58 ∷ rest)))

-- a carriage return before each line feed
abbrev pub crlf_byte : ℕ → List ℕ
crlf_byte b = if b == 10 then 13 ∷ 10 ∷ [] else b ∷ []

-- a text with a carriage return before each line feed
abbrev pub with_crlf : List ℕ → List ℕ
with_crlf text = flat_map crlf_byte text

-- LF and CRLF say the same, where there is no other CR.
abbrev pub LineEndsAgree : Type 0
LineEndsAgree = (text : List ℕ) → All (λ b. b ≢ 13) text → summary_of (with_crlf text) ≡ summary_of text

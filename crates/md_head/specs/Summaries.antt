-- The summary of a message.
use Rattle.std.specs.Prelude.{◌≡◌, ℕ, List, codes}
use Rattle.md_head.specs.Header.{header_section, Group, IsGrouped}
use Rattle.md_head.specs.Values.{IsFirstValue}
use Rattle.md_head.specs.Dates.{seconds_of}
use Rattle.md_head.specs.Computed.{field_value}
use Rattle.md_head.specs.declared.shown.Summary.{Summary}

-- The values of the first field of each of four names (RFC 5322, 3.6) in the header section of a text, and the instant of the date.
pub record IsSummary (text : List ℕ) (s : Summary) : Type 0 where
  pub front : List (List ℕ)
  pub groups : List Group
  pub grouped : IsGrouped (header_section text) front groups
  pub subject : IsFirstValue groups (codes "subject") s.subject
  pub from : IsFirstValue groups (codes "from") s.from
  pub message_id : IsFirstValue groups (codes "message-id") s.message_id
  pub date : IsFirstValue groups (codes "date") s.date
  pub seconds : s.seconds ≡ seconds_of s.date

-- the one summary that a text has
unfoldable pub summary_of : List ℕ → Summary
summary_of text = record {
  subject = field_value (codes "subject") text;
  from = field_value (codes "from") text;
  message_id = field_value (codes "message-id") text;
  date = field_value (codes "date") text;
  seconds = seconds_of (field_value (codes "date") text);
}

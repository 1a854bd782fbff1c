-- A text has one summary, which the function finds.
use Rattle.std.proofs.Common.{◌≡◌, ℕ, List, Option, refl, sym, ap, ◌∙◌, subst}
use Rattle.std.specs.Prelude.{ℤ, codes}
use Rattle.md_head.specs.Header.{header_section, Group, IsGrouped}
use Rattle.md_head.specs.Values.{IsFirstValue}
use Rattle.md_head.specs.Dates.{seconds_of}
use Rattle.md_head.specs.Computed.{Grouped, grouped, groups_of, first_value, field_value}
use Rattle.md_head.specs.Summaries.{IsSummary, summary_of}
use Rattle.md_head.specs.declared.shown.Summary.{Summary}
use Rattle.md_head.proofs.Groups.{grouped_is, grouped_only}
use Rattle.md_head.proofs.Steps.{groups_is}
use Rattle.md_head.proofs.Firsts.{first_is, first_only}

abbrev pub shown : Option (List ℕ) → Option (List ℕ) → Option (List ℕ) → Option (List ℕ) → Option ℤ → Summary
shown subject from message_id date seconds = record { subject = subject; from = from; message_id = message_id; date = date; seconds = seconds }

pub summary_is : (text : List ℕ)
    → summary_of text ≡ shown (field_value (codes "subject") text) (field_value (codes "from") text) (field_value (codes "message-id") text)
    (field_value (codes "date") text)
    (seconds_of (field_value (codes "date") text))
unfolding summary_of
summary_is text = refl

-- a summary by its parts
pub made_of : (text : List ℕ) (subject from message_id date : Option (List ℕ)) (seconds : Option ℤ)
    → subject ≡ field_value (codes "subject") text → from ≡ field_value (codes "from") text → message_id ≡ field_value (codes "message-id") text
    → date ≡ field_value (codes "date") text → seconds ≡ seconds_of (field_value (codes "date") text)
    → shown subject from message_id date seconds ≡ summary_of text
made_of text subject from message_id date seconds a b c d e =
    (λ i. shown (a i) (b i) (c i) (d i) (e i)) ∙ sym (summary_is text)

first_of_text : (text name : List ℕ) → IsFirstValue (grouped (header_section text)).groups name (field_value name text)
first_of_text text name = subst (λ gs. IsFirstValue gs name (field_value name text)) (groups_is text) (first_is (groups_of text) name)

pub summary_holds : (text : List ℕ) → IsSummary text (summary_of text)
unfolding summary_of
summary_holds text = record {
  front = (grouped (header_section text)).front;
  groups = (grouped (header_section text)).groups;
  grouped = grouped_is (header_section text);
  subject = first_of_text text (codes "subject");
  from = first_of_text text (codes "from");
  message_id = first_of_text text (codes "message-id");
  date = first_of_text text (codes "date");
  seconds = refl;
}

value_only : (text : List ℕ) (front : List (List ℕ)) (groups : List Group) (name : List ℕ) (v : Option (List ℕ))
    → IsGrouped (header_section text) front groups → IsFirstValue groups name v → v ≡ field_value name text
value_only text front groups name v h first =
    let same : groups_of text ≡ groups = groups_is text ∙ ap (λ (g : Grouped). g.groups) (grouped_only (header_section text) front groups h) in
    sym (ap (first_value name) same ∙ first_only groups name v first)

pub summary_only : (text : List ℕ) (s : Summary) → IsSummary text s → s ≡ summary_of text
summary_only text s h =
    let value = λ (name : List ℕ) (v : Option (List ℕ)) (first : IsFirstValue h.groups name v). value_only text h.front h.groups name v h.grouped first in
    let subject = value (codes "subject") s.subject h.subject in
    let from = value (codes "from") s.from h.from in
    let message_id = value (codes "message-id") s.message_id h.message_id in
    let date = value (codes "date") s.date h.date in
    made_of text s.subject s.from s.message_id s.date s.seconds subject from message_id date (h.seconds ∙ ap seconds_of date)

use Rattle.std.proofs.Common.{◌≡◌, ℕ, true, false, List, [], get_or, take, Option, None, ap, sym, ◌∙◌, refl, subst}
use Rattle.std.proofs.lemmas.Bool.{not-true, false≢true}
use Rattle.std.specs.Prelude.{codes, is_some}
use Rattle.std.specs.Str.{str_eq_ignore_ascii_case}
use Rattle.md_head.specs.Header.{header_section}
use Rattle.md_head.specs.Scan.{is_initial}
use Rattle.md_head.specs.Bodies.{or_this}
use Rattle.md_head.specs.Computed.{field_of}
use Rattle.md_head.specs.declared.body.FieldBody.{FieldBody}
use Rattle.md_head.proofs.Cuts.{rest_whole}
use Rattle.md_head.proofs.GroupValues.{value_in}
use Rattle.md_head.proofs.Initials.{no_subject, no_from, no_message_id, no_date}
use Rattle.md_head.proofs.Sections.{some_section}
use Rattle.md_head.proofs.Places.{Knows, all_four, knows_nothing, knows_kept, knows_passed, knows_other, knows_found, knows_all}
use Rattle.md_head.proofs.header.header_fields.Goals as goal

pub loop-left-init : goal.loop-left-init
loop-left-init c =
    let text = c.args.message.now in
    let none = c.default-fields.ensures in
    let nothing = λ (name : List ℕ) (found : Option FieldBody) (is : found ≡ None). subst (Knows text text name) (sym is) (knows_nothing text name) in
    record {
      subject = nothing (codes "subject") _ none.0;
      from = nothing (codes "from") _ none.1.0;
      message_id = nothing (codes "message-id") _ none.1.1.0;
      date = nothing (codes "date") _ none.1.1.1;
    }

pub group_end-requires : goal.group_end-requires
group_end-requires c = some_section c.loop-left.left.now (λ over. false≢true (c.loop-left-test.ensures.1 over))

-- after a field more
pub loop-left-preserved-else-is_complete : goal.loop-left-preserved-else-is_complete
loop-left-preserved-else-is_complete c =
    let left = c.loop-left.left.now in
    let ends = c.group_end-else-begins_other.ensures in
    let here = c.in-Some.name.now in
    let body : FieldBody = record { folded = c.in-Some.folded } in
    let field = c.in-Some.ensures ∙ ap field_of c.split_at.ensures.front in
    let after = λ (name : List ℕ) (found kept : Option FieldBody).
    knows_kept c.args.message.now left _ name here _ found kept body
    (λ over. false≢true (c.loop-left-test.ensures.1 over)) ends c.split_at.ensures.back field in record {
      subject = after (codes "subject") _ _ c.keep_first.ensures.subject c.loop-left.invariant.subject;
      from = after (codes "from") _ _ c.keep_first.ensures.from c.loop-left.invariant.from;
      message_id = after (codes "message-id") _ _ c.keep_first.ensures.message_id c.loop-left.invariant.message_id;
      date = after (codes "date") _ _ c.keep_first.ensures.date c.loop-left.invariant.date;
    }

-- and after the last of the four
kept_last : (c : goal.Then-is_complete) (name : List ℕ) (found kept : Option FieldBody)
    → kept ≡ or_this found (str_eq_ignore_ascii_case c.in-Some.name.now name) (record { folded = c.in-Some.folded })
    → Knows c.args.message.now c.loop-left.left.now name found → Knows c.args.message.now c.split_at.result.1.now name kept
kept_last c name found kept is k =
    knows_kept c.args.message.now c.loop-left.left.now c.split_at.result.1.now name c.in-Some.name.now
    c.group_end-else-begins_other.result found kept (record { folded = c.in-Some.folded })
    (λ over. false≢true (c.loop-left-test.ensures.1 over)) c.group_end-else-begins_other.ensures c.split_at.ensures.back
    (c.in-Some.ensures ∙ ap field_of c.split_at.ensures.front) is k

all_kept : (c : goal.Then-is_complete) → (is_some c.keep_first.new.self.subject ≡ true) × (is_some c.keep_first.new.self.from ≡ true)
    × (is_some c.keep_first.new.self.message_id ≡ true) × (is_some c.keep_first.new.self.date ≡ true)
all_kept c =
    let kept = c.keep_first.new.self in
    all_four (is_some kept.subject) (is_some kept.from) (is_some kept.message_id) (is_some kept.date)
    (sym c.is_complete.ensures ∙ c.if-is_complete.true)

pub returns-then-is_complete : goal.returns-then-is_complete
returns-then-is_complete c =
    let all = all_kept c in
    let keeps = c.keep_first.ensures in
    let before = c.loop-left.invariant in record {
      subject = knows_found _ _ (codes "subject") _ all.0 (kept_last c (codes "subject") _ _ keeps.subject before.subject);
      from = knows_found _ _ (codes "from") _ all.1 (kept_last c (codes "from") _ _ keeps.from before.from);
      message_id = knows_found _ _ (codes "message-id") _ all.2 (kept_last c (codes "message-id") _ _ keeps.message_id before.message_id);
      date = knows_found _ _ (codes "date") _ all.3 (kept_last c (codes "date") _ _ keeps.date before.date);
    }

-- and after a group that is none, by its first letter
pub loop-left-preserved-then-begins_other : goal.loop-left-preserved-then-begins_other
loop-left-preserved-then-begins_other c =
    let message = c.args.message.now in
    let left = c.loop-left.left.now in
    let not_over = λ (over : header_section left ≡ []). false≢true (c.loop-left-test.ensures.1 over) in
    let plain : is_initial (get_or left 0 0) ≡ false = not-true _ (sym c.begins_other.ensures ∙ c.if-begins_other.true) in
    let ends = c.group_end.ensures in
    let past = λ (name : List ℕ) (found : Option FieldBody) (none : value_in name (field_of (take c.group_end.result left)) ≡ None).
    knows_passed message left _ name c.group_end.result found not_over ends (rest_whole left c.group_end.result) none in record {
      subject = past (codes "subject") _ (no_subject left _ ends.some plain) c.loop-left.invariant.subject;
      from = past (codes "from") _ (no_from left _ ends.some plain) c.loop-left.invariant.from;
      message_id = past (codes "message-id") _ (no_message_id left _ ends.some plain) c.loop-left.invariant.message_id;
      date = past (codes "date") _ (no_date left _ ends.some plain) c.loop-left.invariant.date;
    }

-- and after lines that are none
after_other : (c : goal.In_default) (name : List ℕ) (found : Option FieldBody) → Knows c.args.message.now c.loop-left.left.now name found
    → Knows c.args.message.now c.split_at.result.1.now name found
after_other c name found k =
    knows_other c.args.message.now c.loop-left.left.now c.split_at.result.1.now name c.group_end-else-begins_other.result found
    (λ over. false≢true (c.loop-left-test.ensures.1 over)) c.group_end-else-begins_other.ensures c.split_at.ensures.back
    (c.in_default.ensures ∙ ap field_of c.split_at.ensures.front) k

pub loop-left-preserved : goal.loop-left-preserved
loop-left-preserved c = record {
  subject = after_other c (codes "subject") c.loop-left.fields.subject c.loop-left.invariant.subject;
  from = after_other c (codes "from") c.loop-left.fields.from c.loop-left.invariant.from;
  message_id = after_other c (codes "message-id") c.loop-left.fields.message_id c.loop-left.invariant.message_id;
  date = after_other c (codes "date") c.loop-left.fields.date c.loop-left.invariant.date;
}

pub returns : goal.returns
returns c =
    let all = λ (name : List ℕ) (found : Option FieldBody). knows_all c.args.message.now c.loop-left.left.now name found (c.loop-left-test.ensures.0 refl) in
    record {
      subject = all (codes "subject") _ c.loop-left.invariant.subject;
      from = all (codes "from") _ c.loop-left.invariant.from;
      message_id = all (codes "message-id") _ c.loop-left.invariant.message_id;
      date = all (codes "date") _ c.loop-left.invariant.date;
    }

use Rattle.std.proofs.Common.{length}
use Rattle.std.specs.Prelude.{codes}
use Rattle.md_head.proofs.Places.{Knows}
use Rattle.md_head.proofs.header.header_fields.Given as goal

abbrev pub invariant-loop-left : goal.invariant-loop-left
invariant-loop-left l = record {
  subject : Knows l.message l.left (codes "subject") l.fields.subject;
  from : Knows l.message l.left (codes "from") l.fields.from;
  message_id : Knows l.message l.left (codes "message-id") l.fields.message_id;
  date : Knows l.message l.left (codes "date") l.fields.date;
}

abbrev pub decreases-loop-left : goal.decreases-loop-left
decreases-loop-left l = length l.left

use Rattle.md_maildirs.proofs.Appending.{appended_thrice}
use Rattle.md_maildirs.proofs.row.push_value_fields.Goals as goal

pub returns : goal.returns
returns c = appended_thrice _ _ _ _ c.in_ok-push_field.ensures c.in_ok-push_field-2.ensures c.in_ok-push_field-3.ensures

use Rattle.std.proofs.Common.{sym, ap, ◌∙◌}
use Rattle.std.specs.Cmp.Lexicographic.{bytes_decides}
use Rattle.md_name.specs.Names.{unique_of}
use Rattle.md_system.proofs.Searched.{item-get}
use Rattle.md_system.proofs.shown.is_at.Goals as goal

pub returns-in-Some : goal.returns-in-Some
returns-in-Some c is = record {
  name = c.in-Some.name.now;
  is = item-get c.args.names.now c.args.at c.in-Some.name c.in-Some.ensures.lookup;
  named =
      ap unique_of (sym c.as_slice.ensures) ∙ sym c.unique_part.ensures
      ∙ (bytes_decides c.unique_part.result.now c.args.unique.now).0 (sym c.eq.ensures ∙ is);
}

use Rattle.std.proofs.Common.{Some, sym, ap, ◌∙◌}
use Rattle.std.specs.Str.{bytes_eq}
use Rattle.std.proofs.lemmas.Slice.Eq.{bytes_eq-Decides}
use Rattle.md_kept.proofs.table.Table.has_at.Goals as goal

pub returns-then-key-number : goal.returns-then-key-number
returns-then-key-number g c t =
    let key = c.in-Some.key.now in
    let name = c.args.name.now in
    let named = (bytes_eq-Decides key.1 name).0 (sym (c.eq.ensures ∙ ap (λ q. bytes_eq q name) c.as_slice.ensures) ∙ t) in
    (c.in-Some.field-0-1.now, sym c.in-Some.ensures.entry ∙ (λ i. Some ((c.if-key-number.true i, named i), c.in-Some.field-0-1.now)))

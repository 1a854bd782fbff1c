use Rattle.std.proofs.Common.{◌∙◌, sym, ap}
use Rattle.std.specs.Option.{option_copied}
use Rattle.std.specs.Ordering.{is_lt}
use Rattle.md_dirs.specs.Index.{name_cmp}
use Rattle.lists.proofs.Orders.{is-less}
use Rattle.md_dirs.proofs.Behind.{made, none-behind, last-behind}
use Rattle.md_dirs.proofs.index.names.goes_last.Goals as goal

pub returns-in-None : goal.returns-in-None
returns-in-None c t =
    let is = made c.args.table.now.keys c.args.order.now c.requires (c.if-order-len.false ∙ c.len.ensures.len) in
    none-behind c.args.table.now.keys c.args.order.now c.args.name.now is (sym c.in-None.ensures.value)

pub returns-in-Some : goal.returns-in-Some
returns-in-Some c t =
    let is = made c.args.table.now.keys c.args.order.now c.requires (c.if-order-len.false ∙ c.len.ensures.len) in
    last-behind c.args.table.now.keys c.args.order.now c.args.name.now c.in-Some.last.now c.unwrap.result.now is (sym c.in-Some.ensures.value)
    (sym c.get_index.ensures.key ∙ ap option_copied c.unwrap.ensures)
    (ap (λ n. name_cmp n c.args.name.now) (sym c.name.ensures) ∙ is-less (name_cmp c.name.result.now c.args.name.now) (ap is_lt (sym c.cmp.ensures) ∙ sym c.is_lt.ensures ∙ t))

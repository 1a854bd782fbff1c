use Rattle.std.proofs.Common.{◌∙◌, sym, ap, subst, map}
use Rattle.std.proofs.lemmas.Cmp.{nat_list_cmp_total}
use Rattle.std.proofs.lemmas.Fn.{always_returns_same}
use Rattle.std.proofs.lemmas.List.Sorted.{ranks_by}
use Rattle.std.specs.Ordering.{is_lt}
use Rattle.md_dirs.specs.Index.{IsOrderOf}
use Rattle.md_dirs.specs.Least.{lent_row}
use Rattle.md_dirs.specs.Sortable.{key_and_name, row_number}
use Rattle.md_dirs.proofs.Lent.{if-ok}
use Rattle.md_dirs.proofs.Sorting.{is_under, order-is}
use Rattle.md_dirs.proofs.index.sorting.sorted_order.Goals as goal

pub returns : goal.returns
returns c =
    let es = map lent_row c.args.rows.now in
    let sorted = c.sort_unstable_by.ensures in
    let by = sorted.sorted (is_under es) (ranks_by nat_list_cmp_total (key_and_name es)) (always_returns_same _ _ _ (λ a r f' k. (ap is_lt k.met.1, λ j. record { 0 = k.met.0 j }))) in
    let is = order-is es c.in_ok-sortable.sortable.items c.sort_unstable_by.new.self.items c.in_ok-sortable.ensures sorted.permutation by c.requires in
    if-ok c.positions_of.result (λ order made. subst (IsOrderOf es) (sym (made ∙ ap (map row_number) c.deref.ensures.value)) is) c.positions_of.ensures

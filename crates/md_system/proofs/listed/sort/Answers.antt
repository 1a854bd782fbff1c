use Rattle.std.proofs.Common.{rules}
use Rattle.std.specs.Ordering.{is_lt}
use Rattle.std.proofs.lemmas.Cmp.{nat_list_cmp_total}
use Rattle.std.proofs.lemmas.List.Sorted.{ranks_by, answers_always}
use Rattle.md_name.specs.Names.{unique_of}
use Rattle.md_dirs.specs.Index.{name_cmp}
use Rattle.md_system.specs.declared.listed.Listed.{Listed}
use Rattle.md_system.proofs.listed.sort.Goals as goal

pub returns-clause-order : goal.returns-clause-order
returns-clause-order c =
    c.sort_unstable_by.ensures.sorted (λ (x y : Listed). is_lt (name_cmp (unique_of x.name) (unique_of y.name)))
    (ranks_by nat_list_cmp_total (λ (m : Listed). unique_of m.name)) (answers_always _ _ _ (λ f a r f' k. search rules))

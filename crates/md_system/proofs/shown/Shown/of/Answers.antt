use Rattle.std.proofs.Common.{ℕ, List, rules}
use Rattle.std.specs.Ordering.{is_lt}
use Rattle.std.proofs.lemmas.Cmp.{nat_list_cmp_total}
use Rattle.std.proofs.lemmas.List.Sorted.{ranks_by, answers_always}
use Rattle.md_name.specs.Names.{unique_of}
use Rattle.md_dirs.specs.Index.{name_cmp}
use Rattle.md_system.proofs.shown.Shown.of.Goals as goal

pub invariant_of-shown : goal.invariant_of-shown
invariant_of-shown c =
    c.sort_unstable_by.ensures.sorted (λ (x y : List ℕ). is_lt (name_cmp (unique_of x) (unique_of y)))
    (ranks_by nat_list_cmp_total unique_of) (answers_always _ _ _ (λ f a r f' k. search rules))

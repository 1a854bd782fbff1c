use Rattle.std.proofs.Common.{rules}
use Rattle.std.specs.Ordering.{is_lt}
use Rattle.std.proofs.lemmas.List.Sorted.{ranks_by, answers_always}
use Rattle.md_system.specs.Gathering.{alike_cmp}
use Rattle.md_system.specs.declared.seen.Seen.{Seen}
use Rattle.md_system.proofs.Alike.{alike_total}
use Rattle.md_system.proofs.seen.sort_alike.Goals as goal

pub returns-clause-order : goal.returns-clause-order
returns-clause-order c =
    c.sort_unstable_by.ensures.sorted (λ (x y : Seen). is_lt (alike_cmp x y))
    (ranks_by alike_total (λ (s : Seen). s)) (answers_always _ _ _ (λ f a r f' k. search rules))

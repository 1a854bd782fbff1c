use Rattle.std.proofs.Common.{◌≡◌, ◌+◌, count_by, rules, arith}
use Rattle.std.specs.Ordering.{is_lt, is_le}
use Rattle.std.proofs.lemmas.List.Sorted.{IsPartitionPoint-from_clause}
use Rattle.md_name.specs.Names.{unique_of}
use Rattle.md_system.specs.Checks.{is_of}
use Rattle.md_system.specs.Gathering.{unique_cmp}
use Rattle.md_system.specs.declared.seen.Seen.{Seen}
use Rattle.md_system.proofs.Alike.{by-unique, unique_total, everywhere}
use Rattle.md_system.proofs.Counting.{parted-below, parted-upto}
use Rattle.md_system.proofs.seen.count_everywhere.Goals as goal

counted : (c : goal.After-partition_point-until) →
    c.partition_point-from.result + count_by (is_of (unique_of c.args.one.now.name)) c.args.seen.now ≡ c.partition_point-until.result
counted c =
    let all = c.args.seen.now in
    let one = c.args.one.now in
    everywhere one c.requires.message all c.requires.order _ _ c.partition_point-from.ensures.bound c.partition_point-until.ensures.bound
    (IsPartitionPoint-from_clause (λ (other : Seen). is_lt (unique_cmp other one)) all _ c.partition_point-from.ensures.partitioned
    (parted-below unique_total all (by-unique c.args.seen.now c.requires.order) one) (λ a r f' k. search rules))
    (IsPartitionPoint-from_clause (λ (other : Seen). is_le (unique_cmp other one)) all _ c.partition_point-until.ensures.partitioned
    (parted-upto unique_total all (by-unique c.args.seen.now c.requires.order) one) (λ a r f' k. search rules))

pub overflow_sub-result : goal.overflow_sub-result
overflow_sub-result c = omega (arith, counted c)

pub returns : goal.returns
returns c = omega (arith, counted c)

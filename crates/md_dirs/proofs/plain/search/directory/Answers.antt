use Rattle.std.proofs.Common.{leb, ltb, rules}
use Rattle.std.proofs.lemmas.List.Sorted.{IsPartitionPoint-from_clause, IsPartitionedBy-leb, IsPartitionedBy-ltb}
use Rattle.lists.proofs.Booleans.{holds}
use Rattle.md_dirs.proofs.Sliced.{number_at, numbers-rise, start-first, directory-part}
use Rattle.md_dirs.proofs.plain.search.directory.Goals as goal

pub slice_bounds-result-count : goal.slice_bounds-result-count
slice_bounds-result-count c =
    let rows = c.args.rows.now in
    let n = c.number_of-number.result in
    let rise = numbers-rise rows (holds _ c.requires) in
    let start = IsPartitionPoint-from_clause (λ e. ltb (number_at e) n) rows _ c.partition_point-first.ensures.partitioned
    (IsPartitionedBy-ltb number_at rows n rise) (λ a r q k. search rules) in
    let end = IsPartitionPoint-from_clause (λ e. leb (number_at e) n) rows _ c.partition_point-end.ensures.partitioned
    (IsPartitionedBy-leb number_at rows n rise) (λ a r q k. search rules) in
    start-first rows n c.partition_point-first.result c.partition_point-end.result start end c.partition_point-first.ensures.bound
    c.partition_point-end.ensures.bound

pub slice_bounds-result-start : goal.slice_bounds-result-start
slice_bounds-result-start c = slice_bounds-result-count c

pub returns : goal.returns
returns c =
    let rows = c.args.rows.now in
    let n = c.number_of-number.result in
    let rise = numbers-rise rows (holds _ c.requires) in
    let start = IsPartitionPoint-from_clause (λ e. ltb (number_at e) n) rows _ c.partition_point-first.ensures.partitioned
    (IsPartitionedBy-ltb number_at rows n rise) (λ a r q k. search rules) in
    let end = IsPartitionPoint-from_clause (λ e. leb (number_at e) n) rows _ c.partition_point-end.ensures.partitioned
    (IsPartitionedBy-leb number_at rows n rise) (λ a r q k. search rules) in
    directory-part rows n c.partition_point-first.result c.partition_point-end.result start end c.partition_point-first.ensures.bound
    c.partition_point-end.ensures.bound c.args.folder c.args.place c.number_of-number.ensures.number

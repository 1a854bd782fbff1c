use Rattle.std.proofs.Common.{◌≡◌, ◌++◌, ◌+◌, ◌<◌, length, take, sym, ap, ◌∙◌, arith}
use Rattle.std.proofs.lemmas.Bool.Decides.{nat_tests}
use Rattle.std.proofs.lemmas.List.{take_all}
use Rattle.md_dirs.specs.Rows.{rows_of}
use Rattle.md_core.specs.Runs.{dirs_of}
use Rattle.md_listing.specs.Rows.{entries_of}
use Rattle.md_listing.proofs.Gathering.{many_more, at_most, ended}
use Rattle.md_listing.proofs.read.gather.Goals as goal

pub returns-then-is_empty-clause-entries : goal.returns-then-is_empty-clause-entries
returns-then-is_empty-clause-entries g c =
    let all = rows_of (dirs_of c.args.world.now) c.args.folder c.args.place in
    let none : length c.in_ok-rows.rows.items ≡ 0 = grind (arith, nat_tests) in
    c.loop-all.invariant.entries ∙ ap (entries_of c.args.place) (take_all c.loop-all.at all (ended all _ c.loop-all.at c.in_ok-rows.ensures.some none))

pub loop-all-smaller : goal.loop-all-smaller
loop-all-smaller g c =
    let sum : c.in_ok-at.at ≡ c.loop-all.at + length c.in_ok-rows.rows.items = grind arith in
    let some : 0 < length c.in_ok-rows.rows.items = grind (arith, nat_tests) in
    let most = at_most c.args.place (rows_of (dirs_of c.args.world.now) c.args.folder c.args.place) c.in_ok-rows.rows.items c.loop-all.at
    c.in_ok-rows.ensures.each some in
    omega (arith, sum, some, most)

pub loop-all-preserved : goal.loop-all-preserved
loop-all-preserved g c =
    let all = rows_of (dirs_of c.args.world.now) c.args.folder c.args.place in
    let rows = c.in_ok-rows.rows.items in
    let sum : c.in_ok-at.at ≡ c.loop-all.at + length rows = grind arith in
    record {
      entries = c.in_ok-is_in_order.ensures.entries
          ∙ (λ i. c.loop-all.invariant.entries i ++ entries_of c.args.place (c.deref.ensures.value i))
          ∙ sym (many_more c.args.place all rows c.loop-all.at c.in_ok-rows.ensures.each) ∙ ap (λ n. entries_of c.args.place (take n all)) (sym sum);
      order = λ yes. c.in_ok-is_in_order.ensures.order yes c.loop-all.invariant.order;
    }

use Rattle.std.proofs.Common.{ℕ, ap, sym, ◌∙◌, arith, ◌+◌, ◌-◌, ◌/◌}
use Rattle.md_dirs.proofs.Sorted.{all_below-to, at-row, gap-between}
use Rattle.md_dirs.specs.Path.{path_of, path_cmp}
use Rattle.md_dirs.specs.declared.paths.Path.{Path}
use Rattle.md_dirs.proofs.PathOrder.{path_total, path_exact}
use Rattle.md_dirs.proofs.plain.search.find_name.Goals as goal

pub loop-low-preserved-in-Less : goal.loop-low-preserved-in-Less
loop-low-preserved-in-Less c =
    let p = path_of c.args.folder c.args.place c.args.name.now in
    let row = c.index-rows-middle in
    record {
      ordered = omega arith;
      within = c.loop-low.invariant.within;
      below = all_below-to path_total path_exact c.args.rows.now p (c.loop-low.low + (c.loop-low.high - c.loop-low.low) / 2) row.result c.requires
          (omega arith) row.is
          (ap (λ (e : Path × ℕ). path_cmp e.0 p) row.is ∙ sym c.compare.ensures ∙ c.in-Less.is);
      above = c.loop-low.invariant.above;
    }

pub returns-in-Equal-clause-found : goal.returns-in-Equal-clause-found
returns-in-Equal-clause-found c =
    let p = path_of c.args.folder c.args.place c.args.name.now in
    let row = c.index-rows-middle in
    at-row path_total path_exact c.args.rows.now p (c.loop-low.low + (c.loop-low.high - c.loop-low.low) / 2) row.result c.requires (omega arith) row.is
    (ap (λ (e : Path × ℕ). path_cmp e.0 p) row.is ∙ sym c.compare.ensures ∙ c.in-Equal.is)

pub returns-clause-absent : goal.returns-clause-absent
returns-clause-absent c =
    gap-between path_total path_exact c.args.rows.now
    (path_of c.args.folder c.args.place c.args.name.now) c.loop-low.low c.loop-low.high c.requires c.loop-low.invariant.below
    (omega arith) c.loop-low.invariant.above

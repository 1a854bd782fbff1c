use Rattle.std.proofs.Common.{Some, slice_get, sym, ap, subst, ◌∙◌, IsSome}
use Rattle.std.specs.Option.{option_map}
use Rattle.std.specs.FinMap as finmap
use Rattle.md_dirs.specs.State.{file_by}
use Rattle.md_dirs.specs.Files.{files_of, name_row}
use Rattle.md_dirs.specs.Slots.{slots_of}
use Rattle.md_dirs.specs.Index.{IsOrderOf}
use Rattle.md_dirs.proofs.NameRows.{Row}
use Rattle.md_dirs.proofs.Least.{alone, all-got}
use Rattle.md_dirs.proofs.index.names.Names.row_at.Goals as goal

pub row_in_order-requires : goal.row_in_order-requires
row_in_order-requires c =
    let shown = c.is_arranged.ensures c.if-is_arranged.true in
    subst (IsOrderOf c.self.inside.table.keys) (c.deref.ensures.value ∙ sym c.deref-then-is_arranged.ensures.value) shown.1

pub returns-in_err-row-clause-row : goal.returns-in_err-row-clause-row
returns-in_err-row-clause-row c =
    let view = alone c.self.inside.table.keys c.self.inside.others.entries (c.is_arranged.ensures c.if-is_arranged.true).0 ∙ c.self.view_is in
    c.from_residual.ensures ∙
    ap (option_map (name_row (files_of (slots_of c.args.slots.now)))) (c.in_err-row.ensures ∙ ap (λ m. slice_get (finmap.entries m) c.args.at) view)

pub shown-requires : goal.shown-requires
shown-requires c =
    let view = alone c.self.inside.table.keys c.self.inside.others.entries (c.is_arranged.ensures c.if-is_arranged.true).0 ∙ c.self.view_is in
    all-got (λ (r : Row). IsSome (file_by (files_of (slots_of c.args.slots.now)) r.1)) (finmap.entries c.args.self.now) c.args.at c.in_ok-row.row.now
    c.requires (sym (c.in_ok-row.ensures ∙ ap (λ m. slice_get (finmap.entries m) c.args.at) view))

pub returns-then-is_arranged-clause-row : goal.returns-then-is_arranged-clause-row
returns-then-is_arranged-clause-row c =
    let view = alone c.self.inside.table.keys c.self.inside.others.entries (c.is_arranged.ensures c.if-is_arranged.true).0 ∙ c.self.view_is in
    ap Some c.shown.ensures ∙
    ap (option_map (name_row (files_of (slots_of c.args.slots.now)))) (c.in_ok-row.ensures ∙ ap (λ m. slice_get (finmap.entries m) c.args.at) view)

pub shown_row-requires : goal.shown_row-requires
shown_row-requires c =
    all-got (λ (r : Row). IsSome (file_by (files_of (slots_of c.args.slots.now)) r.1)) (finmap.entries c.args.self.now) c.args.at
    (c.in_ok-name.name.now, c.in_ok-name.file) c.requires
    (sym (c.in_ok-name.ensures ∙ ap (λ m. slice_get (finmap.entries m) c.args.at) c.self.view_is))

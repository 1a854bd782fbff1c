use Rattle.std.proofs.Common.{Some, sym, ap, ◌∙◌, IsSome}
use Rattle.std.specs.Option.{option_map}
use Rattle.std.specs.FinMap as finmap
use Rattle.md_dirs.specs.State.{file_by}
use Rattle.md_dirs.specs.Files.{files_of, name_row}
use Rattle.md_dirs.specs.Slots.{slots_of}
use Rattle.md_dirs.specs.Rows.{is_named}
use Rattle.md_dirs.proofs.NameRows.{Row}
use Rattle.md_dirs.proofs.Zones.{found-among}
use Rattle.md_dirs.proofs.Least.{passed, alone, all-got}
use Rattle.std.proofs.lemmas.List.{nil_from_length}
use Rattle.md_dirs.proofs.index.names.Names.look.Goals as goal

pub shown_row-requires : goal.shown_row-requires
shown_row-requires c =
    let u = c.args.unique.now in
    let Filed = λ (r : Row). IsSome (file_by (files_of (slots_of c.args.slots.now)) r.1) in
    let es = finmap.entries c.args.self.now in
    found-among u Filed es (c.in_ok-name.name.now, c.in_ok-name.file) (λ i r is. all-got Filed es i r c.requires is)
    (c.in_ok-name.ensures ∙ ap (λ m. passed (is_named u) (finmap.entries m)) c.self.view_is)

pub row_named-requires : goal.row_named-requires
row_named-requires c = sym c.has_info.ensures ∙ c.if-has_info.false

pub returns-in_err-row : goal.returns-in_err-row
returns-in_err-row c =
    let none = nil_from_length c.self.inside.others.entries (c.is_empty.ensures.0 c.if-not-is_empty.false) in
    let view = alone c.self.inside.table.keys c.self.inside.others.entries none ∙ c.self.view_is in
    c.from_residual-in_err-row.ensures ∙
    ap (option_map (name_row (files_of (slots_of c.args.slots.now)))) (c.in_err-row.ensures ∙ (λ i. passed (is_named (c.lent-key.ensures i).0) (finmap.entries (view i))))

pub shown-requires : goal.shown-requires
shown-requires c =
    let none = nil_from_length c.self.inside.others.entries (c.is_empty.ensures.0 c.if-not-is_empty.false) in
    let view = alone c.self.inside.table.keys c.self.inside.others.entries none ∙ c.self.view_is in
    let Filed = λ (r : Row). IsSome (file_by (files_of (slots_of c.args.slots.now)) r.1) in
    let es = finmap.entries c.args.self.now in
    found-among c.args.unique.now Filed es c.in_ok-row.row.now (λ i r is. all-got Filed es i r c.requires is)
    (c.in_ok-row.ensures ∙ (λ i. passed (is_named (c.lent-key.ensures i).0) (finmap.entries (view i))))

pub returns : goal.returns
returns c =
    let none = nil_from_length c.self.inside.others.entries (c.is_empty.ensures.0 c.if-not-is_empty.false) in
    let view = alone c.self.inside.table.keys c.self.inside.others.entries none ∙ c.self.view_is in
    ap Some c.shown.ensures ∙
    ap (option_map (name_row (files_of (slots_of c.args.slots.now)))) (c.in_ok-row.ensures ∙ (λ i. passed (is_named (c.lent-key.ensures i).0) (finmap.entries (view i))))

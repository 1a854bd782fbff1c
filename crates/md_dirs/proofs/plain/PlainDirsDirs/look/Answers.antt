use Rattle.std.proofs.Common.{◌∙◌, sym, ap, IsSome}
use Rattle.std.specs.Option.{option_map}
use Rattle.md_dirs.specs.State.{file_by}
use Rattle.md_dirs.specs.Rows.{row_named}
use Rattle.md_dirs.specs.Index.{rows_in}
use Rattle.md_dirs.specs.Files.{files_of, name_row}
use Rattle.md_dirs.proofs.Hashed.{row-filed, rows-shown}
use Rattle.md_dirs.proofs.Zones.{found-among, row_named-map}
use Rattle.md_dirs.specs.Slots.{slots_of}
use Rattle.md_dirs.proofs.plain.PlainDirsDirs.look.Goals as goal

pub returns-in_err-name : goal.returns-in_err-name
returns-in_err-name c =
    let s = c.self.inside in
    rw (c.from_residual.ensures, ← c.self.view_is)
    (ap (option_map (name_row (files_of (slots_of s.slots)))) c.in_err-name.ensures
    ∙ sym (ap (row_named c.args.unique.now) (rows-shown _ _ _ c.self.invariant c.args.folder c.args.place) ∙
    row_named-map c.args.unique.now (files_of (slots_of s.slots)) (rows_in s.names c.args.folder c.args.place)))

pub shown_row-requires : goal.shown_row-requires
shown_row-requires c =
    let s = c.self.inside in
    found-among c.args.unique.now (λ x. IsSome (file_by (files_of (slots_of s.slots)) x.1)) (rows_in s.names c.args.folder c.args.place)
    (c.in_ok-name.name.now, c.in_ok-name.file) (row-filed _ _ _ c.self.invariant c.args.folder c.args.place) c.in_ok-name.ensures

pub returns : goal.returns
returns c =
    let s = c.self.inside in
    rw (c.shown_row.ensures, ← c.self.view_is)
    (ap (option_map (name_row (files_of (slots_of s.slots)))) c.in_ok-name.ensures
    ∙ sym (ap (row_named c.args.unique.now) (rows-shown _ _ _ c.self.invariant c.args.folder c.args.place) ∙
    row_named-map c.args.unique.now (files_of (slots_of s.slots)) (rows_in s.names c.args.folder c.args.place)))

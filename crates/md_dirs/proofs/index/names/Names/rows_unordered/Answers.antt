use Rattle.std.proofs.Common.{◌≡◌, ◌++◌, ◌∙◌, IsPermutation, IsSome, sym, ap, subst, map}
use Rattle.std.proofs.lemmas.List.{map-append}
use Rattle.std.proofs.lemmas.List.Sorted.{IsPermutation-map}
use Rattle.std.specs.FinMap as finmap
use Rattle.md_dirs.specs.State.{file_by}
use Rattle.md_dirs.specs.Files.{files_of, name_row}
use Rattle.md_dirs.specs.Slots.{slots_of}
use Rattle.md_dirs.proofs.Lent.{if-ok}
use Rattle.md_dirs.proofs.Lying.{lying, of-rows, of-others}
use Rattle.md_dirs.proofs.NameRows.{Row}
use Rattle.md_dirs.proofs.index.names.Names.rows_unordered.Goals as goal

pub with_rows-requires : goal.with_rows-requires
with_rows-requires c =
    let rows = c.self.inside.table.keys in
    let others = c.self.inside.others.entries in
    of-rows rows others c.args.self.now c.len.ensures.unique c.len-2.ensures.unique c.self.invariant.apart c.self.view_is
    (λ (e : Row). IsSome (file_by (files_of (slots_of c.args.slots.now)) e.1)) c.requires

pub with_others-requires : goal.with_others-requires
with_others-requires c =
    let rows = c.self.inside.table.keys in
    let others = c.self.inside.others.entries in
    of-others rows others c.args.self.now c.len.ensures.unique c.len-2.ensures.unique c.self.invariant.apart c.self.view_is
    (λ (e : Row). IsSome (file_by (files_of (slots_of c.args.slots.now)) e.1)) c.requires

pub returns : goal.returns
returns c =
    let rows = c.self.inside.table.keys in
    let others = c.self.inside.others.entries in
    let row = name_row (files_of (slots_of c.args.slots.now)) in
    let first : c.in_ok-lent.lent.items ≡ map row rows =
    c.in_ok-lent.ensures ∙ ap (λ lent. lent ++ map row rows) c.in_ok-room.ensures.items in
    if-ok c.with_others.result
    (λ lent shown. subst (IsPermutation (map row (finmap.entries c.args.self.now)))
    (sym (shown ∙ ap (λ shown. shown ++ map row others) first ∙ sym (map-append row rows others)))
    (IsPermutation-map row (finmap.entries c.args.self.now) (rows ++ others)
    (lying rows others c.args.self.now c.len.ensures.unique c.len-2.ensures.unique c.self.invariant.apart c.self.view_is)))
    c.with_others.ensures

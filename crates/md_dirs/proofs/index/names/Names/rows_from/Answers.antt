use Rattle.std.proofs.Common.{◌≡◌, ◌∙◌, sym, ap, subst, map, drop, length, All, IsSome}
use Rattle.std.proofs.lemmas.List.Elements.{All-take, All-drop}
use Rattle.std.specs.FinMap as finmap
use Rattle.std.specs.List.{IsDistinct}
use Rattle.std.specs.Map.{keys_of}
use Rattle.md_dirs.specs.State.{file_by}
use Rattle.md_dirs.specs.Lent.{AreNext}
use Rattle.md_dirs.specs.Least.{lent_row}
use Rattle.md_dirs.specs.Files.{files_of, name_row}
use Rattle.md_dirs.specs.Slots.{slots_of}
use Rattle.md_dirs.specs.Index.{name_cmp, rows_at}
use Rattle.md_dirs.proofs.Alike.{distinct-all}
use Rattle.md_dirs.proofs.Arranged.{arranged-lists}
use Rattle.md_dirs.proofs.NameRows.{Row, same}
use Rattle.md_dirs.proofs.Lent.{if-ok, rows-part, next-rows, rest-next}
use Rattle.md_dirs.proofs.index.names.Names.rows_from.Goals as goal

pub lent_rows-requires-clause-filed : goal.lent_rows-requires-clause-filed
lent_rows-requires-clause-filed c =
    let es = c.self.inside.table.keys in
    let order = c.self.inside.order.items in
    let ps = c.next_of.result.now in
    let Filed = λ (e : Row). IsSome (file_by (files_of (slots_of c.args.slots.now)) e.1) in
    let made = c.is_arranged.ensures c.if-is_arranged.true in
    let lists : rows_at es c.deref.result.now ≡ finmap.entries c.args.self.now =
    arranged-lists es c.self.inside.others.entries c.deref.result.now c.args.self.now made.0 made.1 c.self.view_is in
    let listed : rows_at es c.deref-then-is_arranged.result.now ≡ finmap.entries c.args.self.now =
    ap (rows_at es) (c.deref-then-is_arranged.ensures.value ∙ sym c.deref.ensures.value) ∙ lists in
    subst (All Filed) (sym (rows-part es c.deref-then-is_arranged.result.now ps c.args.from c.next_of.ensures.rest))
    (All-take Filed (length ps) _ (All-drop Filed c.args.from _ (subst (All Filed) (sym listed) c.requires)))

pub returns-then-is_arranged : goal.returns-then-is_arranged
returns-then-is_arranged c =
    let es = c.self.inside.table.keys in
    let files = files_of (slots_of c.args.slots.now) in
    let made = c.is_arranged.ensures c.if-is_arranged.true in
    let lists : rows_at es c.deref.result.now ≡ finmap.entries c.args.self.now =
    arranged-lists es c.self.inside.others.entries c.deref.result.now c.args.self.now made.0 made.1 c.self.view_is in
    let listed : rows_at es c.deref-then-is_arranged.result.now ≡ finmap.entries c.args.self.now =
    ap (rows_at es) (c.deref-then-is_arranged.ensures.value ∙ sym c.deref.ensures.value) ∙ lists in
    if-ok c.lent_rows.result
    (λ lent shown. subst (λ all. AreNext (map (name_row files) all) c.args.from lent.items) listed
    (next-rows es c.deref-then-is_arranged.result.now c.next_of.result.now c.args.from c.next_of.ensures.rest files lent.items
    c.next_of.ensures.some shown))
    c.lent_rows.ensures

pub sorted_rows-requires-clause-distinct : goal.sorted_rows-requires-clause-distinct
sorted_rows-requires-clause-distinct c =
    let rows = c.self.inside.table.keys in
    let others = c.self.inside.others.entries in
    subst (λ es. IsDistinct same (keys_of es)) (sym (ap (map lent_row) c.deref-2.ensures.value ∙ c.in_ok-rows.ensures.rows))
    (distinct-all rows others c.all_rows.ensures.unique.0 c.all_rows.ensures.unique.1 c.self.invariant.apart)

pub sorted_rows-requires-clause-filed : goal.sorted_rows-requires-clause-filed
sorted_rows-requires-clause-filed c =
    let Filed = λ (e : Row). IsSome (file_by (files_of (slots_of c.args.slots.now)) e.1) in
    let made = ap (map lent_row) c.deref-2.ensures.value ∙ c.in_ok-rows.ensures.rows in
    subst (All Filed) (ap finmap.entries (sym c.self.view_is) ∙ ap (λ es. finmap.entries {R = name_cmp} (finmap.from_entries es)) (sym made)) c.requires

pub returns : goal.returns
returns c =
    let files = files_of (slots_of c.args.slots.now) in
    let made = ap (map lent_row) c.deref-2.ensures.value ∙ c.in_ok-rows.ensures.rows in
    let listed : finmap.entries {R = name_cmp} (finmap.from_entries (map lent_row c.deref-2.result.now)) ≡ finmap.entries c.args.self.now =
    ap (λ es. finmap.entries {R = name_cmp} (finmap.from_entries es)) made ∙ ap finmap.entries c.self.view_is in
    if-ok c.sorted_rows.result
    (λ lent shown. rest-next (map (name_row files) (finmap.entries c.args.self.now)) lent.items c.args.from
    (shown ∙ ap (λ es. drop c.args.from (map (name_row files) es)) listed))
    c.sorted_rows.ensures

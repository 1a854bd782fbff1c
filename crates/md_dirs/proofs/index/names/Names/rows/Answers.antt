use Rattle.std.proofs.Common.{◌≡◌, ◌++◌, ◌<◌, length, map, arith, ap, subst, ◌∙◌}
use Rattle.std.proofs.lemmas.Bool.Decides.{nat_tests}
use Rattle.std.specs.FinMap as finmap
use Rattle.md_dirs.specs.Files.{files_of, name_row}
use Rattle.md_dirs.specs.Slots.{slots_of}
use Rattle.md_dirs.specs.Lent.{AreNext}
use Rattle.md_dirs.proofs.Lent.{gathered, fewer-left, all-gathered}
use Rattle.md_dirs.proofs.index.names.Names.rows.Goals as goal

pub loop-shown-preserved : goal.loop-shown-preserved
loop-shown-preserved c =
    let all = map (name_row (files_of (slots_of c.args.slots.now))) (finmap.entries c.args.self.now) in
    let shown = c.loop-shown.shown.items in
    let rows = c.in_ok-lent.lent.items in
    let next : AreNext all (length shown) rows = subst (λ n. AreNext all n rows) (c.len.ensures ∙ c.loop-shown.shown.ok.0) c.in_ok-lent.ensures in
    gathered all shown rows next c.push_copies.new.shown.items c.loop-shown.invariant
    (c.in_ok-push_copies.ensures ∙ ap (λ x. shown ++ x) c.deref.ensures.value)

pub loop-shown-smaller : goal.loop-shown-smaller
loop-shown-smaller c =
    let all = map (name_row (files_of (slots_of c.args.slots.now))) (finmap.entries c.args.self.now) in
    let shown = c.loop-shown.shown.items in
    let rows = c.in_ok-lent.lent.items in
    let next : AreNext all (length shown) rows = subst (λ n. AreNext all n rows) (c.len.ensures ∙ c.loop-shown.shown.ok.0) c.in_ok-lent.ensures in
    let some : 0 < length rows = grind (arith, nat_tests) in
    fewer-left all shown rows next c.push_copies.new.shown.items some
    (c.in_ok-push_copies.ensures ∙ ap (λ x. shown ++ x) c.deref.ensures.value)

pub returns-then-is_empty : goal.returns-then-is_empty
returns-then-is_empty c =
    let all = map (name_row (files_of (slots_of c.args.slots.now))) (finmap.entries c.args.self.now) in
    let shown = c.loop-shown.shown.items in
    let rows = c.in_ok-lent.lent.items in
    let next : AreNext all (length shown) rows = subst (λ n. AreNext all n rows) (c.len.ensures ∙ c.loop-shown.shown.ok.0) c.in_ok-lent.ensures in
    let none : length rows ≡ 0 = grind (arith, nat_tests) in
    all-gathered all shown rows next c.loop-shown.invariant none

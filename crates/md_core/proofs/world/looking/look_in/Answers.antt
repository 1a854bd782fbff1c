use Rattle.std.proofs.Common.{◌≡◌, ◌⊎◌, ◌+◌, ◌<◌, Some, rules, inl, inr, length, sym, subst, arith}
use Rattle.std.proofs.Common.{append-nil}
use Rattle.std.proofs.lemmas.Bool.Decides.{nat_tests}
use Rattle.std.proofs.lemmas.Option.{slice_get_past}
use Rattle.md_core.proofs.Values.{rows_of, load_refusal, IsLookOf}
use Rattle.md_jobs.specs.declared.error.CoreError.TheVariants.{NoMemory}
use Rattle.md_core.proofs.Worlds.Loading.Rows.{entries_until, until-row, until-all, refused-row}
use Rattle.md_core.proofs.Worlds.Loading.Lent.{lent-at, ended, at-most}
use Rattle.md_core.proofs.world.looking.look_in.Goals as goal

pub loop-rows-init : goal.loop-rows-init
loop-rows-init g c = subst (λ es. IsLookOf (g.D.Dirs.device c.args.dirs.now).state es c.args.seen.now) (sym (append-nil _)) c.requires

pub returns-then-is_empty-clause-ok : goal.returns-then-is_empty-clause-ok
returns-then-is_empty-clause-ok g c =
    let s = (g.D.Dirs.device c.args.dirs.now).state in
    let all = rows_of s c.args.folder c.args.place in
    let none : length c.in_ok-rows.rows.items ≡ 0 = grind (arith, nat_tests) in
    let past = slice_get_past all c.loop-rows.at (ended all _ c.loop-rows.at c.in_ok-rows.ensures.some none) in
    subst (λ es. IsLookOf s es c.loop-rows.seen) (until-all s c.args.folder c.args.place c.loop-rows.at past) c.loop-rows.invariant

pub loop-row-init : goal.loop-row-init
loop-row-init g c =
    let s = (g.D.Dirs.device c.args.dirs.now).state in
    let same : c.loop-rows.at ≡ c.loop-rows.at + 0 = omega arith in
    subst (λ n. IsLookOf s (entries_until s c.args.folder c.args.place n) c.loop-rows.seen) same c.loop-rows.invariant

pub returns-in_err-add-clause-refused : goal.returns-in_err-add-clause-refused
returns-in_err-add-clause-refused g c =
    let s = (g.D.Dirs.device c.args.dirs.now).state in
    let rows = c.in_ok-rows.rows.items in
    let within : c.loop-row.row < length rows = omega (arith, c.loop-row-test.true, c.len-row-end.ensures, c.in_ok-rows.rows.ok.0) in
    let is = lent-at (rows_of s c.args.folder c.args.place) c.loop-rows.at rows c.in_ok-rows.ensures c.loop-row.row c.index.result.now within c.index.ensures in
    let refused = refused-row s c.args.folder c.args.place (c.loop-rows.at + c.loop-row.row) c.index.result.now c.loop-row.seen c.loop-row.invariant
    is c.in_err-add.field-0.0 in
    let either : (c.in_err-add.field-0.0 ≡ NoMemory) ⊎ (load_refusal s ≡ Some c.in_err-add.field-0.0) =
    elim c.in_err-add.ensures.fault [ inl wanting ↦ inl wanting | inr fault ↦ inr (refused fault) ] in
    search (rules, either)

pub loop-row-preserved : goal.loop-row-preserved
loop-row-preserved g c =
    let s = (g.D.Dirs.device c.args.dirs.now).state in
    let rows = c.in_ok-rows.rows.items in
    let within : c.loop-row.row < length rows = omega (arith, c.loop-row-test.true, c.len-row-end.ensures, c.in_ok-rows.rows.ok.0) in
    let is = lent-at (rows_of s c.args.folder c.args.place) c.loop-rows.at rows c.in_ok-rows.ensures c.loop-row.row c.index.result.now within c.index.ensures in
    let next : c.loop-rows.at + c.loop-row.row + 1 ≡ c.loop-rows.at + (c.loop-row.row + 1) = omega arith in
    subst (λ n. IsLookOf s (entries_until s c.args.folder c.args.place n) c.add.new.self) next
    (until-row s c.args.folder c.args.place (c.loop-rows.at + c.loop-row.row) c.index.result.now c.loop-row.seen c.loop-row.invariant is
    c.add.new.self
    c.in_ok-add.ensures.fault c.in_ok-add.ensures.messages c.in_ok-add.ensures.tmp c.in_ok-add.ensures.clock)

pub loop-rows-smaller : goal.loop-rows-smaller
loop-rows-smaller g c =
    let s = (g.D.Dirs.device c.args.dirs.now).state in
    let rows = c.in_ok-rows.rows.items in
    let sum : c.in_ok-at.at ≡ c.loop-rows.at + length rows = grind arith in
    let some : 0 < length rows = grind (arith, nat_tests) in
    let most = at-most (rows_of s c.args.folder c.args.place) rows c.loop-rows.at c.in_ok-rows.ensures.each some in
    omega (arith, sum, some, most)

pub loop-rows-preserved : goal.loop-rows-preserved
loop-rows-preserved g c =
    let s = (g.D.Dirs.device c.args.dirs.now).state in
    let sum : c.loop-rows.at + c.loop-row.row ≡ c.in_ok-at.at = grind (arith, c.loop-row-test.false, c.loop-row.auto.row-end, c.len-row-end.ensures) in
    subst (λ n. IsLookOf s (entries_until s c.args.folder c.args.place n) c.loop-row.seen) sum c.loop-row.invariant

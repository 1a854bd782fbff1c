use Rattle.std.proofs.Common.{◌≡◌, ◌∙◌, ◌<◌, Bool, true, false, is_none, ap, length, slice_set, arith, if◌then◌else◌}
use Rattle.std.proofs.lemmas.Result.{err_from_is_err_and}
use Rattle.std.specs.FinMap as finmap
use Rattle.md_dirs.specs.Index.{names_of}
use Rattle.md_dirs.proofs.Directories.{same-names, get-at, kept-at, put-at}
use Rattle.md_dirs.proofs.index.tree.TreePaths.add.Goals as goal

pub returns-in_err-make_directory-clause-err : goal.returns-in_err-make_directory-clause-err
returns-in_err-make_directory-clause-err c =
    let p = err_from_is_err_and c.from_residual.result c.from_residual.ensures.1 in
    rw (p.1, ← c.self.view_is) (same-names c.self.inside.directories.items c.make_directory.new.directories.items c.in_err-make_directory.ensures.same)

pub returns-in_err-is_new-clause-err : goal.returns-in_err-is_new-clause-err
returns-in_err-is_new-clause-err c =
    let u = c.make_directory.new.directories in
    let d = c.index_mut-directory in
    let p = err_from_is_err_and c.from_residual-in_err-is_new.result c.from_residual-in_err-is_new.ensures.1 in
    rw (p.1, ← c.self.view_is)
    (kept-at c.self.inside.directories.items u.items c.in_ok-make_directory.ensures.same c.number_of-number.result d.result.now c.add.new.self
    (omega (arith, u.ok.0, c.in_ok-make_directory.ensures.there)) d.ensures.value c.in_err-is_new.ensures.err)

pub returns-clause-new : goal.returns-clause-new
returns-clause-new c =
    let u = c.make_directory.new.directories in
    let n = c.number_of-number in
    let d = c.index_mut-directory in
    let within : n.result < length u.items = omega (arith, u.ok.0, c.in_ok-make_directory.ensures.there) in
    c.in_ok-is_new.ensures.new ∙ ap is_none
    (get-at c.self.inside.directories.items u.items c.in_ok-make_directory.ensures.same n.result d.result.now c.add.new.self within d.ensures.value
    c.args.path.now c.as_slice.result.now n.ensures.number c.as_slice.ensures
    ∙ ap (λ m. finmap.get m c.args.path.now) c.self.view_is)

pub returns-clause-ok : goal.returns-clause-ok
returns-clause-ok c =
    let t = c.self.inside.directories in
    let u = c.make_directory.new.directories in
    let p = c.args.path.now in
    let n = c.number_of-number in
    let d = c.index_mut-directory in
    let same = c.in_ok-make_directory.ensures.same in
    let within : n.result < length u.items = omega (arith, u.ok.0, c.in_ok-make_directory.ensures.there) in
    let es = slice_set u.items n.result c.add.new.self in
    let by : (b : Bool) → c.add.new.self ≡ (if b then finmap.insert d.result.now c.as_slice.result.now c.args.file else d.result.now)
    → names_of es ≡ (if b then finmap.insert (names_of t.items) p c.args.file else names_of t.items) = λ b.
    elim b as (λ b. c.add.new.self ≡ (if b then finmap.insert d.result.now c.as_slice.result.now c.args.file else d.result.now)
    → names_of es ≡ (if b then finmap.insert (names_of t.items) p c.args.file else names_of t.items)) [
      | true ↦ put-at t.items u.items same n.result d.result.now c.add.new.self within d.ensures.value p c.as_slice.result.now n.ensures.number
          c.as_slice.ensures c.args.file
      | false ↦ kept-at t.items u.items same n.result d.result.now c.add.new.self within d.ensures.value
    ] in
    rw (← c.self.view_is) (by c.in_ok-is_new.is_new c.in_ok-is_new.ensures.ok)

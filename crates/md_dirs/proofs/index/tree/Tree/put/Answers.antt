use Rattle.std.proofs.Common.{◌<◌, length, arith}
use Rattle.std.proofs.lemmas.Result.{err_from_is_err_and}
use Rattle.md_dirs.proofs.Directories.{same-names, kept-at, put-at}
use Rattle.md_dirs.proofs.index.tree.Tree.put.Goals as goal

pub returns-in_err-make_directory-clause-err : goal.returns-in_err-make_directory-clause-err
returns-in_err-make_directory-clause-err c =
    let p = err_from_is_err_and c.from_residual.result c.from_residual.ensures.1 in
    rw (p.1, ← c.self.view_is) (same-names c.self.inside.directories.items c.make_directory.new.directories.items c.in_err-make_directory.ensures.same)

pub returns-in_err-put-clause-err : goal.returns-in_err-put-clause-err
returns-in_err-put-clause-err c =
    let u = c.make_directory.new.directories in
    let d = c.index_mut-directory in
    let p = err_from_is_err_and c.from_residual-in_err-put.result c.from_residual-in_err-put.ensures.1 in
    rw (p.1, ← c.self.view_is)
    (kept-at c.self.inside.directories.items u.items c.in_ok-make_directory.ensures.same c.number_of-number.result d.result.now c.put.new.self
    (omega (arith, u.ok.0, c.in_ok-make_directory.ensures.there)) d.ensures.value c.in_err-put.ensures.err)

pub returns-clause-ok : goal.returns-clause-ok
returns-clause-ok c =
    let u = c.make_directory.new.directories in
    let n = c.number_of-number in
    let d = c.index_mut-directory in
    let within : n.result < length u.items = omega (arith, u.ok.0, c.in_ok-make_directory.ensures.there) in
    rw (← c.self.view_is)
    (put-at c.self.inside.directories.items u.items c.in_ok-make_directory.ensures.same n.result d.result.now c.put.new.self within d.ensures.value
    c.args.path.now c.as_slice.result.now n.ensures.number c.as_slice.ensures c.args.file c.in_ok-put.ensures.ok)

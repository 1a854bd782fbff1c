use Rattle.std.proofs.Common.{◌∙◌, ◌≤◌, ◌<◌, sym, refl, length, arith}
use Rattle.md_dirs.specs.Index.{directory_number}
use Rattle.md_dirs.proofs.Directories.{none-past, get-at, kept-at}
use Rattle.md_dirs.proofs.index.tree.Tree.find_file.Goals as goal

pub returns-then-number-len-clause-file : goal.returns-then-number-len-clause-file
returns-then-number-len-clause-file c =
    let t = c.self.inside.directories in
    let past : length t.items ≤ directory_number c.args.path.now.folder c.args.path.now.place = omega (arith, t.ok.0, c.number_of-number.ensures.number) in
    rw (← c.self.view_is) (sym (none-past t.items c.args.path.now past))

pub returns-clause-file : goal.returns-clause-file
returns-clause-file c =
    let t = c.self.inside.directories in
    let n = c.number_of-number in
    let d = c.index_mut-directory in
    let within : n.result < length t.items = omega (arith, t.ok.0) in
    rw (← c.self.view_is)
    (c.find_file.ensures.file ∙ get-at t.items t.items (λ _. refl) n.result d.result.now c.find_file.new.self within d.ensures.value c.args.path.now
    c.as_slice.result.now n.ensures.number c.as_slice.ensures)

pub returns-clause-same : goal.returns-clause-same
returns-clause-same c =
    let t = c.self.inside.directories in
    let d = c.index_mut-directory in
    rw (← c.self.view_is)
    (kept-at t.items t.items (λ _. refl) c.number_of-number.result d.result.now c.find_file.new.self (omega (arith, t.ok.0)) d.ensures.value
    c.find_file.ensures.same)

use Rattle.std.proofs.Common.{refl, arith}
use Rattle.md_dirs.proofs.Directories.{kept-at}
use Rattle.md_dirs.proofs.index.tree.Tree.arrange.Goals as goal

pub returns : goal.returns
returns c =
    let t = c.self.inside.directories in
    let d = c.index_mut-directory in
    rw (← c.self.view_is)
    (kept-at t.items t.items (λ _. refl) c.number_of-number.result d.result.now c.arrange.new.self (omega (arith, t.ok.0)) d.ensures.value c.arrange.ensures)

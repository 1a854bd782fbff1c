use Rattle.std.proofs.Common.{◌∙◌, ◌≤◌, ◌<◌, sym, refl, length, arith}
use Rattle.md_dirs.specs.Index.{directory_number}
use Rattle.md_dirs.proofs.Directories.{none-past, gone-past, get-at, take-at}
use Rattle.md_dirs.proofs.index.tree.Tree.take.Goals as goal

pub returns-then-number-len : goal.returns-then-number-len
returns-then-number-len c =
    let t = c.self.inside.directories in
    let p = c.args.path.now in
    let past : length t.items ≤ directory_number p.folder p.place = omega (arith, t.ok.0, c.number_of-number.ensures.number) in
    record {
      file = rw (← c.self.view_is) (sym (none-past t.items p past));
      gone = rw (← c.self.view_is) (gone-past t.items p past);
    }

pub returns : goal.returns
returns c =
    let t = c.self.inside.directories in
    let n = c.number_of-number in
    let d = c.index_mut-directory in
    let within : n.result < length t.items = omega (arith, t.ok.0) in
    record {
      file = rw (← c.self.view_is)
          (c.take.ensures.file ∙ get-at t.items t.items (λ _. refl) n.result d.result.now c.take.new.self within d.ensures.value c.args.path.now
          c.as_slice.result.now n.ensures.number c.as_slice.ensures);
      gone = rw (← c.self.view_is)
          (take-at t.items t.items (λ _. refl) n.result d.result.now c.take.new.self within d.ensures.value c.args.path.now c.as_slice.result.now
          n.ensures.number c.as_slice.ensures c.take.ensures.gone);
    }

use Rattle.std.proofs.Common.{◌≡◌, ◌∙◌, ◌<◌, sym, ap, length, arith}
use Rattle.std.specs.FinMap as finmap
use Rattle.md_dirs.specs.Index.{directory_number, directory_at}
use Rattle.md_dirs.proofs.Directories.{get-names, read-directory, rename-names}
use Rattle.md_dirs.proofs.index.tree.Tree.rename_free.Goals as goal

pub returns-then-branch-clause-free : goal.returns-then-branch-clause-free
returns-then-branch-clause-free c t =
    let d = c.self.inside.directories in
    let p = c.args.new.now in
    let n = c.number_of-number in
    let within : n.result < length d.items = omega (arith, d.ok.0) in
    let same : n.result ≡ directory_number p.folder p.place = c.if-number-number_of.true ∙ c.number_of.ensures.number in
    let read = read-directory d.items n.result c.index_mut-directory.result.now within c.index_mut-directory.ensures.value in
    rw (← c.self.view_is)
    (get-names d.items p ∙ ap (λ k. finmap.get (directory_at d.items k) p.name) (sym same)
    ∙ (λ i. finmap.get (read i) (sym c.as_slice-then-number-len.ensures i)) ∙ c.in_ok-rename.ensures.free c.if-branch.true)

pub returns-then-branch-clause-done : goal.returns-then-branch-clause-done
returns-then-branch-clause-done c t =
    let d = c.self.inside.directories in
    let o = c.args.old.now in
    let p = c.args.new.now in
    let n = c.number_of-number in
    let within : n.result < length d.items = omega (arith, d.ok.0) in
    let same : n.result ≡ directory_number p.folder p.place = c.if-number-number_of.true ∙ c.number_of.ensures.number in
    let read = read-directory d.items n.result c.index_mut-directory.result.now within c.index_mut-directory.ensures.value in
    let written : c.rename.new.self ≡ finmap.remove (finmap.insert (directory_at d.items n.result) p.name c.args.file) o.name =
    c.in_ok-rename.ensures.done c.if-branch.true ∙
    (λ i. finmap.remove (finmap.insert (sym read i) (c.as_slice-then-number-len.ensures i) c.args.file) (c.as_slice.ensures i)) in
    rw (← c.self.view_is) (rename-names d.items n.result c.rename.new.self o p c.args.file within n.ensures.number same written)

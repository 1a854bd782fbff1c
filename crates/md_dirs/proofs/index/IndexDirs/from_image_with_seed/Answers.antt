use Rattle.std.proofs.Common.{◌∙◌}
use Rattle.std.proofs.lemmas.Result.{err_from_is_err_and}
use Rattle.std.proofs.lemmas.Iterator.Adapters.{YieldsList-from_vec}
use Rattle.std.proofs.lemmas.Iterator.Consumers.{YieldsList-turn, YieldsList-so_far}
use Rattle.md_dirs.specs.State.{bare}
use Rattle.md_dirs.proofs.Filled.{one-more, one-accepted, refused-at}
use Rattle.md_dirs.proofs.index.IndexDirs.from_image_with_seed.Goals as goal

pub loop-file-preserved : goal.loop-file-preserved
loop-file-preserved c = record {
  made = one-more (bare c.args.folders) c.loop-file.dirs.state c.put_file.new.self.state c.loop-file.yielded c.in-Some.file c.loop-file.invariant.made
      c.in_ok-put_file.ensures.made.1;
  calls = c.put_file.ensures.calls ∙ c.loop-file.invariant.calls;
  accepted = one-accepted (bare c.args.folders) c.loop-file.dirs.state c.loop-file.yielded c.in-Some.file c.loop-file.invariant.made
      c.loop-file.invariant.accepted c.in_ok-put_file.ensures.made.0;
}

pub returns-in_err-put_file-clause-refused : goal.returns-in_err-put_file-clause-refused
returns-in_err-put_file-clause-refused c =
    let gives = c.into_iter-file-iterator.ensures.into_iter_gives in
    let vec = YieldsList-from_vec c.args.image.items gives.0 (gives.1 ∙ c.args.image.ok.0) in
    let so_far = YieldsList-so_far vec c.loop-file.yielded c.loop-file.file-iterator c.loop-file.yielded_by in
    let turn = YieldsList-turn vec c.loop-file.yielded c.loop-file.file-iterator c.loop-file.yielded_by c.next.result c.next.new.self c.in-Some.file
    c.in-Some.is c.next.ensures.steps in
    let p = err_from_is_err_and c.from_residual.result c.from_residual.ensures.1 in
    rw (p.1, p.2) (refused-at (bare c.args.folders) c.loop-file.dirs.state c.loop-file.yielded c.in-Some.file
    c.args.image.items c.in_err-put_file.field-0.0 c.loop-file.invariant.made c.loop-file.invariant.accepted so_far turn
    c.in_err-put_file.ensures.refused)

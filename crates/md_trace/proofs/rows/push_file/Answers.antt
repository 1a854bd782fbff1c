use Rattle.md_trace.proofs.Grown.{also, at_path, if_also, then_if}
use Rattle.md_trace.proofs.rows.push_file.Goals as goal

pub returns : goal.returns
returns c =
    let path = at_path c.push.ensures c.args.folder c.args.place c.args.row.now.name (rw c.name.ensures at c.push_path.ensures) in
    let stamp = rw c.stamp.ensures at c.push_seconds.ensures in
    if_also (then_if (also (also c.push.ensures path) c.push-2.ensures) stamp) c.push-3.ensures

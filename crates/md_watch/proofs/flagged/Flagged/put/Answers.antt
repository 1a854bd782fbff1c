use Rattle.std.proofs.Common.{sym}
use Rattle.md_watch.specs.declared.flagged.Flagged.{Flagged}
use Rattle.md_watch.proofs.Marking.{was-put}
use Rattle.md_watch.proofs.flagged.Flagged.put.Goals as goal

pub returns : goal.returns
returns c =
    let mid = c.lend-shown.new.self in
    let new : Flagged = record { alloc = mid.alloc; sets = c.insert.new.self } in
    was-put c.args.path.now c.in-Some.unique.now c.in-Some.word (sym c.in-Some.ensures)
    c.args.self.now mid new c.lend-shown.result c.put.new.self c.lend-shown.ensures c.in_ok-insert.ensures.updates c.in_ok-put.ensures

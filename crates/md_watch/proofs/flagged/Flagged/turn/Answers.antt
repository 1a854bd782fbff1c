use Rattle.std.proofs.Common.{sym, subst}
use Rattle.md_kept.specs.Files.{lent_as}
use Rattle.md_watch.specs.Flagged.{Turns}
use Rattle.md_watch.specs.declared.flagged.Flagged.{Flagged}
use Rattle.md_watch.proofs.Marking.{turns}
use Rattle.md_watch.proofs.flagged.Flagged.turn.Goals as goal

pub returns : goal.returns
returns c =
    let old = c.args.self.now in
    let mid = c.lend-shown.new.self in
    let new : Flagged = record { alloc = mid.alloc; sets = c.insert.new.self } in
    subst (λ o. Turns (lent_as o) c.args.comes c.args.now old new) (sym c.in-Some.is)
    (turns c.in-Some.path.now c.in-Some.field-0-1 c.in-Some-mark_of.unique.now c.in-Some-mark_of.word (sym c.in-Some-mark_of.ensures)
    c.args.now old mid new c.lend-shown.result c.turn.new.self c.lend-shown.ensures c.in_ok-insert.ensures.updates c.args.comes c.in_ok-turn.ensures)

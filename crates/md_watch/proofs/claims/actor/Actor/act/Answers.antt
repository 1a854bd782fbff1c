use Rattle.std.proofs.Common.{sym, subst, ◌∙◌}
use Rattle.md_log.specs.declared.line.Call.{Call}
use Rattle.md_watch.specs.Claims.{Does, act_by}
use Rattle.md_watch.proofs.Claiming.{act-undone}
use Rattle.md_watch.proofs.claims.actor.Actor.act.Goals as goal

pub returns-else-is_ok : goal.returns-else-is_ok
returns-else-is_ok c =
    let b = c.in-Between in
    subst (λ (k : Call). Does (act_by k c.args.now) c.args.self.now c.act_at-in-Between.new.self) (sym b.is)
    (act-undone b.naming b.old b.new b.reply c.args.now c.args.self.now c.act_at-in-Between.new.self
    (sym c.is_ok.ensures ∙ c.if-is_ok.false) c.in_ok-act_at-in-Between.ensures)

use Rattle.std.proofs.Common.{sym, subst, ◌∙◌}
use Rattle.md_watch.specs.Claims.{Does, change_by}
use Rattle.md_kept.specs.Files.{lent_as}
use Rattle.md_kept.proofs.Keys.{then}
use Rattle.md_watch.proofs.Claiming.{changes}
use Rattle.md_watch.proofs.claims.actor.Actor.change.Goals as goal

pub returns : goal.returns
returns c = then c.put_back.result
    (λ puts. subst (λ o. Does (change_by (lent_as o) c.args.was c.args.is c.args.is_unlink c.args.now) c.args.self.now c.put_back.new.self) (sym c.in-Some.is)
    (changes c.in-Some.path.now c.in-Some.field-0-1 c.in-Some-message_of.unique.now c.args.was c.args.is c.args.is_unlink c.args.now
    c.args.self.now c.take-at.new.self c.put_back.new.self c.take-at.result.1 c.change.new.self c.in-Some-message_of.ensures
    c.take-at.ensures.taken c.in_ok-change.ensures c.take-at.ensures.puts puts (c.put_back.ensures.first ∙ c.take-at.ensures.first)
    (c.put_back.ensures.told ∙ c.take-at.ensures.told) (c.put_back.ensures.looks ∙ c.take-at.ensures.looks)))
    c.put_back.ensures.puts

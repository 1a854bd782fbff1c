use Rattle.std.proofs.Common.{All, ◌++◌, ◌∷◌, [], sym, ap, ◌∙◌, subst}
use Rattle.std.proofs.lemmas.List.Elements.{All-push}
use Rattle.md_index.specs.Index.{IsBrought}
use Rattle.md_index.proofs.Deals.{admits, takes}
use Rattle.md_index.proofs.worker.work.Goals as goal

pub pass-seat-requires : goal.pass-seat-requires
pass-seat-requires g c = admits

pub steal_as-requires-clause-takes : goal.steal_as-requires-clause-takes
steal_as-requires-clause-takes g c = takes _ _

pub loop-preserved-in-Some-brought : goal.loop-preserved-in-Some-brought
loop-preserved-in-Some-brought g c =
    let is = c.loop.invariant.0 in
    let same = c.steal_as.ensures.same in (
      (same.0 ∙ is.0, same.1 ∙ is.1, same.3, same.4),
      subst (All (IsBrought c.args.messages.now))
          (sym (c.push_reserved.ensures.items ∙ ap (λ all. all ++ c.in-Some-brought.done ∷ []) c.reserve-in-loop.ensures.items))
          (All-push (IsBrought c.args.messages.now) c.loop.all.items c.in-Some-brought.done c.loop.invariant.1 c.in-Some-brought.ensures),
    )

pub returns-in-None-brought : goal.returns-in-None-brought
returns-in-None-brought g c = subst (All (IsBrought c.args.messages.now)) (sym c.reserve-in-loop.ensures.items) c.loop.invariant.1

pub returns-in-Empty : goal.returns-in-Empty
returns-in-Empty g c = subst (All (IsBrought c.args.messages.now)) (sym c.reserve-in-loop.ensures.items) c.loop.invariant.1

pub loop-preserved : goal.loop-preserved
loop-preserved g c =
    let is = c.loop.invariant.0 in
    let same = c.steal_as.ensures.same in
    ((same.0 ∙ is.0, same.1 ∙ is.1, same.3, same.4), subst (All (IsBrought c.args.messages.now)) (sym c.reserve-in-loop.ensures.items) c.loop.invariant.1)

use Rattle.std.proofs.Common.{take, Any, List, ◌+◌, ◌<◌, ◌≤◌, length, subst, arith}
use Rattle.std.proofs.lemmas.List.{take_all}
use Rattle.md_system.specs.Checks.{IsFlawOf}
use Rattle.md_system.specs.Gathering.{Tells}
use Rattle.md_system.specs.declared.seen.Seen.{Seen}
use Rattle.md_system.proofs.Telling.{any-more, tells-both}
use Rattle.md_system.proofs.flaws.push_seen.Goals as goal

pub loop-one-preserved : goal.loop-one-preserved
loop-one-preserved c =
    let all = c.args.seen.now in
    let one = c.one-item.result in
    let within : c.loop-one.one-index < length all = omega arith in
    tells-both (λ f. Any (λ (s : Seen). IsFlawOf all s f) (take c.loop-one.one-index all)) (IsFlawOf all one)
    (λ f. Any (λ (s : Seen). IsFlawOf all s f) (take (c.loop-one.one-index + 1) all)) _ _ _ c.loop-one.invariant c.in_ok-push_flaws.ensures
    (λ f. any-more (λ (s : Seen). IsFlawOf all s f) all c.loop-one.one-index one within c.one-item.is)

pub returns : goal.returns
returns c =
    let all = c.args.seen.now in
    let far : length all ≤ c.loop-one.one-index = omega arith in
    subst (λ (some : List Seen). Tells (λ f. Any (λ (s : Seen). IsFlawOf all s f) some) c.args.flaws.now.items c.loop-one.flaws.items)
    (take_all c.loop-one.one-index all far) c.loop-one.invariant

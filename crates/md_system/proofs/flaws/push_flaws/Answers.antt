use Rattle.std.proofs.Common.{ℕ, take, List, Contains, ◌≡◌, ◌+◌, ◌++◌, ◌∷◌, [], ◌<◌, get_or, refl, sym, ap, subst, ◌∙◌, arith}
use Rattle.md_system.specs.Checks.{Breaks, IsFlawOf}
use Rattle.md_system.specs.Gathering.{Tells}
use Rattle.md_system.specs.declared.flaw.Flaw.{Flaw}
use Rattle.md_system.specs.declared.flaw.FlawKind.TheVariants.{TwiceInFolder}
use Rattle.md_system.proofs.Telling.{renamed, told, told-all, told-more, told-none, seen_kinds, tells-as, tells-both, tells-pushed}
use Rattle.md_system.proofs.flaws.push_flaws.Goals as goal
use Rattle.md_system.proofs.flaws.push_flaws.Goals.{then-branch+in_ok-again+in_ok-push, else-branch}

pub loop-kind-preserved : goal.loop-kind-preserved
loop-kind-preserved c =
    let all = c.args.seen.now in
    let one = c.args.one.now in
    let i = c.loop-kind.kind-index in
    let kind = get_or seen_kinds i TwiceInFolder in
    let within : i < 9 = omega arith in
    let says = c.in_ok-breaks.ensures in
    let Told = λ (n : ℕ) (f : Flaw). IsFlawOf all one f × Contains (take n seen_kinds) f.kind in
    elim c.if-branch.branch [
      | then-branch+in_ok-again+in_ok-push w ↦
          let breaks : Breaks all one kind = says.0 w.if-branch.true in
          let pushed : c.if-branch.flaws.items ≡ c.loop-kind.flaws.items ++ told one kind ∷ [] =
          ap (λ v. v.items) w.flaws-is ∙ w.in_ok-push.ensures.items
          ∙ ap (λ (name : List ℕ). c.loop-kind.flaws.items ++ renamed (told one kind) name ∷ []) w.in_ok-again.ensures in
          tells-both (Told i) (λ f. told one kind ≡ f) (Told (i + 1)) _ _ _ c.loop-kind.invariant (tells-pushed _ _ (told one kind) pushed)
          (told-more all one seen_kinds i TwiceInFolder kind within refl breaks)
      | else-branch w ↦
          let none : Breaks all one kind → ⊥ = λ breaks. cc (says.1 breaks, w.if-branch.false) in
          subst (λ (flaws : List Flaw). Tells (Told (i + 1)) c.args.flaws.now.items flaws) (sym (ap (λ v. v.items) w.flaws-is))
          (tells-as (Told i) (Told (i + 1)) _ _ c.loop-kind.invariant (told-none all one seen_kinds i TwiceInFolder kind within refl none))
    ]

pub returns : goal.returns
returns c =
    let all = c.args.seen.now in
    let one = c.args.one.now in
    tells-as (λ f. IsFlawOf all one f × Contains (take c.loop-kind.kind-index seen_kinds) f.kind) (IsFlawOf all one) _ _ c.loop-kind.invariant
    (told-all all one c.loop-kind.kind-index c.loop-kind-test.false)

use Rattle.std.proofs.Common.{ℕ, false, ap, sym, ◌∙◌, take, Any, List, ◌≡◌, ◌+◌, ◌++◌, ◌∷◌, [], ◌≤◌, length, subst, arith}
use Rattle.std.proofs.lemmas.List.{take_all}
use Rattle.md_system.specs.Checks.{IsUnused}
use Rattle.md_system.specs.Gathering.{Tells}
use Rattle.md_system.specs.declared.flaw.Flaw.{Flaw}
use Rattle.md_system.specs.declared.seen.InTmp.{InTmp}
use Rattle.md_system.proofs.Telling.{any-none, renamed, tells-as, tells-both, tells-pushed, unused, unused-more}
use Rattle.md_system.proofs.flaws.push_unused.Goals as goal
use Rattle.md_system.proofs.flaws.push_unused.Goals.{then-is_old+in_ok-again+in_ok-push, else-is_old}
use Rattle.md_dirs.specs.Rows.{is_old}

pub loop-file-preserved : goal.loop-file-preserved
loop-file-preserved c =
    let tmp = c.args.tmp.now in
    let i = c.loop-file.file-index in
    let file = c.file-item.result in
    let Told = λ (n : ℕ) (f : Flaw). Any (λ (one : InTmp). IsUnused c.args.now one f) (take n tmp) in
    elim c.if-is_old.branch [
      | then-is_old+in_ok-again+in_ok-push w ↦
          let pushed : c.if-is_old.flaws.items ≡ c.loop-file.flaws.items ++ unused file ∷ [] =
          ap (λ v. v.items) w.flaws-is ∙ w.in_ok-push.ensures.items
          ∙ ap (λ (name : List ℕ). c.loop-file.flaws.items ++ renamed (unused file) name ∷ []) w.in_ok-again.ensures in
          tells-both (Told i) (λ f. unused file ≡ f) (Told (i + 1)) _ _ _ c.loop-file.invariant (tells-pushed _ _ (unused file) pushed)
          (unused-more c.args.now tmp i file c.loop-file-test.true c.file-item.is (sym c.is_old.ensures ∙ w.if-is_old.true))
      | else-is_old w ↦
          let young : is_old c.args.now 129600 file.row ≡ false = sym c.is_old.ensures ∙ w.if-is_old.false in
          subst (λ (flaws : List Flaw). Tells (Told (i + 1)) c.args.flaws.now.items flaws) (sym (ap (λ v. v.items) w.flaws-is))
          (tells-as (Told i) (Told (i + 1)) _ _ c.loop-file.invariant
          (λ f. any-none (λ (one : InTmp). IsUnused c.args.now one f) tmp i file c.loop-file-test.true c.file-item.is (λ is. cc (is.old, young))))
    ]

pub returns : goal.returns
returns c =
    let tmp = c.args.tmp.now in
    let far : length tmp ≤ c.loop-file.file-index = omega arith in
    subst (λ (some : List InTmp). Tells (λ f. Any (λ (file : InTmp). IsUnused c.args.now file f) some) c.args.flaws.now.items c.loop-file.flaws.items)
    (take_all c.loop-file.file-index tmp far) c.loop-file.invariant

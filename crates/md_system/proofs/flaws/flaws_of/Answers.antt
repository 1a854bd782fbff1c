use Rattle.std.proofs.Common.{List, [], Contains, Any, inl, inr, subst, arith}
use Rattle.md_system.specs.Checks.{IsFlaw, IsFlawOf, IsUnused}
use Rattle.md_system.specs.Gathering.{Tells}
use Rattle.md_system.specs.declared.flaw.Flaw.{Flaw}
use Rattle.md_system.specs.declared.seen.InTmp.{InTmp}
use Rattle.md_system.specs.declared.seen.Seen.{Seen}
use Rattle.md_system.proofs.Reordered.{told-alike}
use Rattle.md_system.proofs.Telling.{tells-both}
use Rattle.md_system.proofs.flaws.flaws_of.Goals as goal

-- nothing is told at first
none : (c : goal.After-drop-seen-2) (f : Flaw) → Contains c.new-flaws.result.items f → ⊥
none c f has =
    let at : Contains {X = Flaw} [] f = subst (λ (fs : List Flaw). Contains fs f) c.new-flaws.ensures.items has in omega (arith, at.1)

pub returns : goal.returns
returns c =
    let sorted = c.sort_alike.new.seen.items in
    let seen = subst (λ (all : List Seen). Tells (λ f. Any (λ (one : Seen). IsFlawOf all one f) all) c.new-flaws.result.items c.push_seen.new.flaws.items)
    c.as_slice.ensures.value c.in_ok-push_seen.ensures in
    let all = tells-both (λ f. Any (λ (one : Seen). IsFlawOf sorted one f) sorted) (λ f. Any (λ (file : InTmp). IsUnused c.args.now file f) c.args.tmp.now)
    (λ f. IsFlaw c.args.seen.items c.args.tmp.now c.args.now f) _ _ _ seen c.in_ok-push_unused.ensures (λ f.
    let alike = told-alike c.args.seen.items sorted c.sort_alike.ensures.same f in (
      λ some. elim some [ inl one ↦ inl (alike.0 one) | inr file ↦ inr file ],
      λ is. elim is [ inl one ↦ inl (alike.1 one) | inr file ↦ inr file ],
    )) in
    record {
      each = λ f. (
        λ has. elim ((all f).0 ((c.sort_flaws.ensures.each f).0 has)) [ inl before ↦ absurd (none c f before) | inr is ↦ is ],
        λ is. (c.sort_flaws.ensures.each f).1 ((all f).1 (inr is)),
      );
      order = c.sort_flaws.ensures.order;
    }

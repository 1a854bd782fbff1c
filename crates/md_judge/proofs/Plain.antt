-- What is found of a log without ticks, in which each step is judged where it stands.
use Rattle.std.proofs.Common.{ℕ, suc, ◌≡◌, ◌<◌, ◌+◌, inl, inr, ◌↔◌, List, [], ◌∷◌, Some, None, length, slice_get, refl, sym, ap, subst, ◌∙◌, arith}
use Rattle.std.proofs.lemmas.Option.{slice_get_within}
use Rattle.md_log.specs.declared.clause.Clause.{Clause}
use Rattle.md_law.specs.Law.{Breaks}
use Rattle.md_judge.specs.declared.session.Session.{Session}
use Rattle.md_judge.specs.Logs.{Log, Numbered}
use Rattle.md_judge.specs.Orders.{IsReordered, IsFindingIn}
use Rattle.md_judge.specs.Verdict.{history, HasNoTicks, IsAmong, IsFinding}
use Rattle.md_judge.specs.Placed.{HasPlaced}
use Rattle.md_judge.proofs.Lists.{stands-at}
use Rattle.md_judge.proofs.Placed.{none-waits}

-- lists that are as long, and of which the same stands at each place, are one
same-list : {A : Type 0} (xs ys : List A) → length xs ≡ length ys → ((k : ℕ) (x : A) → slice_get ys k ≡ Some x → slice_get xs k ≡ Some x) → xs ≡ ys
same-list [] [] long each = refl
same-list [] (y ∷ ys) long each = absurd (omega (arith, long))
same-list (x ∷ xs) [] long each = absurd (omega (arith, long))
same-list (x ∷ xs) (y ∷ ys) long each =
    let here : Some x ≡ Some y = each 0 y refl in
    let same : x ≡ y = cc here in
    let rest : xs ≡ ys = same-list xs ys (omega (arith, long)) (λ k z is. each (suc k) z is) in
    (λ i. same i ∷ rest i)

-- an order in which each step stays gives the log itself
same-log : (order : List ℕ) (l m : Log) → IsReordered order l m → length order ≡ length l.steps
    → ((a i : ℕ) → slice_get order a ≡ Some i → i ≡ a) → m ≡ l
same-log order l m same all stays =
    same.rest ∙ ap (λ xs. record l { steps = xs }) (same-list m.steps l.steps (same.many ∙ all) (λ k x is.
    let low = slice_get_within l.steps k x is in
    let at = stands-at order k (omega (arith, low, all)) in
    let here : slice_get l.steps at.0 ≡ Some x = ap (slice_get l.steps) (stays k at.0 at.1) ∙ is in
    same.steps k at.0 x x at.1 is here))

pub found-plain : (number : ℕ) (l : Log) (s : Session) → HasPlaced number l s → HasNoTicks l → (n : ℕ) (c : Clause)
    → IsAmong s.findings.items n c ↔ IsFinding l n c
found-plain number l s p none n c = (
  λ among.
      let found = (p.waiting.judged.found n c).0 among in
      let at = stays found.1.0 found.1.1 found.1.3 in (
        found.0,
        (found.1.1, found.1.2, found.1.4, subst (λ k. Breaks c (history l (suc k))) (sym at) (subst (λ (m : Log). Breaks c (history m (suc found.1.0))) same found.1.5)),
      ),
  λ is.
      let low = slice_get_within l.steps is.1.0 _ is.1.2 in
      let at = stands-at p.waiting.order is.1.0 (omega (arith, low, all)) in
      let here = stays is.1.0 at.0 at.1 in
      (p.waiting.judged.found n c).1 (
        is.0,
        (is.1.0, is.1.0, is.1.1, at.1 ∙ ap Some here, is.1.2, subst (λ (m : Log). Breaks c (history m (suc is.1.0))) (sym same) is.1.3),
      ),
)
  where
    all : length p.waiting.order ≡ length l.steps
    all =
        let waits = ap length (none-waits number l s none p.waiting) in
        let many = p.waiting.waits.many in omega (arith, waits, many)

    stays : (a i : ℕ) → slice_get p.waiting.order a ≡ Some i → i ≡ a
    stays a i is = p.waiting.judged.unmoved (p.waiting.judged.plain none) a i is

    same : p.waiting.log ≡ l
    same = same-log p.waiting.order l p.waiting.log p.waiting.judged.same all stays

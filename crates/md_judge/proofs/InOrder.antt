-- Orders of steps as one more comes, and as a log gets one more step.
use Rattle.std.proofs.Common.{ℕ, suc, ◌≡◌, ◌≢◌, ◌<◌, ◌≤◌, ◌+◌, ◌⊎◌, inl, inr, ◌↔◌, List, [], ◌∷◌, ◌++◌, Some, None, length, slice_get, sym, ap, subst, ◌∙◌, arith}
use Rattle.std.proofs.lemmas.List.{length_push}
use Rattle.std.proofs.lemmas.Option.{slice_get_within}
use Rattle.md_log.specs.declared.clause.Clause.{Clause}
use Rattle.md_log.specs.declared.line.Step.{Step}
use Rattle.md_law.specs.Clauses.{NotADirectory}
use Rattle.md_law.specs.Law.{Breaks}
use Rattle.md_judge.specs.Logs.{Log, Numbered, with_step}
use Rattle.md_judge.specs.Orders.{AreOfOneStretch, IsOrder, IsReordered, Fits, IsFindingIn}
use Rattle.md_judge.specs.Placed.{MayComeNext}
use Rattle.md_judge.specs.Verdict.{history, IsAllowed}
use Rattle.md_judge.proofs.Lists.{last-is, stays, same-step, one-more}
use Rattle.md_judge.proofs.Telling.{pushed, history-same}

-- what stood at a place of a list stands there in a longer one, and what stands there stood there if the place is not the last
was-there : {A : Type 0} (xs : List A) (y : A) (i : ℕ) (x : A) → i < length xs → slice_get (xs ++ y ∷ []) i ≡ Some x → slice_get xs i ≡ Some x
was-there xs y i x low is = same-step xs y i low ∙ is

-- ---- a log gets one more step

-- steps that were of one stretch are
stretch-longer : (l : Log) (n : Numbered) (a b : ℕ) → a < length l.steps → b < length l.steps → AreOfOneStretch l a b
    → AreOfOneStretch (pushed l n) a b
stretch-longer l n a b low low' are k x between is =
    are k x between (was-there l.steps n k x (within between) is)
  where
    within : ((a ≤ k) × (k ≤ b)) ⊎ ((b ≤ k) × (k ≤ a)) → k < length l.steps
    within (inl at) = let to = at.1 in omega (arith, low, low', to)
    within (inr at) = let to = at.1 in omega (arith, low, low', to)

stretch-shorter : (l : Log) (n : Numbered) (a b : ℕ) → AreOfOneStretch (pushed l n) a b → AreOfOneStretch l a b
stretch-shorter l n a b are k x between is = are k x between (stays l.steps n k x is)

-- an order of its steps stays one
pub order-longer : (l : Log) (n : Numbered) (order : List ℕ) → IsOrder l order → IsOrder (pushed l n) order
order-longer l n order may =
    let long : length (l.steps ++ n ∷ []) ≡ length l.steps + 1 = length_push l.steps n in
    record {
      within = λ a i is. let low = may.within a i is in let w : i < length (l.steps ++ n ∷ []) = omega (arith, low, long) in w;
      once = may.once;
      near = λ a b i j up first last down.
          stretch-longer l n j i (may.within b j last) (may.within a i first) (may.near a b i j up first last down);
      ticks = λ a b i j x y up first last are is is'.
          may.ticks a b i j x y up first last (stretch-shorter l n i j are)
          (was-there l.steps n i x (may.within a i first) is) (was-there l.steps n j y (may.within b j last) is');
    }

-- and gives the same log
pub same-longer : (l m : Log) (n : Numbered) (order : List ℕ) → IsOrder l order → length order ≤ length l.steps → IsReordered order l m
    → IsReordered order (pushed l n) m
same-longer l m n order may low same = record {
  rest = same.rest;
  many = same.many;
  steps = λ a i x y is here there.
      let within = slice_get_within order a i is in
      same.steps a i x y is (was-there l.steps n a x (omega (arith, within, low)) here) (was-there l.steps n i y (may.within a i is) there);
}

-- and what is found in it is the same
pub found-longer : (l m : Log) (n : Numbered) (order : List ℕ) (number : ℕ) (c : Clause) → IsOrder l order
    → IsFindingIn order l m number c ↔ IsFindingIn order (pushed l n) m number c
found-longer l m n order number c may = (
  λ is. (is.0, (is.1.0, is.1.1, is.1.2, is.1.3, stays l.steps n is.1.1 _ is.1.4, is.1.5)),
  λ is. (is.0, (is.1.0, is.1.1, is.1.2, is.1.3, was-there l.steps n is.1.1 _ (may.within is.1.0 is.1.1 is.1.3) is.1.4, is.1.5)),
)

-- ---- one more step comes in the order

module _ (l : Log) (order : List ℕ) (i : ℕ) where
  abbrev next : List ℕ
  next = order ++ i ∷ []

  -- the order stays one
  pub order-next : IsOrder l order → MayComeNext l order i → i < length l.steps → IsOrder l next
  order-next may comes low = record {
    within = λ a j is. elim (one-more order i a j is) [
      | inl was ↦ may.within a j was
      | inr last ↦ subst (λ k. k < length l.steps) last.1 low
    ];
    once = λ a b j first last. elim (one-more order i a j first) [
      | inl was ↦ elim (one-more order i b j last) [
        | inl was' ↦ may.once a b j was was'
        | inr now' ↦ absurd (comes.fresh a (was ∙ ap Some (sym now'.1)))
      ]
      | inr now ↦ elim (one-more order i b j last) [
        | inl was' ↦ absurd (comes.fresh b (was' ∙ ap Some (sym now.1)))
        | inr now' ↦ now.0 ∙ sym now'.0
      ]
    ];
    near = λ a b j k up first last down. elim (one-more order i b k last) [
      | inl was' ↦ may.near a b j k up (before a b j k up first was') was' down
      | inr now' ↦
          subst (λ o. AreOfOneStretch l o j) now'.1
          (comes.near a j (earlier a b j up now'.0 first) (subst (λ o. o < j) (sym now'.1) down))
    ];
    ticks = λ a b j k x y up first last are is is'. elim (one-more order i b k last) [
      | inl was' ↦ may.ticks a b j k x y up (before a b j k up first was') was' are is is'
      | inr now' ↦
          comes.ticks a j x y (earlier a b j up now'.0 first) (subst (λ o. AreOfOneStretch l j o) (sym now'.1) are) is
          (subst (λ o. slice_get l.steps o ≡ Some y) (sym now'.1) is')
    ];
  }
    where
      before : (a b j k : ℕ) → a < b → slice_get next a ≡ Some j → slice_get order b ≡ Some k → slice_get order a ≡ Some j
      before a b j k up first was = let low = slice_get_within order b k was in was-there order i a j (omega (arith, up, low)) first

      earlier : (a b j : ℕ) → a < b → b ≡ length order → slice_get next a ≡ Some j → slice_get order a ≡ Some j
      earlier a b j up end first = was-there order i a j (omega (arith, up, end)) first

  module _ (m : Log) (x y : Numbered) (here : slice_get l.steps (length order) ≡ Some x) (there : slice_get l.steps i ≡ Some y)
      (same : IsReordered order l m) where
    abbrev one : Numbered
    one = record { number = x.number; step = y.step }

    abbrev m' : Log
    m' = with_step m x.number y.step

    -- it gives the log with the step
    pub same-next : IsReordered next l m'
    same-next = record {
      rest = λ k. record (same.rest k) { steps = m.steps ++ one ∷ [] };
      many = length_push m.steps one ∙ ap (λ n. n + 1) same.many ∙ sym (length_push order i);
      steps = λ a j z w is is-here is-there. elim (one-more order i a j is) [
        | inl was ↦ stays m.steps one a _ (same.steps a j z w was is-here is-there)
        | inr now ↦
            let x-is : Some x ≡ Some z = sym here ∙ ap (slice_get l.steps) (sym now.0) ∙ is-here in
            let y-is : Some y ≡ Some w = sym there ∙ ap (slice_get l.steps) now.1 ∙ is-there in
            let x-same : x ≡ z = cc x-is in
            let y-same : y ≡ w = cc y-is in
            let end : a ≡ length m.steps = now.0 ∙ sym same.many in
            ap (slice_get (m.steps ++ one ∷ [])) end ∙ last-is m.steps one
            ∙ (λ k. Some (record { number = (x-same k).number; step = (y-same k).step }))
      ];
    }

    -- what is found is what was, and what the step breaks
    pub found-next : (number : ℕ) (c : Clause) → IsFindingIn next l m' number c
        ↔ (IsFindingIn order l m number c ⊎ ((y.number ≡ number) × (IsAllowed l c → ⊥) × Breaks c (history m' (suc (length order)))))
    found-next number c = (
      λ is. elim (one-more order i is.1.0 is.1.1 is.1.3) [
        | inl was ↦
            let within = slice_get_within order is.1.0 is.1.1 was in
            let many = same.many in
            let low : is.1.0 < length m.steps = omega (arith, within, many) in
            inl (is.0, (is.1.0, is.1.1, is.1.2, was, is.1.4, subst (Breaks c) (history-same m one (suc is.1.0) (omega (arith, low))) is.1.5))
        | inr now ↦
            let said : Some y ≡ Some (record { number = number; step = is.1.2 }) = sym there ∙ ap (slice_get l.steps) now.1 ∙ is.1.4 in
            let y-same : y ≡ record { number = number; step = is.1.2 } = cc said in
            inr (
              ap (λ (z : Numbered). z.number) y-same,
              is.0,
              subst (λ k. Breaks c (history m' (suc k))) now.0 is.1.5,
            )
      ],
      λ some. elim some [
        | inl is ↦
            let within = slice_get_within order is.1.0 is.1.1 is.1.3 in
            let many = same.many in
            let low : is.1.0 < length m.steps = omega (arith, within, many) in
            (is.0, (is.1.0, is.1.1, is.1.2, stays order i is.1.0 is.1.1 is.1.3, is.1.4, subst (Breaks c) (sym (history-same m one (suc is.1.0) (omega (arith, low)))) is.1.5))
        | inr new ↦ (
          new.1,
          (length order, i, y.step, last-is order i, there ∙ (λ k. Some (record { number = new.0 k; step = y.step })), new.2),
        )
      ],
    )

    -- directories give the replies where they give that of the step
    pub fits-next : Fits m → (y.step.ticks ≢ None → NotADirectory (history m' (suc (length order))) → ⊥) → Fits m'
    fits-next fits last a z is ticks wrong = elim (one-more m.steps one a z is) [
      | inl was ↦
          let low = slice_get_within m.steps a z was in
          fits a z was ticks (subst NotADirectory (history-same m one (suc a) (omega (arith, low))) wrong)
      | inr now ↦
          let s-same : y.step ≡ z.step = ap (λ (w : Numbered). w.step) now.1 in
          last (λ none. ticks (ap (λ (s : Step). s.ticks) (sym s-same) ∙ none))
          (subst (λ k. NotADirectory (history m' (suc k))) (now.0 ∙ same.many) wrong)
    ]

-- What a session has judged, as it judges one more step.
use Rattle.std.proofs.Common.{ℕ, suc, ◌≡◌, ◌≢◌, ◌<◌, ◌≤◌, ◌+◌, inl, inr, ◌↔◌, List, [], ◌∷◌, ◌++◌, Some, None, length, slice_get, refl, sym, ap, subst, ◌∙◌, arith, false}
use Rattle.std.proofs.lemmas.List.{length_push}
use Rattle.std.proofs.lemmas.Option.{slice_get_within}
use Rattle.std.proofs.lemmas.Bool.{cases_lt}
use Rattle.md_log.specs.declared.clause.Clause.{Clause}
use Rattle.md_log.specs.declared.line.Step.{Step}
use Rattle.md_law.specs.Clauses.{NotADirectory}
use Rattle.md_law.specs.History.{History, next}
use Rattle.md_law.specs.Law.{Breaks}
use Rattle.md_watch.specs.Watches.{Holds}
use Rattle.md_judge.specs.declared.clauses.Clauses.{Clauses}
use Rattle.md_judge.specs.declared.session.Session.{Session}
use Rattle.md_judge.specs.Clauses.{Has}
use Rattle.md_judge.specs.Logs.{Log, Numbered, with_step}
use Rattle.md_judge.specs.Orders.{IsFindingIn}
use Rattle.md_judge.specs.Verdict.{history, HasNoTicks, AreEarlier, AreInOrder}
use Rattle.md_judge.specs.Placed.{AreInOrderAtLines, AreBelowAtLine, MayComeNext, HasLines, HasJudged, Judges}
use Rattle.md_judge.proofs.InOrder.{order-longer, same-longer, found-longer, order-next, same-next, found-next, fits-next}
use Rattle.md_judge.proofs.Lists.{one-more, stays}
use Rattle.md_judge.proofs.Telling.{history-next}

module _ (number : ℕ) (l m : Log) (order : List ℕ) (i : ℕ) (x y : Numbered) (s : Session) (read : HasLines number l s)
    (judged : HasJudged number l order m s) (here : slice_get l.steps (length order) ≡ Some x) (there : slice_get l.steps i ≡ Some y) where
  -- two steps of one line are one
  same-place : (a b : ℕ) (v w : Numbered) → slice_get l.steps a ≡ Some v → slice_get l.steps b ≡ Some w → v.number ≡ w.number → a ≡ b
  same-place a b v w first last same = elim (cases_lt a b) [
    | inl up ↦ absurd (let lt = read.numbered.rises a b v w up first last in omega (arith, lt, same))
    | inr high ↦ elim (cases_lt b a) [
      | inl up ↦ absurd (let lt = read.numbered.rises b a w v up last first in omega (arith, lt, same))
      | inr high' ↦ omega (arith, high, high')
    ]
  ]

  abbrev m' : Log
  m' = with_step m x.number y.step

  -- the history before the step, and after it
  abbrev past : History
  past = history m (length order)

  pub history-is : history m' (suc (length order)) ≡ next past y.step
  history-is = ap (λ k. history m' (suc k)) (sym judged.same.many)
      ∙ history-next m (record { number = x.number; step = y.step })
      ∙ ap (λ k. next (history m k) y.step) judged.same.many

  module _ (comes : MayComeNext l order i) where
    -- no finding is of the line of the next step
    none-there : AreBelowAtLine s.findings.items y.number 0
    none-there k f is same =
        let finding : IsFindingIn order l m f.line f.clause = (judged.found f.line f.clause).0 (k, f, is, refl, refl) in
        let place = same-place finding.1.1 i (record { number = f.line; step = finding.1.2 }) y finding.1.4 there same in
        absurd (comes.fresh finding.1.0 (finding.1.3 ∙ ap Some place))

    -- where no step was moved, all findings are of earlier lines
    all-earlier : s.stretch.moved ≡ false → i ≡ length order → AreEarlier s.findings.items y.number 0
    all-earlier unmoved last k f is =
        let finding : IsFindingIn order l m f.line f.clause = (judged.found f.line f.clause).0 (k, f, is, refl, refl) in
        let within = slice_get_within order finding.1.0 finding.1.1 finding.1.3 in
        let unmoved-it : finding.1.1 ≡ finding.1.0 = judged.unmoved unmoved finding.1.0 finding.1.1 finding.1.3 in
        inl (read.numbered.rises finding.1.1 i (record { number = f.line; step = finding.1.2 }) y (omega (arith, within, unmoved-it, last)) finding.1.4 there)

    -- a session that judges the next step has judged it with the others
    pub judged-next : (t : Session) → Judges past y.number y.step s t
        → (t.stretch.moved ≡ false → (x.number ≡ y.number) × (s.stretch.moved ≡ false))
        → (y.step.ticks ≢ None → NotADirectory (next past y.step) → ⊥) → (HasNoTicks l → t.stretch.moved ≡ false)
        → HasJudged number l (order ++ i ∷ []) m' t
    judged-next t judges moved fits plain = record {
      may = order-next l order i judged.may comes (slice_get_within l.steps i y there);
      same = same-next l order i m x y here there judged.same;
      fits = fits-next l order i m x y here there judged.same judged.fits (λ ticks wrong. fits ticks (subst NotADirectory history-is wrong));
      holds =
          let long : suc (length order) ≡ length (order ++ i ∷ []) = (let more = length_push order i in omega (arith, more)) in
          subst (λ k. Holds (history m' k) t.watch) long (subst (λ h. Holds h t.watch) (sym history-is) judges.holds);
      allowed = λ c. (
        λ has. (judged.allowed c).0 (subst (λ (a : Clauses). Has a c) judges.allowed has),
        λ is. subst (λ (a : Clauses). Has a c) (sym judges.allowed) ((judged.allowed c).1 is),
      );
      found = λ n c.
          let adds = judges.found c in
          let next' = found-next l order i m x y here there judged.same n c in (
            λ now. elim ((adds n).0 now) [
              | inl was ↦ next'.1 (inl ((judged.found n c).0 was))
              | inr new ↦ next'.1 (inr (new.0, (λ is. new.1.1 ((judged.allowed c).1 is)), subst (Breaks c) (sym history-is) new.1.0))
            ],
            λ is. elim (next'.0 is) [
              | inl was ↦ (adds n).1 (inl ((judged.found n c).1 was))
              | inr new ↦ (adds n).1 (inr (new.0, (subst (Breaks c) history-is new.2, λ has. new.1 ((judged.allowed c).0 has))))
            ],
          );
      at_lines = judges.at_lines judged.at_lines none-there;
      unmoved = λ none a j is.
          let before = moved none in
          let last = placed-last before.0 in
          elim (one-more order i a j is) [
            | inl was ↦ judged.unmoved before.1 a j was
            | inr now ↦ sym now.1 ∙ last ∙ sym now.0
          ];
      ordered = λ none.
          let before = moved none in judges.ordered (judged.ordered before.1) (all-earlier before.1 (placed-last before.0));
      plain = plain;
    }
      where
        placed-last : x.number ≡ y.number → i ≡ length order
        placed-last same = same-place i (length order) y x there here (sym same)

-- ---- a log gets one more step

module _ (number : ℕ) (l : Log) (x : Step) (s : Session) (read : HasLines number l s) where
  abbrev one : Numbered
  one = record { number = number; step = x }

  abbrev longer : Log
  longer = with_step l number x

  -- a session has the lines with it
  pub lines-longer : (t : Session) → t.folders ≡ s.folders → HasLines (suc number) longer t
  lines-longer t folders = record {
    folders = folders ∙ read.folders;
    housed = read.housed;
    numbered = record {
      rises = λ a b y z up first last. elim (one-more l.steps one b z last) [
        | inl was' ↦ elim (one-more l.steps one a y first) [
          | inl was ↦ read.numbered.rises a b y z up was was'
          | inr now ↦ absurd (let end = now.0 in let low = slice_get_within l.steps b z was' in omega (arith, end, low, up))
        ]
        | inr now' ↦ elim (one-more l.steps one a y first) [
          | inl was ↦
              let lt = read.numbered.below a y was in
              let same : number ≡ z.number = ap (λ (w : Numbered). w.number) now'.1 in omega (arith, lt, same)
          | inr now ↦ absurd (let end = now.0 in let end' = now'.0 in omega (arith, end, end', up))
        ]
      ];
      below = λ k y is. elim (one-more l.steps one k y is) [
        | inl was ↦ let lt = read.numbered.below k y was in omega (arith, lt)
        | inr now ↦ let same : number ≡ y.number = ap (λ (w : Numbered). w.number) now.1 in omega (arith, same)
      ];
    };
  }

  -- and has judged of it what it had judged
  pub judged-longer : (order : List ℕ) (m : Log) → length order ≤ length l.steps → HasJudged number l order m s
      → HasJudged (suc number) longer order m s
  judged-longer order m low judged = record {
    may = order-longer l one order judged.may;
    same = same-longer l m one order judged.may low judged.same;
    fits = judged.fits;
    holds = judged.holds;
    allowed = judged.allowed;
    found = λ n c.
        let same = found-longer l m one order n c judged.may in
        (λ now. same.0 ((judged.found n c).0 now), λ is. (judged.found n c).1 (same.1 is));
    at_lines = judged.at_lines;
    unmoved = judged.unmoved;
    ordered = judged.ordered;
    plain = λ none. judged.plain (λ k y is. none k y (stays l.steps one k y is));
  }

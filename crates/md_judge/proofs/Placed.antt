-- What a session holds that reads a log in which calls may overlap, line by line.
use Rattle.std.proofs.Common.{ℕ, suc, ◌≡◌, ◌≢◌, ◌+◌, inl, inr, ◌↔◌, List, [], ◌∷◌, ◌++◌, Option, Some, None, is_some, length, true, false, slice_get, refl, sym, ap, subst, ◌∙◌, arith}
use Rattle.std.proofs.lemmas.List.{length_push}
use Rattle.std.proofs.lemmas.Option.{slice_get_within}
use Rattle.md_log.specs.declared.clause.Clause.{Clause}
use Rattle.md_log.specs.declared.line.Line.TheVariants as line
use Rattle.md_log.specs.declared.line.Step.{Step}
use Rattle.md_log.specs.declared.line.ticks.Ticks.{Ticks}
use Rattle.md_judge.specs.declared.log.Finding.{Finding}
use Rattle.md_judge.specs.declared.session.Session.{Session}
use Rattle.md_judge.specs.declared.stretch.Stretch.{Stretch}
use Rattle.md_judge.specs.Logs.{Log, Numbered, with_step}
use Rattle.md_judge.specs.Orders.{AreFoundInOrder}
use Rattle.md_judge.specs.Verdict.{HasNoTicks, IsAmong}
use Rattle.md_judge.specs.Placed.{AddsWaiting, AreWaiting, MayComeNext, HasWaiting, HasPlaced, HasSettled, KeepsHead, Judges}
use Rattle.md_judge.specs.Verdict.{history}
use Rattle.md_judge.proofs.Judging.{judged-next, judged-longer, lines-longer}
use Rattle.md_judge.proofs.Placing.{judged-on, waits-on}
use Rattle.md_judge.proofs.Lists.{one-more, stays, last-is, stands-at}
use Rattle.md_judge.proofs.Lines.{HasSame, begun-after}

-- what waits is what waited where only other parts of the session change
pub waits-same : (number : ℕ) (l : Log) (s t : Session) → t.folders ≡ s.folders → t.stretch ≡ s.stretch → t.watch ≡ s.watch
    → t.allowed ≡ s.allowed → t.findings.items ≡ s.findings.items → HasWaiting number l s → HasWaiting number l t
waits-same number l s t folders stretch watch allowed findings w =
    waits-on number l s t folders stretch
    (λ order m judged. judged-on number l order m s t watch allowed findings (ap (λ (x : Stretch). x.moved) stretch) judged) w

-- a step has ticks or none
pub ticks-none : (o : Option Ticks) → is_some o ≡ false → o ≡ None
ticks-none None is = refl
ticks-none (Some t) is = absurd (cc is)

pub ticks-some : (o : Option Ticks) → is_some o ≡ true → o ≢ None
ticks-some None is none = cc is
ticks-some (Some t) is none = cc none

-- ---- one more step

module _ (number : ℕ) (l : Log) (x : Step) where
  abbrev one : Numbered
  one = record { number = number; step = x }

  abbrev longer : Log
  longer = with_step l number x

  -- the steps that wait, and one more with ticks
  more-waits : (from : ℕ) (old new : Stretch) → AreWaiting from l old → AddsWaiting number x old new → x.ticks ≢ None
      → AreWaiting from longer new
  more-waits from old new waits adds ticks =
      let many = waits.many in
      let long = waits.long in
      let steps-long = ap length adds.steps ∙ length_push old.steps.items (Some adds.waiting) in
      let lines-long = ap length adds.lines ∙ length_push old.lines.items number in
      let log-long = length_push l.steps one in
      record {
        many = omega (arith, many, steps-long, log-long);
        long = omega (arith, long, steps-long, lines-long);
        steps = λ k w y at-place is.
            elim (one-more old.steps.items (Some adds.waiting) k w (subst (λ ws. slice_get ws k ≡ Some w) adds.steps at-place)) [
              | inl was ↦ elim (one-more l.steps one (from + k) y is) [
                | inl was' ↦ waits.steps k w y was was'
                | inr now' ↦ absurd (let low = slice_get_within old.steps.items k w was in let end = now'.0 in omega (arith, low, end, many))
              ]
              | inr now ↦ elim (one-more l.steps one (from + k) y is) [
                | inl was' ↦ absurd (let low = slice_get_within l.steps (from + k) y was' in let end = now.0 in omega (arith, low, end, many))
                | inr now' ↦ (adds.waiting, sym now.1, adds.same ∙ ap (λ (z : Numbered). z.step) now'.1)
              ]
            ];
        lines = λ k y is. elim (one-more l.steps one (from + k) y is) [
          | inl was ↦
              subst (λ ns. slice_get ns k ≡ Some y.number) (sym adds.lines) (stays old.lines.items number k y.number (waits.lines k y was))
          | inr now ↦
              let end = now.0 in
              let here : k ≡ length old.lines.items = omega (arith, end, many, long) in
              subst (λ ns. slice_get ns k ≡ Some y.number) (sym adds.lines)
              (ap (slice_get (old.lines.items ++ number ∷ [])) here ∙ last-is old.lines.items number
              ∙ ap (λ (z : Numbered). Some z.number) now.1)
        ];
        ticks = λ k y is. elim (one-more l.steps one (from + k) y is) [
          | inl was ↦ waits.ticks k y was
          | inr now ↦ subst (λ (z : Numbered). z.step.ticks ≢ None) now.1 ticks
        ];
        begins = λ k y last is. elim (one-more l.steps one k y is) [
          | inl was ↦ waits.begins k y last was
          | inr now ↦ absurd (let end = now.0 in omega (arith, end, last, many))
        ];
      }

  -- a session that lets a step with ticks wait has read the log with it
  pub step-waits : (s t : Session) → t.folders ≡ s.folders → t.watch ≡ s.watch → t.allowed ≡ s.allowed → t.findings.items ≡ s.findings.items
      → t.has_begun ≡ true → x.ticks ≢ None → AddsWaiting number x s.stretch t.stretch → HasPlaced number l s → HasPlaced (suc number) longer t
  step-waits s t folders watch allowed findings begun ticks adds read =
      let w = read.waiting in
      let many = w.waits.many in
      record {
        begun = begun ∙ sym (begun-after l.steps one);
        waiting = record {
          order = w.order;
          log = w.log;
          read = lines-longer number l x s w.read t folders;
          judged = judged-on (suc number) longer w.order w.log s t watch allowed findings adds.moved
              (judged-longer number l x s w.read w.order w.log (omega (arith, many)) w.judged);
          placed = w.placed;
          waits = more-waits (length w.order) s.stretch t.stretch w.waits adds ticks;
        };
      }

  -- where all are judged, a step without ticks may come next
  comes-next : (s : Session) (settled : HasSettled number l s) → x.ticks ≡ None → MayComeNext longer settled.order (length settled.order)
  comes-next s settled none = record {
    fresh = λ a is. let low = settled.judged.may.within a (length settled.order) is in let all = settled.all in omega (arith, low, all);
    near = λ a j is up. absurd (let low = settled.judged.may.within a j is in let all = settled.all in omega (arith, low, up, all));
    ticks = λ a j y z is are y-is z-is.
        let low = settled.judged.may.within a j is in
        let all = settled.all in
        absurd (are (length settled.order) one (inl (omega (arith, low, all), omega arith))
        (ap (slice_get longer.steps) all ∙ last-is l.steps one) none);
  }

  -- a session that judges a step without ticks, where all before it are judged, has read the log with it
  pub step-settles : (s t : Session) (settled : HasSettled number l s) → KeepsHead s t → t.has_begun ≡ true → x.ticks ≡ None
      → Judges (history settled.log (length settled.order)) number x s t → HasPlaced (suc number) longer t
  step-settles s t settled keeps begun none judges =
      let order = settled.order in
      let m = settled.log in
      let i = length order in
      let all = settled.all in
      let here : slice_get longer.steps i ≡ Some one = ap (slice_get longer.steps) all ∙ last-is l.steps one in
      let log-long = length_push l.steps one in
      let long = length_push order i in
      let no-steps : t.stretch.steps.items ≡ [] = (λ k. (keeps.stretch k).steps.items) ∙ settled.steps in
      let no-lines : t.stretch.lines.items ≡ [] = (λ k. (keeps.stretch k).lines.items) ∙ settled.lines in
      let steps-none = ap length no-steps in
      let lines-none = ap length no-lines in
      let past : (k : ℕ) (y : Numbered) → slice_get longer.steps (length (order ++ i ∷ []) + k) ≡ Some y → ⊥ = λ k y is.
      let low = slice_get_within longer.steps (length (order ++ i ∷ []) + k) y is in omega (arith, low, long, log-long, all) in
      record {
        begun = begun ∙ sym (begun-after l.steps one);
        waiting = record {
          order = order ++ i ∷ [];
          log = with_step m number x;
          read = lines-longer number l x s settled.read t keeps.folders;
          judged = judged-next (suc number) longer m order i one one s (lines-longer number l x s settled.read s refl)
              (judged-longer number l x s settled.read order m (omega (arith, all)) settled.judged) here here (comes-next s settled none) t
              judges (λ unmoved. (refl, (λ k. (sym keeps.stretch k).moved) ∙ unmoved)) (λ ticks wrong. ticks none)
              (λ plain. (λ k. (keeps.stretch k).moved)
              ∙ settled.judged.plain (λ k y is. plain k y (stays l.steps one k y is)));
          placed = λ a j is. elim (one-more order i a j is) [
            | inl was ↦ let low = settled.judged.may.within a j was in omega (arith, low, long, all)
            | inr now ↦ let last = now.1 in omega (arith, last, long)
          ];
          waits = record {
            many = omega (arith, long, log-long, all, steps-none);
            long = lines-none ∙ sym steps-none;
            steps = λ k w y is there. absurd (past k y there);
            lines = λ k y is. absurd (past k y is);
            ticks = λ k y is. absurd (past k y is);
            begins = λ k y last is. elim (one-more l.steps one k y is) [
              | inl was ↦ absurd (let low = slice_get_within l.steps k y was in omega (arith, low, last, long, all))
              | inr now ↦ ap (λ (z : Numbered). z.step.ticks) (sym now.1) ∙ none
            ];
          };
        };
      }

-- what is found where all steps are judged
pub found-settled : (number : ℕ) (l : Log) (s : Session) (fs : List Finding)
    → ((n : ℕ) (c : Clause) → IsAmong fs n c ↔ IsAmong s.findings.items n c) → HasSettled number l s → AreFoundInOrder l fs
found-settled number l s fs same settled = record {
  order = settled.order;
  log = settled.log;
  all = settled.all;
  may = settled.judged.may;
  same = settled.judged.same;
  fits = settled.judged.fits;
  found = λ n c. (
    λ now. (settled.judged.found n c).0 ((same n c).0 now),
    λ is. (same n c).1 ((settled.judged.found n c).1 is),
  );
}

-- ---- logs without ticks

-- where no step of the log has ticks none waits
pub none-waits : (number : ℕ) (l : Log) (s : Session) → HasNoTicks l → HasWaiting number l s → s.stretch.steps.items ≡ []
none-waits number l s plain w = by s.stretch.steps.items refl
  where
    by : (ws : List _) → s.stretch.steps.items ≡ ws → s.stretch.steps.items ≡ []
    by [] is = is
    by (one ∷ ws) is =
        let long : length s.stretch.steps.items ≡ suc (length ws) = ap length is in
        let many = w.waits.many in
        let at = stands-at l.steps (length w.order + 0) (omega (arith, many, long)) in
        absurd (w.waits.ticks 0 at.0 at.1 (plain (length w.order + 0) at.0 at.1))

-- ---- lines that add nothing

-- a session that passes over a line has placed the same log
pub over-placed : (number : ℕ) (l : Log) (s : Session) → HasPlaced number l s → HasPlaced (suc number) l s
over-placed number l s p =
    let w = p.waiting in
    let judged = w.judged in
    record {
      begun = p.begun;
      waiting = record {
        order = w.order;
        log = w.log;
        read = record {
          folders = w.read.folders;
          housed = w.read.housed;
          numbered = record {
            rises = w.read.numbered.rises;
            below = λ k y is. let lt = w.read.numbered.below k y is in omega (arith, lt);
          };
        };
        judged = record {
          may = judged.may;
          same = judged.same;
          fits = judged.fits;
          holds = judged.holds;
          allowed = judged.allowed;
          found = judged.found;
          at_lines = judged.at_lines;
          unmoved = judged.unmoved;
          ordered = judged.ordered;
          plain = judged.plain;
        };
        placed = w.placed;
        waits = w.waits;
      };
    }

-- what a session has placed is nothing of its count of lines
pub counted-placed : (number : ℕ) (l : Log) (s : Session) (n : ℕ) → HasPlaced number l s → HasPlaced number l (record s { lines = n })
counted-placed number l s n p = record {
  begun = p.begun;
  waiting = waits-same number l s (record s { lines = n }) refl refl refl refl refl p.waiting;
}

pub has-same : (number : ℕ) (l : Log) (s : Session) → HasPlaced number l s → HasSame l s
has-same number l s p = (p.waiting.read.folders, p.begun)

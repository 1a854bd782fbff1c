-- The history of a story's log is like the story's own, and so what the judge finds is what the steps of the story break.
use Rattle.std.proofs.Common.{ℕ, zero, suc, ◌≡◌, ◌<◌, List, [], ◌∷◌, Some, refl, sym, ap, subst, ◌∙◌, fold, length, take, slice_get, arith}
use Rattle.std.specs.Prelude.{Contains}
use Rattle.md_jobs.specs.declared.call.Call.{Call}
use Rattle.md_log.specs.declared.clause.Clause.{Clause}
use Rattle.md_log.specs.declared.line.Call.{Call as Made}
use Rattle.md_log.specs.declared.line.Step.{Step as Line}
use Rattle.md_law.specs.History.{History, opening, next, moment, at, now, after_call}
use Rattle.md_law.specs.Law.{Breaks}
use Rattle.md_beside.specs.Story.{Story, Step, step_at, state, step_seen, without_bytes, history as history_of}
use Rattle.md_beside.specs.Beside.{IsStory}
use Rattle.md_beside.specs.Relied.{relied}
use Rattle.md_beside.proofs.Histories.{history-first, history-next, next_at, clock-next}
use Rattle.md_beside.proofs.Relying.{rely}
use Rattle.md_judge.specs.Logs.{Log, Numbered}
use Rattle.md_judge.specs.Verdict.{beginning, history}
use Rattle.md_findings.specs.Judged.{IsLogOf, Tells, ClearLogsSuffice}
use Rattle.md_findings.proofs.Alike.{Like, same-at, alike-for}

-- a history with the first steps of a list, and one more
fold-more : (h : History) (xs : List Numbered) (k : ℕ) (x : Numbered) → slice_get xs k ≡ Some x →
    fold (λ h (y : Numbered). next h y.step) h (take (suc k) xs) ≡ next (fold (λ h (y : Numbered). next h y.step) h (take k xs)) x.step
fold-more h [] k x is = cc
fold-more h (y ∷ xs) zero x is = cc
fold-more h (y ∷ xs) (suc k) x is = fold-more (next h y.step) xs k x is

-- before a step there is each earlier one
earlier : {X : Type 0} (xs : List X) (k : ℕ) (y : X) → slice_get xs (suc k) ≡ Some y → (x : X) × (slice_get xs k ≡ Some x)
earlier [] k y is = cc
earlier (x ∷ xs) zero y is = (x, refl)
earlier (x ∷ xs) (suc k) y is = earlier xs k y is

-- a place of a list is there
there : {X : Type 0} (xs : List X) (k : ℕ) → k < length xs → (x : X) × (slice_get xs k ≡ Some x)
there [] k low = absurd (omega (arith, low))
there (x ∷ xs) zero low = (x, refl)
there (x ∷ xs) (suc k) low = there xs k (omega (arith, low))

-- and what is there is at a place of it
within : {X : Type 0} (xs : List X) (k : ℕ) (x : X) → slice_get xs k ≡ Some x → k < length xs
within [] k x is = cc
within (y ∷ xs) zero x is = omega (arith)
within (y ∷ xs) (suc k) x is = let low = within xs k x is in omega (arith, low)

-- the directories after a step are those after its call at its clock
at-next : (h : History) (line : Line) → at (next h line) ≡ after_call line.call (now (next h line)) (at h)
unfolding moment
at-next h line = refl

like-next : (h h' : History) (x x' : Line) → Like h h' → now (next h x) ≡ now (next h' x') → x.actor ≡ x'.actor → x.call ≡ x'.call →
    Like (next h x) (next h' x')
unfolding Like
like-next h h' x x' like clock actor call = (like, same, clock, actor, call)
  where
    same : at (next h x) ≡ at (next h' x')
    same = at-next h x ∙ ap (λ (c : Made). after_call c (now (next h x)) (at h)) call
        ∙ ap (λ (n : ℕ). after_call x'.call n (at h)) clock ∙ ap (after_call x'.call (now (next h' x'))) (same-at h h' like)
        ∙ sym (at-next h' x')

module _ (t : Story) (story : IsStory t) (m : Log) (of : IsLogOf m t) where
  clock-of : (k : ℕ) (x : Step) → step_at t k ≡ Some x → now (history_of t (suc k)) ≡ x.at.clock
  clock-of k x is = ap now (history-next t k x is) ∙ clock-next t story k x is

  more : (k : ℕ) (x : Step) → step_at t k ≡ Some x → Like (history_of t k) (history m k) → Like (history_of t (suc k)) (history m (suc k))
  more k x is like = subst (λ h. Like h (history m (suc k))) (sym (history-next t k x is)) (subst (Like (next_at t k x)) (sym grows)
      (like-next (history_of t k) (history m k) (step_seen t.actor (state t k) x) told.line.step like
      (clock-next t story k x is ∙ sym told.clock ∙ ap now grows) (sym told.actor) (sym told.call)))
    where
      told : Tells m t k x
      told = of.steps k x is

      grows : history m (suc k) ≡ next (history m k) told.line.step
      grows = fold-more (beginning m) m.steps k told.line told.at

  first-like : Like (opening (record { state = without_bytes t.image; now = t.clock })) (opening (record { state = m.opening; now = 0 }))
  unfolding Like
  first-like = sym of.opening

  first : Like (history_of t 0) (history m 0)
  first = subst (λ h. Like h (history m 0)) (sym (history-first t)) first-like

  like-at : (k : ℕ) (x : Step) → step_at t k ≡ Some x → Like (history_of t k) (history m k)
  like-at zero x is = first
  like-at (suc k) x is = let past = earlier t.steps k x is in more k past.0 past.1 (like-at k past.0 past.1)

  -- a clause that a step breaks is broken as the log has it
  breaks : (c : Call) (b : Clause) → Contains (relied c) b → (k : ℕ) (x : Step) → step_at t k ≡ Some x → Breaks b (history_of t (suc k))
      → Breaks b (history m (suc k))
  breaks c b has k x is = alike-for c b has (history_of t (suc k)) (history m (suc k)) (more k x is (like-at k x is))
      (clock-of k x is ∙ sym (of.steps k x is).clock)

-- the law
pub suffice : ClearLogsSuffice
suffice t l findings found story names clocks of clear = rely t story names clocks kept
  where
    kept : Rattle.md_beside.specs.Relied.AreKept t
    kept job c call works k x actor b is who has broken =
        let told = of.steps k x is in
        let place = there found.order k (subst (λ n. k < n) found.same.many (within found.log.steps k told.line told.at)) in
        let line = there l.steps place.0 (found.may.within k place.0 place.1) in
        let free = clear job c b call works has in
        free.1 k place.0 line.0.number x line.0.step actor is who place.1 line.1
        ((found.found line.0.number b).1 (free.0, (k, place.0, line.0.step, place.1, line.1, breaks t story found.log of c b has k x is broken)))

-- A message that is in cur stays there as long as it is there: none goes back to new, and no unique name comes again. And none is ever in tmp.
use Rattle.std.proofs.Common.{ℕ, zero, suc, ◌≡◌, ◌≢◌, ◌≤◌, ◌+◌, ◌-◌, List, Some, None, refl, sym, ap, subst, ◌∙◌, take, arith}
use Rattle.std.proofs.lemmas.List.{take_all, take-take}
use Rattle.std.specs.FinMap as finmap
use Rattle.md_core.proofs.Values.{Place, Effect, Tmp, Cur, Listed, Names, names_after, IsLegal, WasNowhere, IsPlaced, IsInCur, IsNotInTmp, KeepsPlaces}
use Rattle.md_core.proofs.Lists.Places.{at_place, take-one_more}
use Rattle.md_core.proofs.Theorem.Effects.{after-push}
use Rattle.md_core.proofs.Theorem.Placed.{placed-kept}
use Rattle.md_core.proofs.Mailbox.Allowed.{allowed-fits}

module _ (folders : ℕ) (opening : Names) (history : List Effect) (legal : IsLegal folders opening history) where
  abbrev names : ℕ → Names
  names k = names_after opening (take k history)

  next : (P : Place → Type 0) → P Cur → (u : List ℕ) (k : ℕ) → ((p : Place) → p ≢ Tmp → WasNowhere opening (take k history) u → P p)
      → IsPlaced P (finmap.get (names k) u) → IsPlaced P (finmap.get (names (k + 1)) u)
  next P cur u k fresh was = at_place history k
      (λ e at.
      subst (λ (m : Names). IsPlaced P (finmap.get m u)) (sym (ap (names_after opening) (take-one_more history k e at) ∙ after-push opening (take k history) e))
      (placed-kept P cur (names k) (WasNowhere opening (take k history)) u fresh e.change
      (allowed-fits folders (names k) (WasNowhere opening (take k history)) e.answer e.change (legal.each k e at)) was))
      (λ past.
      subst (λ (es : List Effect). IsPlaced P (finmap.get (names_after opening es) u)) (take_all k history past ∙ sym (take_all (k + 1) history (omega arith))) was)

  cur_not_tmp : Cur ≢ Tmp
  cur_not_tmp e = cc

  -- no message is in tmp, if none was at the opening
  never-in_tmp : (u : List ℕ) → IsNotInTmp (finmap.get opening u) → (k : ℕ) → IsNotInTmp (finmap.get (names k) u)
  never-in_tmp u at_first zero = at_first
  never-in_tmp u at_first (suc k) =
      let e : k + 1 ≡ suc k = omega arith in
      subst (λ n. IsNotInTmp (finmap.get (names n) u)) e
      (next (λ p. p ≢ Tmp) cur_not_tmp u k (λ p not_tmp fresh. not_tmp) (never-in_tmp u at_first k))

  module _ (i : ℕ) (u : List ℕ) (x : Listed) (there : finmap.get (names i) u ≡ Some x) (at : x.place ≡ Cur) where
    -- a name that was there is fresh no more
    used-since : (d : ℕ) → WasNowhere opening (take (i + d) history) u → ⊥
    used-since d fresh =
        let none : finmap.get (names i) u ≡ None =
        ap (λ (es : List Effect). finmap.get (names_after opening es) u) (sym (take-take i (i + d) history (omega arith))) ∙ fresh i in
        let is = there in
        cc

    stays-by : (d : ℕ) → IsInCur (finmap.get (names (i + d)) u)
    stays-by zero = let e : i ≡ i + 0 = omega arith in subst (λ k. IsInCur (finmap.get (names k) u)) e (subst IsInCur (sym there) at)
    stays-by (suc d) =
        let e : (i + d) + 1 ≡ i + suc d = omega arith in
        subst (λ k. IsInCur (finmap.get (names k) u)) e (next (λ p. p ≡ Cur) refl u (i + d) (λ p not_tmp fresh. absurd (used-since d fresh)) (stays-by d))

    -- a message that is in cur at a moment is in cur at each later one, or gone
    stays-in_cur : (j : ℕ) → i ≤ j → IsInCur (finmap.get (names j) u)
    stays-in_cur j within = let e : i + (j - i) ≡ j = omega arith in subst (λ k. IsInCur (finmap.get (names k) u)) e (stays-by (j - i))

  pub keeps-places : KeepsPlaces opening history
  keeps-places = record { never_in_tmp = never-in_tmp; stays_in_cur = λ i j within u x there at. stays-in_cur i u x there at j within }

-- A message that is in cur at a moment of a run is in cur at each later one, or gone.
use Rattle.std.proofs.Common.{ℕ, zero, suc, ◌≡◌, ◌≤◌, ◌+◌, ◌-◌, List, Option, Some, None, IfSome, refl, sym, ap, subst, ◌∙◌, length, arith}
use Rattle.md_core.proofs.Values.{Cur, Effect, Entry, Mailbox, Names, names_of, as_listed, Machine, Step, Run, machine_at, box_in, IsRun, AsAlone, MakesMessage, get, option_map, IsInCur}
use Rattle.md_core.proofs.Induction.Good.{Affects, Known, own_effect}
use Rattle.md_core.proofs.Machines.EachTurn.{each-turn}
use Rattle.md_core.proofs.Induction.Going.{Goes}
use Rattle.md_core.proofs.Induction.GoodRuns.{going-at, what-at}
use Rattle.md_core.proofs.Induction.Knowing.{known-there, known-more}
use Rattle.md_core.proofs.Mailbox.Naming.{get-names}
use Rattle.md_core.proofs.Theorem.Placed.{placed-kept}
use Rattle.md_core.proofs.Lists.Places.{at_place}
use Rattle.md_core.proofs.Runs.ByEvent.{moment-over}
use Rattle.md_core.proofs.Answers.Turns.EachSays.{is-good}
use Rattle.md_core.proofs.Mailbox.Allowed.{allowed-fits}

-- a turn leaves a known name in cur, or takes it away
cur-kept : (r : Run) (m m' : Machine) (what : Step) (g : Goes r.calls m m' what) (u : List ℕ) (size : ℕ) → Known r.calls m u size →
    IsInCur (get (names_of (box_in m)) u) → IsInCur (get (names_of (box_in m')) u)
cur-kept r m m' what g u size known was = by what.effect g.does.as_alone g.does.first g.does.effect
  where
    by : (o : Option Effect) → AsAlone g.asked o (box_in m) (box_in m') → IfSome o (λ e. own_effect what.job g.task ≡ None) →
        IfSome o (Affects what.job g.asked m.dirs.folders (box_in m) (box_in m')) → IsInCur (get (names_of (box_in m')) u)
    by None same first affects = subst (λ (b : Mailbox). IsInCur (get (names_of b) u)) (sym same) was
    by (Some e) alone first affects =
        let unmade : MakesMessage g.asked u → ⊥ =
        known.unmade g.place g.asked g.task g.of g.there (ap (λ n. own_effect n g.task) (sym g.number_is) ∙ first) in
        subst (λ (n : Names). IsInCur (get n u)) (sym affects.changes)
        (placed-kept (λ p. p ≡ Cur) refl (names_of (box_in m)) (MakesMessage g.asked) u (λ p not_tmp makes. absurd (unmade makes)) e.change
        (allowed-fits m.dirs.folders (names_of (box_in m)) (MakesMessage g.asked) e.answer e.change affects.allowed) was)

module _ (r : Run) (run : IsRun r) (i : ℕ) (u : List ℕ) (x : Entry) (there : get (box_in (machine_at r i)) u ≡ Some x) (at : x.place ≡ Cur) where
  abbrev Stays : ℕ → Type 0
  Stays k = Known r.calls (machine_at r k) u (length x.bytes) × IsInCur (get (names_of (box_in (machine_at r k))) u)

  stays-first : Stays i
  stays-first = (
    known-there r.calls (machine_at r i) u (length x.bytes) (is-good r run i) (x, there, refl),
    subst IsInCur (sym (get-names (box_in (machine_at r i)) u ∙ ap (option_map (as_listed u)) there)) at,
  )

  stays-one : (k : ℕ) → Stays k → Stays (k + 1)
  stays-one k was = at_place r.events k
      (λ e is.
      let g = going-at r run each-turn k e is in (
        known-more r.calls (machine_at r k) (machine_at r (k + 1)) (what-at r run each-turn k e is) g u (length x.bytes) was.0,
        cur-kept r (machine_at r k) (machine_at r (k + 1)) (what-at r run each-turn k e is) g u (length x.bytes) was.0 was.1,
      ))
      (λ past. subst (λ (m : Machine). Known r.calls m u (length x.bytes) × IsInCur (get (names_of (box_in m)) u))
      (sym (moment-over r k past)) was)

  stays-by : (d : ℕ) → Stays (i + d)
  stays-by zero = let e : i ≡ i + 0 = omega arith in subst Stays e stays-first
  stays-by (suc d) = let e : (i + d) + 1 ≡ i + suc d = omega arith in subst Stays e (stays-one (i + d) (stays-by d))

  in-cur : (o : Option Entry) (e : Entry) → o ≡ Some e → IsInCur (option_map (as_listed u) o) → e.place ≡ Cur
  in-cur o e is h = subst (λ (y : Option Entry). IsInCur (option_map (as_listed u) y)) is h

  pub stays-in_cur : (j : ℕ) → i ≤ j → (e : Entry) → get (box_in (machine_at r j)) u ≡ Some e → e.place ≡ Cur
  stays-in_cur j within e is =
      let same : i + (j - i) ≡ j = omega (arith, within) in
      let now : IsInCur (get (names_of (box_in (machine_at r j))) u) = (subst Stays same (stays-by (j - i))).1 in
      in-cur (get (box_in (machine_at r j)) u) e is (subst IsInCur (get-names (box_in (machine_at r j)) u) now)

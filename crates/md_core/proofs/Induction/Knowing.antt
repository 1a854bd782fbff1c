-- What is known of a message that was found stays known: its bytes stay, and nothing makes its name again.
use Rattle.std.proofs.Common.{ℕ, suc, ◌≡◌, inl, inr, List, Option, Some, None, cond, MatchOption, IfSome, sym, ap, subst, ◌∙◌, length, slice_get}
use Rattle.std.specs.FinMap as finmap
use Rattle.md_core.proofs.Values.{State, Call, Effect, Task, Deliver, Errand, Clean, Answer, Stage, Start, Writing, Linked, Undo, Entry, Mailbox, mailbox_of, Machine, working, Step, AsAlone, MakesMessage, option_or, delivery_effect}
use Rattle.md_core.proofs.Theorem.RunLaw.{is_linked}
use Rattle.md_core.proofs.Induction.Good.{HasNoMessage, StageFits, TaskFits, IsGood, Found, HasSize, IsOfSize, Known, Settles, own_effect}
use Rattle.md_core.proofs.Directories.Frames.{unused-no_message}
use Rattle.md_core.proofs.Induction.Going.{Goes, goes-cases, still-working}
use Rattle.md_core.proofs.Mailbox.Shown.{mailbox-shows}
use Rattle.md_core.proofs.Mailbox.Wholeness.{as_alone-after}
use Rattle.md_core.proofs.Machines.Errand.Table.Alone.{gives-makes}

-- a job that has had no effect makes only names that no message has
pub makes-none : (s : State) (number : ℕ) (asked : Call) (task : Task) (u : List ℕ) → TaskFits s asked task → own_effect number task ≡ None →
    MakesMessage asked u → HasNoMessage s u
makes-none s number asked (Deliver d) u fits without makes =
    subst (HasNoMessage s) (subst (λ (c : Call). MakesMessage c u) fits.of makes) (by d.stage fits.stage without)
  where
    by : (stage : Stage) → StageFits s d stage → cond {A = Option Effect} (is_linked stage) (Some (delivery_effect number d)) None ≡ None →
        HasNoMessage s d.tmp.name
    by Start h is = unused-no_message s d.tmp.name h
    by (Writing start k) h is = h.1
    by Linked h is = cc
    by (Undo a) h is = h.0
makes-none s number asked (Errand e) u fits without makes = fits.none u makes
makes-none s number asked (Clean c) u fits without makes = absurd (subst (λ (x : Call). MakesMessage x u) fits makes)

-- a message that is there is known
pub known-there : (calls : List Call) (m : Machine) (u : List ℕ) (size : ℕ) → IsGood calls m → IsOfSize (mailbox_of m.dirs) u size → Known calls m u size
known-there calls m u size good is = record {
  has_size = λ e at. let same : is.0 ≡ e = (let h : Some is.0 ≡ Some e = sym is.1 ∙ at in cc) in ap (λ (x : Entry). length x.bytes) (sym same) ∙ is.2;
  unmade = λ j asked task of at without makes.
      let h = mailbox-shows m.dirs u is.0 is.1 in
      let gone = makes-none m.dirs (suc j) asked task u (good.fits j asked task of at) without makes h.path h.message h.unique in
      let there = h.there in
      cc;
}

module _ (calls : List Call) (m m' : Machine) (what : Step) (g : Goes calls m m' what) (u : List ℕ) (size : ℕ) (known : Known calls m u size) where
  -- the job that took its turn, if it has had no effect by then
  mine : own_effect what.job g.task ≡ None → MakesMessage g.asked u → ⊥
  mine without = known.unmade g.place g.asked g.task g.of g.there (ap (λ n. own_effect n g.task) (sym g.number_is) ∙ without)

  size-after : HasSize (mailbox_of m'.dirs) u size
  size-after = by what.effect g.does.as_alone g.does.first
    where
      by : (o : Option Effect) → AsAlone g.asked o (mailbox_of m.dirs) (mailbox_of m'.dirs) → IfSome o (λ e. own_effect what.job g.task ≡ None) →
          HasSize (mailbox_of m'.dirs) u size
      by None same first e at = known.has_size e (ap (λ (x : Mailbox). finmap.get x u) (sym same) ∙ at)
      by (Some x) alone first e at = elim (as_alone-after g.asked (Some x) (mailbox_of m.dirs) (mailbox_of m'.dirs) alone u e at) [
        | inl gives ↦ absurd (mine first (gives-makes g.asked (mailbox_of m.dirs) u e.bytes gives))
        | inr had ↦ ap length (sym had.2) ∙ known.has_size had.0 had.1
      ]

  unmade-after : (j : ℕ) (asked : Call) (task : Task) → slice_get calls j ≡ Some asked → slice_get m'.jobs j ≡ Some (working task) →
      own_effect (suc j) task ≡ None → MakesMessage asked u → ⊥
  unmade-after j asked task of at without makes = goes-cases calls m m' what g j (working task) at
      (λ same now.
      let on = still-working task g.task' what.answer now in
      let its : asked ≡ g.asked = (let e : Some asked ≡ Some g.asked = sym of ∙ ap (slice_get calls) same ∙ g.of in cc) in
      let kept : own_effect what.job g.task' ≡ option_or what.effect (own_effect what.job g.task) =
      subst (λ (o : Option Answer). MatchOption o (own_effect what.job g.task' ≡ option_or what.effect (own_effect what.job g.task))
      (Settles (option_or what.effect (own_effect what.job g.task)))) on.0 g.does.settles in
      let number : suc j ≡ what.job = ap suc same ∙ sym g.number_is in
      let none : option_or what.effect (own_effect what.job g.task) ≡ None = sym kept ∙ ap (own_effect what.job) (sym on.1) ∙
      ap (λ n. own_effect n task) (sym number) ∙ without in
      mine (neither what.effect (own_effect what.job g.task) none) (subst (λ (c : Call). MakesMessage c u) its makes))
      (λ differ was. known.unmade j asked task of was without makes)
    where
      neither : (a b : Option Effect) → option_or a b ≡ None → b ≡ None
      neither None b is = is
      neither (Some e) b is = cc

  pub known-more : Known calls m' u size
  known-more = record { has_size = size-after; unmade = unmade-after }

-- what a task has found by then is known
pub found-after : (calls : List Call) (m m' : Machine) (what : Step) (g : Goes calls m m' what) (good : IsGood calls m) →
    (i : ℕ) (task : Task) (u : List ℕ) (size : ℕ) → slice_get m'.jobs i ≡ Some (working task) → Found task u size → Known calls m' u size
found-after calls m m' what g good i task u size is its = known-more calls m m' what g u size (goes-cases calls m m' what g i (working task) is
    (λ same now.
    let on = still-working task g.task' what.answer now in
    elim (g.does.found u size on.0 (subst (λ (t : Task). Found t u size) on.1 its)) [
      | inl before ↦ good.found g.place g.task u size g.there before
      | inr there ↦ known-there calls m u size good there
    ])
    (λ differ was. good.found i task u size was its))

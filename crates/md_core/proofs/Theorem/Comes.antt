-- Each message of a run has whole bytes, at each moment.
use Rattle.std.proofs.Common.{ℕ, zero, suc, ◌≡◌, ◌≤◌, ◌+◌, ◌⊎◌, inl, inr, List, Option, Some, None, true, is_some, refl, sym, ap, subst, ◌∙◌, slice_get, arith}
use Rattle.std.specs.FinMap as finmap
use Rattle.md_core.proofs.Values.{Call, Effect, Entry, Mailbox, Machine, Occurrence, Step, call_at, Run, machine_at, box_in, IsRun, AsAlone}
use Rattle.md_core.proofs.Theorem.RunLaw.{IsWhole}
use Rattle.md_core.proofs.Induction.Good.{EachTurn}
use Rattle.md_core.proofs.Induction.Going.{Goes}
use Rattle.md_core.proofs.Induction.GoodRuns.{what-at, going-at, done-what}
use Rattle.md_core.proofs.Lists.Places.{at_place}
use Rattle.md_core.proofs.Runs.ByEvent.{moment-start, moment-over}
use Rattle.md_core.proofs.Mailbox.Wholeness.{as_alone-after}
use Rattle.md_core.proofs.Machines.Errand.Table.Alone.{Had, Gives}

-- a message after a step has its bytes from before, or from an effect
given-or-had : (asked : Call) (effect : Option Effect) (m m' : Mailbox) → AsAlone asked effect m m' → (u : List ℕ) (e : Entry) → finmap.get m' u ≡ Some e →
    ((is_some effect ≡ true) × Gives asked m u e.bytes) ⊎ Had m u e.bytes
given-or-had asked None m m' same u e at = inr (e, ap (λ (x : Mailbox). finmap.get x u) (sym same) ∙ at, refl)
given-or-had asked (Some x) m m' is u e at = elim (as_alone-after asked (Some x) m m' is u e at) [ inl gives ↦ inl (refl, gives) | inr had ↦ inr had ]

-- each message is whole at moment k
abbrev Wholes : Run → ℕ → Type 0
Wholes r k = (u : List ℕ) (e : Entry) → finmap.get (box_in (machine_at r k)) u ≡ Some e → IsWhole r k u e.bytes

-- what is whole stays so
whole-later : (r : Run) (j k : ℕ) (u bytes : List ℕ) → j ≤ k → IsWhole r j u bytes → IsWhole r k u bytes
whole-later r j k u bytes within (inl delivered) = inl delivered
whole-later r j k u bytes within (inr (inl had)) = inr (inl had)
whole-later r j k u bytes within (inr (inr c)) = inr (inr (record {
  event = c.event;
  before = (let less = c.before in omega arith);
  what = c.what;
  at = c.at;
  is_effect = c.is_effect;
  call = c.call;
  of = c.of;
  unique = c.unique;
  copies = c.copies;
  source = c.source;
  had = c.had;
  same = c.same;
}))

module _ (r : Run) (run : IsRun r) (turns : EachTurn) where
  module _ (k : ℕ) (e : Occurrence) (at : slice_get r.events k ≡ Some e) where
    abbrev what : Step
    what = what-at r run turns k e at

    going : Goes r.calls (machine_at r k) (machine_at r (k + 1)) what
    going = going-at r run turns k e at

    -- what an effect gives is whole
    given-whole : (asked : Call) (u bytes : List ℕ) → slice_get r.calls going.place ≡ Some asked → is_some what.effect ≡ true →
        Gives asked (box_in (machine_at r k)) u bytes → IsWhole r (k + 1) u bytes
    given-whole asked u bytes of effect (inl delivers) = inl (going.place, asked, of, delivers)
    given-whole asked u bytes of effect (inr copies) = inr (inr (record {
      event = k;
      before = omega arith;
      what = what;
      at = done-what r run turns k e at;
      is_effect = effect;
      call = asked;
      of = ap (call_at r.calls) going.number_is ∙ of;
      unique = copies.0;
      copies = copies.1;
      source = copies.2.0;
      had = copies.2.1;
      same = copies.2.2;
    }))

    wholes-more : Wholes r k → Wholes r (k + 1)
    wholes-more wholes u entry there =
        elim (given-or-had going.asked what.effect (box_in (machine_at r k)) (box_in (machine_at r (k + 1))) going.does.as_alone u entry there) [
          | inl given ↦ given-whole going.asked u entry.bytes going.of given.0 given.1
          | inr had ↦ whole-later r k (k + 1) u entry.bytes (omega arith) (subst (IsWhole r k u) had.2 (wholes u had.0 had.1))
        ]

  pub wholes-moment : (k : ℕ) → Wholes r k
  wholes-moment zero = λ u e at. inr (inl (e, ap (λ (m : Machine). finmap.get (box_in m) u) (sym (moment-start r)) ∙ at, refl))
  wholes-moment (suc k) =
      let next : k + 1 ≡ suc k = omega arith in
      let before : Wholes r k = wholes-moment k in
      subst (Wholes r) next (at_place r.events k
      (λ e at. wholes-more k e at before)
      (λ past u entry there.
      whole-later r k (k + 1) u entry.bytes (omega arith) (before u entry (ap (λ (m : Machine). finmap.get (box_in m) u) (sym (moment-over r k past)) ∙ there))))

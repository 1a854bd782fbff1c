-- How often a unique name was touched by a moment, and that it stays as it is where it is not touched.
use Rattle.std.proofs.Common.{ℕ, ◌≡◌, ◌≢◌, ◌≤◌, ◌+◌, ◌++◌, ◌⊎◌, inl, inr, List, [], ◌∷◌, Option, Some, None, Bool, true, false, cond, not, ◌&&◌, IfSome, refl, sym, ap, ◌∙◌, length, drop, slice_get, arith, ◌==◌}
use Rattle.std.specs.Prelude.{count_by}
use Rattle.std.proofs.Math.Seq.{drop-append_seam}
use Rattle.std.proofs.lemmas.Bool.Decides.{nat_tests}
use Rattle.std.proofs.lemmas.Cmp.{nat_list_cmp_total}
use Rattle.std.proofs.lemmas.List.{append-nil}
use Rattle.std.proofs.lemmas.List.Sums.{sum_by-append}
use Rattle.std.proofs.lemmas.Map.Lookups.{exact_bytes}
use Rattle.lists.proofs.Maps.{beside_put, beside_drop}
use Rattle.md_core.proofs.Values.{Change, Effect, unique_of, is_named, Mailbox, Names, names_of, names_after_change, Machine, Occurrence, Step, effects, Run, machine_at, box_in, IsRun, AsAlone, is_on, is_touch, MakesMessage, trace_of, option_to_list, get}
use Rattle.md_jobs.specs.declared.effect.Change.TheVariants as change
use Rattle.md_core.proofs.Induction.Good.{Affects}
use Rattle.md_core.proofs.Machines.EachTurn.{each-turn}
use Rattle.md_core.proofs.Induction.Going.{Goes}
use Rattle.md_core.proofs.Theorem.Growing.{Grows, grows}
use Rattle.md_core.proofs.Induction.GoodRuns.{what-at, going-at}
use Rattle.md_core.proofs.Looking.LookUps.{unique-named}
use Rattle.md_core.proofs.Lists.Places.{at_place}
use Rattle.md_core.proofs.Runs.ByEvent.{moment-over}
use Rattle.md_core.proofs.Mailbox.Allowed.{FitsNames, allowed-fits, renamed-beside}
use Rattle.md_core.proofs.Traces.Same.{effects-same}

-- ---- one effect

-- a name that is not touched
not-named : (u name : List ℕ) → is_named u name ≡ false → u ≢ unique_of name
not-named u name none is = let yes = unique-named u name (sym is) in cc

-- a change that is not on a unique name leaves it as it is
pub stays-beside : (n : Names) (P : List ℕ → Type 0) (c : Change) (u : List ℕ) → FitsNames n P c → is_on u c ≡ false →
    get (names_after_change n c) u ≡ get n u
stays-beside n P (change.Add folder place name size) u fits none =
    beside_put nat_list_cmp_total exact_bytes n (unique_of name) u _ (not-named u name none)
stays-beside n P (change.Rename folder place name to_folder to_place to_name) u fits none =
    renamed-beside n (unique_of name) (unique_of to_name) u _ fits.0 (not-named u name none)
stays-beside n P (change.Remove folder place name) u fits none =
    beside_drop nat_list_cmp_total exact_bytes n (unique_of name) u (not-named u name none)
stays-beside n P change.Same u fits none = refl

-- ---- the effects by a moment

count-append : {X : Type 0} (p : X → Bool) (xs ys : List X) → count_by p (xs ++ ys) ≡ count_by p xs + count_by p ys
count-append p xs ys = sum_by-append (λ x. cond {A = ℕ} (p x) 1 0) xs ys

-- how often other jobs touched a unique name by a moment
abbrev pub touches : Run → ℕ → List ℕ → ℕ → ℕ
touches r job u k = count_by (is_touch job u) (machine_at r k).effects

module _ (r : Run) (run : IsRun r) where
  going : (k : ℕ) (e : Occurrence) (at : slice_get r.events k ≡ Some e) →
      Goes r.calls (machine_at r k) (machine_at r (k + 1)) (what-at r run each-turn k e at)
  going = going-at r run each-turn

  grows-one : (k : ℕ) → Grows r k (k + 1)
  grows-one k = at_place r.events k
      (λ e at. (option_to_list (what-at r run each-turn k e at).effect, (going k e at).effects))
      (λ past. ([], ap (λ (m : Machine). m.effects) (moment-over r k past) ∙ sym (append-nil (machine_at r k).effects)))

  -- the effects between two moments
  abbrev effects_between : ℕ → ℕ → List Effect
  effects_between i j = drop (length (effects (trace_of r) i)) (effects (trace_of r) j)

  pub touches-between : (job : ℕ) (u : List ℕ) (i j : ℕ) → i ≤ j →
      touches r job u i + count_by (is_touch job u) (effects_between i j) ≡ touches r job u j
  touches-between job u i j within =
      let later = grows r grows-one i j within in
      let rest : effects_between i j ≡ later.0 =
      (λ p. drop (length (effects-same r run i p)) (effects-same r run j p)) ∙ ap (drop (length (machine_at r i).effects)) later.1 ∙ drop-append_seam (machine_at r i).effects later.0 in
      ap (λ (es : List Effect). touches r job u i + count_by (is_touch job u) es) rest
      ∙ sym (count-append (is_touch job u) (machine_at r i).effects later.0) ∙ ap (count_by (is_touch job u)) (sym later.1)

  pub touches-rise : (job : ℕ) (u : List ℕ) (i j : ℕ) → i ≤ j → touches r job u i ≤ touches r job u j
  touches-rise job u i j within = let h = touches-between job u i j within in omega (arith, h)

  -- an event of another job touches a unique name, or leaves it as it is
  module _ (k : ℕ) (e : Occurrence) (at : slice_get r.events k ≡ Some e) (job : ℕ) (differ : job ≢ e.event.job) (u : List ℕ) where
    abbrev what : Step
    what = what-at r run each-turn k e at

    abbrev TouchesOr : Type 0
    TouchesOr =
        (touches r job u (k + 1) ≡ touches r job u k + 1) ⊎
        (get (names_of (box_in (machine_at r (k + 1)))) u ≡ get (names_of (box_in (machine_at r k))) u)

    other-job : (x : Effect) → x.job ≡ e.event.job → not (x.job == job) ≡ true
    other-job x is = let no : x.job ≢ job = (λ same. differ (sym same ∙ is)) in grind (arith, nat_tests)

    one-more : (x : Effect) → what.effect ≡ Some x → is_touch job u x ≡ true → touches r job u (k + 1) ≡ touches r job u k + 1
    one-more x some touch =
        let one : count_by (is_touch job u) (x ∷ []) ≡ 1 = ap (λ b. 0 + cond {A = ℕ} b 1 0) touch in
        ap (count_by (is_touch job u)) ((going k e at).effects ∙ ap (λ o. (machine_at r k).effects ++ option_to_list o) some)
        ∙ count-append (is_touch job u) (machine_at r k).effects (x ∷ []) ∙ ap (λ n. touches r job u k + n) one

    pub touched-or_not : TouchesOr
    touched-or_not = by what.effect refl (going k e at).does.as_alone (going k e at).does.effect
      where
        by : (o : Option Effect) → what.effect ≡ o → AsAlone (going k e at).asked o (box_in (machine_at r k)) (box_in (machine_at r (k + 1))) →
            IfSome o (Affects what.job (going k e at).asked (machine_at r k).dirs.folders (box_in (machine_at r k)) (box_in (machine_at r (k + 1)))) →
            TouchesOr
        by None is same affects = inr (ap (λ (m : Mailbox). get (names_of m) u) same)
        by (Some x) is alone affects = on (is_on u x.change) refl
          where
            on : (b : Bool) → is_on u x.change ≡ b → TouchesOr
            on true touch = inl (one-more x is ((λ i. other-job x affects.of i && touch i)))
            on false none = inr (ap (λ (n : Names). get n u) affects.changes
                ∙ stays-beside (names_of (box_in (machine_at r k))) (MakesMessage (going k e at).asked) x.change u
                (allowed-fits (machine_at r k).dirs.folders (names_of (box_in (machine_at r k))) (MakesMessage (going k e at).asked) x.answer x.change
                affects.allowed) none)

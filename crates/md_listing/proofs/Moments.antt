-- The moments of a trace are moments of its history.
use Rattle.std.proofs.Common.{ℕ, ◌≡◌, ◌≤◌, ◌+◌, ◌++◌, List, Option, refl, sym, ap, ◌∙◌, length, take, drop, arith}
use Rattle.std.proofs.lemmas.List.{length-append, take_at, take_all, take-take, take-append-drop}
use Rattle.std.proofs.lemmas.List.Elements.{filter_map-append}
use Rattle.std.specs.List.{filter_map}
use Rattle.md_jobs.specs.declared.effect.Effect.{Effect}
use Rattle.md_core.specs.Mailbox.{mailbox_of}
use Rattle.md_core.specs.History.{Names, names_of, names_after}
use Rattle.md_core.specs.Trace.{Trace, Step, box, effects}
use Rattle.md_core.specs.Interleaving.{Interleaves}
use Rattle.md_listing.specs.Law.{names_after_first}

module _ (t : Trace) (all : Interleaves t) where
  abbrev pub opening_of : Names
  opening_of = names_of (mailbox_of t.image)

  abbrev pub history_of : List Effect
  history_of = effects t (length t.steps)

  abbrev own_of : Step → Option Effect
  own_of x = x.effect

  -- the effects up to a moment begin those up to a later one
  grown : (i j : ℕ) → i ≤ j → (later : List Effect) × (effects t j ≡ effects t i ++ later)
  grown i j within =
      let first : take i (take j t.steps) ≡ take i t.steps = take-take i j t.steps within in
      let parts : take j t.steps ≡ take i t.steps ++ drop i (take j t.steps) =
      sym (take-append-drop i (take j t.steps)) ∙ ap (λ (xs : List Step). xs ++ drop i (take j t.steps)) first in (
        filter_map own_of (drop i (take j t.steps)),
        ap (filter_map own_of) parts ∙ filter_map-append own_of (take i t.steps) (drop i (take j t.steps)),
      )

  -- how many effects there were before a moment
  abbrev pub count_at : ℕ → ℕ
  count_at k = length (effects t k)

  pub counts-rise : (i j : ℕ) → i ≤ j → count_at i ≤ count_at j
  counts-rise i j within =
      let later = grown i j within in
      let long : count_at j ≡ count_at i + length later.0 = ap length later.1 ∙ length-append (effects t i) later.0 in
      omega (arith, long)

  -- from the last step on there are all effects
  past-all : (k : ℕ) → length t.steps ≤ k → effects t k ≡ history_of
  past-all k past = ap (filter_map own_of) (take_all k t.steps past ∙ sym (take_all (length t.steps) t.steps (omega arith)))

  pub names-counted : (k : ℕ) → names_of (box t k) ≡ names_after_first opening_of history_of (count_at k)
  names-counted k =
      let later = grown k (k + length t.steps) (omega arith) in
      let whole : history_of ≡ effects t k ++ later.0 = sym (past-all (k + length t.steps) (omega arith)) ∙ later.1 in
      let front : take (count_at k) history_of ≡ effects t k = ap (take (count_at k)) whole ∙ take_at (effects t k) later.0 (count_at k) refl in
      sym (all.names k) ∙ ap (names_after opening_of) (sym front)

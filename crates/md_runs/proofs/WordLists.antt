-- The operands that a subcommand is called with.
use Rattle.std.proofs.Common.{◌≡◌, ℕ, ◌-◌, ◌≤◌, ◌∙◌, Bool, true, false, not, List, [], ◌∷◌, length, map, take, drop, get_or, sym, ap, refl, arith}
use Rattle.std.specs.Str.{bytes_eq}
use Rattle.std.proofs.lemmas.Slice.Eq.{bytes_eq-Decides}
use Rattle.std.proofs.lemmas.List.{take_all}
use denote.Ref.{Bor}
use Rattle.md_runs.specs.Runs.{IsCommand, operands_of}

abbrev Word : Type 0
Word = Bor (List ℕ)

abbrev texts : List Word → List (List ℕ)
texts words = map (λ word. word.now) words

-- a first word that is equal, and the operands of those after it
pub called : (words : List Word) (none : Word) (name : List ℕ) (operands : List (List ℕ)) → 1 ≤ length words →
    false ≡ not (bytes_eq (get_or words 0 none).now name) →
    operands ≡ operands_of (texts (take (length words - 1) (drop 1 words))) → IsCommand (texts words) name operands
called [] none name operands long same is = absurd (omega arith)
called (w ∷ ws) none name operands long same is = record {
  others = texts ws;
  words_are = ap (λ (text : List ℕ). text ∷ texts ws) ((bytes_eq-Decides w.now name).0 (holds _ same));
  operands_are = sym (is ∙ ap (λ (rest : List Word). operands_of (texts rest)) (all ws));
}
  where
    holds : (b : Bool) → false ≡ not b → b ≡ true
    holds true e = refl
    holds false e = e

    all : (rest : List Word) → take (length (w ∷ rest) - 1) rest ≡ rest
    all rest = take_all _ rest (omega arith)

-- Findings of one line stay in the order of the law as one more is added.
use Rattle.std.proofs.Common.{suc, ◌≡◌, ◌<◌, inl, inr, List, [], ◌∷◌, ◌++◌, Some, slice_get, sym, ap, subst, ◌∙◌, arith}
use Rattle.std.proofs.lemmas.Option.{slice_get_within}
use Rattle.md_judge.specs.declared.log.Finding.{Finding}
use Rattle.md_log.specs.Texts.{clause_index}
use Rattle.md_judge.specs.Placed.{AreInOrderAtLines, AreBelowAtLine}
use Rattle.md_judge.proofs.Lists.{one-more}

-- one more finding comes after those of its line that are of earlier clauses
pub one-at-lines : (fs gs : List Finding) (f : Finding) → gs ≡ fs ++ f ∷ [] → AreInOrderAtLines fs
    → AreBelowAtLine fs f.line (clause_index f.clause) → AreInOrderAtLines gs × AreBelowAtLine gs f.line (suc (clause_index f.clause))
one-at-lines fs gs f more order below = (
  λ a b g h up first last same. elim (one-more fs f b h (subst (λ (hs : List Finding). slice_get hs b ≡ Some h) more last)) [
    | inl was' ↦ elim (one-more fs f a g (subst (λ (hs : List Finding). slice_get hs a ≡ Some g) more first)) [
      | inl was ↦ order a b g h up was was' same
      | inr now ↦ absurd (let end = now.0 in let low = slice_get_within fs b h was' in omega (arith, end, low, up))
    ]
    | inr now' ↦ elim (one-more fs f a g (subst (λ (hs : List Finding). slice_get hs a ≡ Some g) more first)) [
      | inl was ↦
          subst (λ (x : Finding). clause_index g.clause < clause_index x.clause) now'.1
          (below a g was (same ∙ ap (λ (x : Finding). x.line) (sym now'.1)))
      | inr now ↦ absurd (let end = now.0 in let end' = now'.0 in omega (arith, end, end', up))
    ]
  ],
  λ k g is same. elim (one-more fs f k g (subst (λ (hs : List Finding). slice_get hs k ≡ Some g) more is)) [
    | inl was ↦ let low = below k g was same in omega (arith, low)
    | inr now ↦ subst (λ (x : Finding). clause_index x.clause < suc (clause_index f.clause)) now.1 (omega arith)
  ],
)

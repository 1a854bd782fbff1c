-- Which sets are of letters alone.
use Rattle.std.proofs.Common.{◌≡◌, ℕ, true, false, List, sym, ap, ◌∙◌}
use Rattle.std.specs.Prelude.{nat_eq}
use Rattle.std.specs.List.{list_all}
use Rattle.std.specs.Ordering.{nat_cmp}
use Rattle.std.specs.FinSet as set
use Rattle.std.proofs.lemmas.Bool.{eqb-true, true_from_ne_false, false_from_ne_true}
use Rattle.md_name.specs.Letters.{is_letter, IsOfLetters}
use Rattle.md_name.specs.Words.{letters_in}
use Rattle.md_name.specs.WordSets.{contains-letters_in}
use Rattle.md_name.proofs.Digits.{and_first}
use Rattle.md_name.proofs.Flagged.{none_of_letters}

pub IsOfLetters-letters_in : (w : ℕ) → IsOfLetters (letters_in w)
IsOfLetters-letters_in w = record { each = λ c h. and_first (is_letter c) _ (sym (contains-letters_in w c) ∙ h) }

pub IsOfLetters-empty : IsOfLetters set.empty
IsOfLetters-empty = record { each = λ c h. let none = set.contains-empty nat_cmp c in cc }

pub IsOfLetters-from_list : (xs : List ℕ) → list_all is_letter xs ≡ true → IsOfLetters (set.from_list xs)
IsOfLetters-from_list xs all = record {
  each = λ c h. true_from_ne_false (is_letter c) (λ other.
      let apart : (x : ℕ) → is_letter x ≡ true → nat_eq x c ≡ false = λ x letter. false_from_ne_true (nat_eq x c) (λ same. let is = ap is_letter (eqb-true x c same) in cc) in
      let none = none_of_letters (λ y. nat_eq y c) apart xs all in
      let some = set.contains-from_list_nat xs c in
      cc);
}

-- Sets of flags are known by their words.
use Rattle.std.proofs.Common.{ℕ, ◌≡◌, ◌&&◌, Bool, true, false, cond, nat_eq, List, drop, Option, Some, None, refl, subst}
use Rattle.std.specs.Prelude.{codes}
use Rattle.std.specs.FinSet as set
use Rattle.std.specs.List.{list_all, starts_with}
use Rattle.md_name.specs.Letters.{is_letter, Set, IsOfLetters, is_same_set}
use Rattle.md_name.specs.Names.{info_text, info_by, info_of, flags_of}
use Rattle.md_name.specs.Words.{word_of}
use Rattle.md_name.specs.declared.info.Info.TheVariants.{Two, Opaque}
use Rattle.md_name.proofs.SameSets.{words-same}
use Rattle.md_name.proofs.Sets.{IsOfLetters-empty, IsOfLetters-from_list}
use Rattle.md_monitor.specs.Files.{is_some_and}

-- the flags of a name are letters
info-letters : (name : List ℕ) (flags : Set) → flags_of (info_of name) ≡ Some flags → IsOfLetters flags
unfolding info_by
info-letters name flags is = by (info_text name) is
  where
    parsed : (text : List ℕ) (b c : Bool) → list_all is_letter (drop 2 text) ≡ c
        → flags_of (cond (b && c) (Two (set.from_list (drop 2 text))) Opaque) ≡ Some flags
        → IsOfLetters flags
    parsed text true true all is = let same : set.from_list (drop 2 text) ≡ flags = cc in
        subst IsOfLetters same (IsOfLetters-from_list (drop 2 text) all)
    parsed text true false all is = cc
    parsed text false c all is = cc

    by : (o : Option (List ℕ)) → flags_of (info_by o) ≡ Some flags → IsOfLetters flags
    by None is = let same : set.empty ≡ flags = cc in subst IsOfLetters same IsOfLetters-empty
    by (Some text) is = parsed text (starts_with nat_eq text (codes "2,")) (list_all is_letter (drop 2 text)) refl is

-- and are known by their word
pub word-shown : (name : List ℕ) (flags : Set) → IsOfLetters flags
    → is_some_and (flags_of (info_of name)) (λ shown. nat_eq (word_of shown) (word_of flags))
    ≡ is_some_and (flags_of (info_of name)) (λ shown. is_same_set shown flags)
word-shown name flags letters = by (flags_of (info_of name)) refl
  where
    by : (o : Option Set) → flags_of (info_of name) ≡ o
        → is_some_and o (λ shown. nat_eq (word_of shown) (word_of flags)) ≡ is_some_and o (λ shown. is_same_set shown flags)
    by None is = refl
    by (Some shown) is = words-same shown flags (info-letters name shown is) letters

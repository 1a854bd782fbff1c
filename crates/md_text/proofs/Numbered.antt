-- The place of a folder's name, among the names as they are held.
use Rattle.std.proofs.Common.{◌≡◌, ◌∙◌, ℕ, suc, ◌+◌, ◌++◌, Bool, true, false, List, [], ◌∷◌, Some, None, cond, length, refl, sym, ap, arith}
use Rattle.std.specs.Prelude.{position}
use Rattle.std.specs.List.{prefix_len, position_from}
use Rattle.std.specs.Option.{option_or}
use Rattle.std.proofs.lemmas.List.{length-map, map_push}
use Rattle.std.proofs.lemmas.Iterator.Adapters.{position_from-zero}
use Rattle.std.specs.Global.{Vec}
use Rattle.std.specs.Str.{bytes_eq}
use Rattle.md_dirs.specs.Index.{get_name}
use Rattle.md_text.specs.Folders.{names_of, place_of, ArePlaces}

prefix_len-names_of : (p : List ℕ → Bool) (names : List (Vec ℕ)) → prefix_len p (names_of names) ≡ prefix_len (λ other. p other.items) names
prefix_len-names_of p [] = refl
prefix_len-names_of p (name ∷ names) = ap (λ n. cond (p name.items) (1 + n) 0) (prefix_len-names_of p names)

pub place_of-names_of : (names : List (Vec ℕ)) (name : List ℕ) → position (λ other. bytes_eq other.items name) names ≡ place_of (names_of names) name
unfolding place_of
place_of-names_of names name = simp (prefix_len-names_of, length-map)

-- the first place among names with one more
from-more : (p : List ℕ → Bool) (names : List (List ℕ)) (name : List ℕ) (i : ℕ) →
    position_from p i (names ++ name ∷ []) ≡ option_or (position_from p i names) (cond (p name) (Some (i + length names)) None)
from-more p [] name i = ap (λ n. cond (p name) (Some n) None) (omega arith)
from-more p (other ∷ names) name i = elim (p other) as (λ b. cond b (Some i) (position_from p (i + 1) (names ++ name ∷ []))
    ≡ option_or (cond b (Some i) (position_from p (i + 1) names)) (cond (p name) (Some (i + suc (length names))) None)) [
      | true ↦ refl
      | false ↦ from-more p names name (i + 1) ∙ ap (λ n. option_or (position_from p (i + 1) names) (cond (p name) (Some n) None)) (omega arith)
    ]

pub place_of-more : (names : List (List ℕ)) (name q : List ℕ) →
    place_of (names ++ name ∷ []) q ≡ option_or (place_of names q) (cond (bytes_eq name q) (Some (length names)) None)
unfolding place_of
place_of-more names name q =
    position_from-zero (λ other. bytes_eq other q) (names ++ name ∷ []) ∙ from-more (λ other. bytes_eq other q) names name 0
    ∙ ap (λ n. option_or (position_from (λ other. bytes_eq other q) 0 names) (cond (bytes_eq name q) (Some n) None)) zero-more
    ∙ ap (λ o. option_or o (cond (bytes_eq name q) (Some (length names)) None)) (sym (position_from-zero (λ other. bytes_eq other q) names))
  where
    zero-more : 0 + length names ≡ length names
    zero-more = omega arith

-- the names with one more are in the table where the name has got its place there, unless it had one
pub noted : (names : List (Vec ℕ)) (added : Vec ℕ) (name : List ℕ) (old new : List (List ℕ × ℕ)) (at : ℕ) → ArePlaces names old → added.items ≡ name →
    at ≡ length names → ((q : List ℕ) → get_name new q ≡ option_or (get_name old q) (cond (bytes_eq name q) (Some at) None)) → ArePlaces (names ++ added ∷ []) new
noted names added name old new at are is long put q =
    let more : names_of (names ++ added ∷ []) ≡ names_of names ++ name ∷ [] =
    map_push (λ (n : Vec ℕ). n.items) names added ∙ ap (λ n. names_of names ++ n ∷ []) is in
    put q
    ∙ (λ j. option_or (are q j) (cond (bytes_eq name q) (Some ((long ∙ sym (length-map names (λ (n : Vec ℕ). n.items))) j)) None))
    ∙ sym (place_of-more (names_of names) name q) ∙ ap (λ ns. place_of ns q) (sym more)

-- no folder has a place
pub fresh : (names : List (Vec ℕ)) (places : List (List ℕ × ℕ)) → names ≡ [] → places ≡ [] → ArePlaces names places
unfolding place_of
fresh names places nobody none name = ap (λ es. get_name es name) none ∙ ap (λ ns. place_of (names_of ns) name) (sym nobody)

-- The first colon of a name, and the parts on both sides of it.
use Rattle.std.proofs.Common.{◌≡◌, ℕ, ◌+◌, Option, cond, List, length, take, drop, None, Some, sym, ap, ◌∙◌, ◌<◌, arith, length-take-le}
use Rattle.std.specs.Prelude.{position}
use Rattle.std.proofs.lemmas.Bool.{false_from_ne_true}
use Rattle.std.proofs.lemmas.List.Sums.{position_or_len_is}
use Rattle.std.specs.List.{after_first, position_or_len}
use Rattle.md_name.proofs.Firsts.{placed, unplaced, place_within, found, not_found}
use Rattle.memchr.specs.Find.{IsFirstByte}
use Rattle.md_name.specs.declared.info.Info.TheVariants.{Bare}
use Rattle.md_name.specs.Names.{is_colon, unique_of, info_text, info_of, info_by}

-- the place that a search gives
pub colon_place : (name : List ℕ) (r : Option ℕ) → IsFirstByte is_colon name r → r ≡ position is_colon name
colon_place name None none = sym (unplaced is_colon name
    (position_or_len_is is_colon name (length name) 0 (omega arith) (λ k h. false_from_ne_true _ (none k (omega arith) h)) (λ h. absurd (omega arith))))
colon_place name (Some at) found = sym (placed is_colon name at found.0.high
    (position_or_len_is is_colon name at 0 (omega (arith, found.0.high)) (λ k h. false_from_ne_true _ (found.0.before k (omega arith) h)) (λ h. found.1)))

-- ---- a name with a colon at a place

pub unique_of-found : (name : List ℕ) (at : ℕ) → position is_colon name ≡ Some at → take at name ≡ unique_of name
unfolding unique_of
unique_of-found name at h = ap (λ n. take n name) (sym (found is_colon name at h).1)

pub info_of-found : (name : List ℕ) (at : ℕ) → position is_colon name ≡ Some at → info_by (Some (drop (at + 1) name)) ≡ info_of name
unfolding info_text
info_of-found name at h =
    let is = found is_colon name at h in
    ap (λ n. info_by (Some (drop (n + 1) name))) (sym is.1) ∙ ap (λ b. info_by (cond b (Some (after_first is_colon name)) None)) (sym is.0)

pub unique_of-not_found : (name : List ℕ) → position is_colon name ≡ None → name ≡ unique_of name
unfolding unique_of
unique_of-not_found name h = sym (not_found is_colon name h).1

pub info_of-not_found : (name : List ℕ) → position is_colon name ≡ None → Bare ≡ info_of name
unfolding info_text info_by
info_of-not_found name h = ap (λ b. info_by (cond b (Some (after_first is_colon name)) None)) (sym (not_found is_colon name h).0)

-- ---- a name with its unique part

length_is_place : (name unique : List ℕ) → unique ≡ unique_of name → position_or_len is_colon name ≡ length unique
unfolding unique_of
length_is_place name unique is = sym (ap length is ∙ length-take-le (position_or_len is_colon name) name (place_within is_colon name))

pub colon_behind : (name unique : List ℕ) → unique ≡ unique_of name → length unique < length name → Some (length unique) ≡ position is_colon name
colon_behind name unique is within = sym (placed is_colon name (length unique) within (length_is_place name unique is))

pub no_colon : (name unique : List ℕ) → unique ≡ unique_of name → (length unique < length name → ⊥) → None ≡ position is_colon name
no_colon name unique is without =
    let place = length_is_place name unique is in
    let most = place_within is_colon name in
    let whole : position_or_len is_colon name ≡ length name = omega (arith, place, most, without) in
    sym (unplaced is_colon name whole)

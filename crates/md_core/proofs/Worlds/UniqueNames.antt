-- What a unique name is.
use Rattle.std.proofs.Common.{ℕ, ◌≡◌, ◌+◌, List, [], ◌∷◌, Option, Some, None, true, false, cond, not, ◌&&◌, refl, ap, ◌∙◌, length, take, arith, nat_lt, nat_le}
use Rattle.std.specs.List.{list_any, position_or_len, after_first}
use Rattle.std.proofs.lemmas.Bool.{and_parts, and_from, or_parts, not-true}
use Rattle.std.proofs.lemmas.List.{take_all}
use Rattle.md_name.specs.Names.{is_colon, is_slash, is_terminator, begins_with_dot, unique_of, info_text, is_message_name, is_maildir_unique, is_unique_name}
use Rattle.md_core.proofs.Induction.Good.{IsUniqueName}

-- no colon in a name: all of it is its unique part
no_colon-length : (u : List ℕ) → list_any is_colon u ≡ false → position_or_len is_colon u ≡ length u
no_colon-length [] none = refl
no_colon-length (b ∷ u) none =
    let parts = or_parts (is_colon b) (list_any is_colon u) none in
    let rest = no_colon-length u parts.1 in
    ap (λ t. cond (not t) (1 + position_or_len is_colon u) 0) parts.0 ∙ omega (arith, rest)

pub no_colon-unique : (u : List ℕ) → list_any is_colon u ≡ false → unique_of u ≡ u
unfolding unique_of
no_colon-unique u none = ap (λ n. take n u) (no_colon-length u none) ∙ take_all (length u) u (omega arith)

pub unique_name : (u : List ℕ) → is_unique_name u ≡ true → IsUniqueName u
unfolding is_unique_name is_maildir_unique is_message_name unique_of info_text
unique_name u is =
    let a = and_parts (is_maildir_unique u && nat_le (length u) 200) (not (list_any is_terminator u)) is in
    let b = and_parts (is_maildir_unique u) (nat_le (length u) 200) a.0 in
    let c = and_parts (nat_lt 0 (length u) && not (begins_with_dot u) && not (list_any is_colon u)) (not (list_any is_slash u)) b.0 in
    let d = and_parts (nat_lt 0 (length u) && not (begins_with_dot u)) (not (list_any is_colon u)) c.0 in
    let e = and_parts (nat_lt 0 (length u)) (not (begins_with_dot u)) d.0 in
    let none = not-true (list_any is_colon u) d.1 in
    let plain = no_colon-unique u none in
    record {
      message = and_from (not (begins_with_dot u)) (nat_lt 0 (length (unique_of u))) e.1 (ap (λ v. nat_lt 0 (length v)) plain ∙ e.0);
      plain = plain;
      bare = ap (λ t. cond {A = Option (List ℕ)} t (Some (after_first is_colon u)) None) none;
    }

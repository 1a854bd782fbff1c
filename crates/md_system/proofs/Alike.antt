-- The order in which messages of one unique name are side by side.
use Rattle.std.proofs.Common.{ℕ, suc, take, ◌≡◌, ◌≤◌, ◌+◌, Bool, true, false, cond, not, ◌&&◌, ◌==◌, nat_lt, List, [], ◌∷◌, length, count_by}
use Rattle.std.proofs.Common.{refl, sym, ap, subst, ◌∙◌, arith}
use Rattle.std.specs.Cmp.{IsTotalOrder, bool_cmp_total, both_tied, unsigned_tied}
use Rattle.std.specs.List.{prefix_len}
use Rattle.std.specs.List.Sorted.{IsSorted, IsPartitionPoint}
use Rattle.std.specs.Ordering.{is_lt, is_le, is_eq, nat_cmp, bool_cmp, ordering_then}
use Rattle.std.specs.Str.{bytes_eq}
use Rattle.std.specs.declared.cmp.Ordering.{Ordering}
use Rattle.std.specs.declared.cmp.Ordering.TheVariants.{Less, Equal, Greater}
use Rattle.std.proofs.lemmas.Cmp.{on_total, then_total, nat_list_cmp_total, nat_cmp_total}
use Rattle.std.proofs.lemmas.Map.Text.{is_eq-slice_cmp}
use Rattle.std.proofs.lemmas.Slice.Eq.{bytes_eq-Decides}
use Rattle.md_name.specs.Names.{begins_with_dot, is_colon, is_message_name, unique_of}
use Rattle.md_dirs.specs.Index.{name_cmp}
use Rattle.md_system.specs.Checks.{is_message, is_of, is_of_in}
use Rattle.md_system.specs.Gathering.{alike_cmp, unique_cmp}
use Rattle.md_system.specs.declared.seen.Seen.{Seen}
use Rattle.md_system.proofs.Counting.{ties-between}

pub unique_total : IsTotalOrder unique_cmp
unique_total =
    then_total (on_total (λ (s : Seen). s.is_file) bool_cmp_total) (on_total (λ (s : Seen). unique_of s.name) nat_list_cmp_total)

pub alike_total : IsTotalOrder alike_cmp
alike_total = then_total unique_total (on_total (λ (s : Seen). s.folder) nat_cmp_total)

-- names in order are so by their unique parts alone
pub by-unique : (all : List Seen) → IsSorted alike_cmp all → IsSorted unique_cmp all
by-unique all sorted = λ k d low high. first _ _ (sorted k d low high)
  where
    first : (a b : Ordering) → is_lt (ordering_then a b) ≡ false → is_lt a ≡ false
    first Less b is = is
    first Equal b is = refl
    first Greater b is = refl

and-false : (b : Bool) → (b && false) ≡ false
and-false true = refl
and-false false = refl

-- whether a name is a message's is said by its unique part
message-unique : (name : List ℕ) → is_message_name name ≡ (not (begins_with_dot (unique_of name)) && nat_lt 0 (length (unique_of name)))
unfolding is_message_name unique_of
message-unique [] = refl
message-unique (b ∷ bs) = by (not (is_colon b)) (prefix_len (λ x. not (is_colon x)) bs)
  where
    IsSaid : List ℕ → Type 0
    IsSaid u = (not (begins_with_dot (b ∷ bs)) && nat_lt 0 (length u)) ≡ (not (begins_with_dot u) && nat_lt 0 (length u))

    by : (t : Bool) (n : ℕ) → IsSaid (take (cond t (1 + n) 0) (b ∷ bs))
    by true n = let next : suc n ≡ 1 + n = omega arith in subst (λ m. IsSaid (take m (b ∷ bs))) next refl
    by false n = and-false (not (begins_with_dot (b ∷ bs)))

both : (a b : Bool) → (a && b) ≡ true → (a ≡ true) × (b ≡ true)
both true b is = (refl, is)
both false b is = cc

-- a test that another implies may stand beside it
beside : (f m e : Bool) → (e ≡ true → m ≡ true) → (f && e) ≡ ((f && m) && e)
beside f m true implied = ap (λ x. f && x) (sym (implied refl)) ∙ end (f && m)
  where
    end : (b : Bool) → b ≡ (b && true)
    end true = refl
    end false = refl
beside f m false implied = and-false f ∙ sym (and-false (f && m))

-- a file that ties with a message is one
module _ (one : Seen) (message : is_message one ≡ true) where
  alike : (other : Seen) → bytes_eq (unique_of other.name) (unique_of one.name) ≡ true → is_message_name other.name ≡ true
  alike other same =
      message-unique other.name
      ∙ ap (λ (u : List ℕ). not (begins_with_dot u) && nat_lt 0 (length u)) ((bytes_eq-Decides (unique_of other.name) (unique_of one.name)).0 same)
      ∙ sym (message-unique one.name) ∙ (both one.is_file (is_message_name one.name) message).1

  file-ties : (f : Bool) → f ≡ is_eq (bool_cmp f one.is_file)
  file-ties f = subst (λ (g : Bool). f ≡ is_eq (bool_cmp f g)) (sym (both one.is_file (is_message_name one.name) message).0) (by f)
    where
      by : (f : Bool) → f ≡ is_eq (bool_cmp f true)
      by true = refl
      by false = refl

  of-unique : (other : Seen) → is_eq (unique_cmp other one) ≡ is_of (unique_of one.name) other
  of-unique other =
      sym (both_tied other.is_file (bytes_eq (unique_of other.name) (unique_of one.name)) (bool_cmp other.is_file one.is_file)
      (name_cmp (unique_of other.name) (unique_of one.name)) (file-ties other.is_file) (sym (is_eq-slice_cmp (unique_of other.name) (unique_of one.name))))
      ∙ beside other.is_file (is_message_name other.name) (bytes_eq (unique_of other.name) (unique_of one.name)) (alike other)

  of-folder : (other : Seen) → is_eq (alike_cmp other one) ≡ is_of_in one.folder (unique_of one.name) other
  of-folder other =
      sym (both_tied (is_of (unique_of one.name) other) (other.folder == one.folder) (unique_cmp other one) (nat_cmp other.folder one.folder)
      (sym (of-unique other)) (sym (unsigned_tied other.folder one.folder)))

  module _ (all : List Seen) (sorted : IsSorted alike_cmp all) (low high : ℕ) (low-in : low ≤ length all) (high-in : high ≤ length all) where
    pub everywhere : IsPartitionPoint (λ y. is_lt (unique_cmp y one) ≡ true) (λ y. is_lt (unique_cmp y one) ≡ false) all low →
        IsPartitionPoint (λ y. is_le (unique_cmp y one) ≡ true) (λ y. is_le (unique_cmp y one) ≡ false) all high →
        low + count_by (is_of (unique_of one.name)) all ≡ high
    everywhere below upto =
        sym (λ i. low + count_by (λ y. of-unique y i) all) ∙ ties-between unique_total all (by-unique all sorted) one low high low-in high-in below upto

    pub in-folder : IsPartitionPoint (λ y. is_lt (alike_cmp y one) ≡ true) (λ y. is_lt (alike_cmp y one) ≡ false) all low →
        IsPartitionPoint (λ y. is_le (alike_cmp y one) ≡ true) (λ y. is_le (alike_cmp y one) ≡ false) all high →
        low + count_by (is_of_in one.folder (unique_of one.name)) all ≡ high
    in-folder below upto =
        sym (λ i. low + count_by (λ y. of-folder y i) all) ∙ ties-between alike_total all sorted one low high low-in high-in below upto

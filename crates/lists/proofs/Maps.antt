-- What a finite map has at a key that was put or dropped, and at another.
use Rattle.std.proofs.Common.{◌≡◌, ◌≢◌, List, [], Some, None, Bool, true, false, cond, not, T, refl, sym, ap, ◌∙◌}
use Rattle.std.specs.declared.cmp.Ordering.{Ordering}
use Rattle.std.specs.Ordering.{eq_by_cmp, is_eq}
use Rattle.std.specs.Cmp.{Equal-is, IsTotalOrder, eq_by_cmp_equiv}
use Rattle.std.specs.FinMap as finmap
use Rattle.std.specs.FinMap.{FinMap, get, find, is_sorted, same_map, same_entries_map, from_sorted, get-insert, get-remove, get-entries, get-from_sorted, entries_sorted, entries-from_sorted, len-empty, len-entries}
use Rattle.std.specs.FinMap.Entries.{where_key, find-where_key, is_sorted-where_key}
use Rattle.std.proofs.lemmas.Cmp.{tied_itself}
use Rattle.std.proofs.lemmas.Map.Lookups.{CmpEqualImpliesEq}
use Rattle.std.proofs.lemmas.List.{nil_from_length}

turned : {X : Type 0} (b : Bool) (x y : X) → cond (not b) x y ≡ cond b y x
turned true x y = refl
turned false x y = refl

-- a map of nothing
pub entries-empty : {X K : Type 0} (R : K → K → Ordering) → finmap.entries (finmap.empty {X = X} {R = R}) ≡ []
entries-empty {X = X} R = nil_from_length (finmap.entries finmap.empty) (sym (len-entries (finmap.empty {X = X} {R = R})) ∙ len-empty R X)

pub from-none : {X K : Type 0} (R : K → K → Ordering) (rows : List (K × X)) → rows ≡ [] → from_sorted {R = R} rows ≡ finmap.empty
from-none R rows none = ap from_sorted none ∙ same_entries_map _ _ (entries-from_sorted R [] tt ∙ sym (entries-empty R))

module _ {K : Type 0} {R : K → K → Ordering} (o : IsTotalOrder R) (exact : CmpEqualImpliesEq R) where
  -- whether two keys are one
  pub by_key : {C : Type 0} (a b : K) → (a ≡ b → C) → (a ≢ b → C) → C
  by_key {C = C} a b same other =
      elim (eq_by_cmp R a b) as (λ t. eq_by_cmp R a b ≡ t → C) [
        | true ↦ λ t. same (exact a b ((Equal-is _).0 t))
        | false ↦ λ t. other (λ is. let tie : eq_by_cmp R a b ≡ true = ap (λ (w : K). eq_by_cmp R a w) (sym is) ∙ ap is_eq (tied_itself o a) in cc)
      ] refl

  apart : (a b : K) → a ≢ b → eq_by_cmp R a b ≡ false
  apart a b not =
      elim (eq_by_cmp R a b) as (λ t. eq_by_cmp R a b ≡ t → t ≡ false) [
        | true ↦ λ t. absurd (not (exact a b ((Equal-is _).0 t)))
        | false ↦ λ t. refl
      ] refl

  module _ {X : Type 0} where
    pub find-other : (p q : K) (es : List (K × X)) →
        find R q (where_key R (λ x. not (eq_by_cmp R p x)) es) ≡ cond (eq_by_cmp R q p) None (find R q es)
    find-other p q es =
        find-where_key R (λ x. not (eq_by_cmp R p x)) q (λ x h. ap (λ y. not (eq_by_cmp R p y)) (sym (exact q x h))) es
        ∙ turned (eq_by_cmp R p q) (find R q es) None
        ∙ ap (λ b. cond b None (find R q es)) ((eq_by_cmp_equiv o).symm p q)

    pub entries-remove : (m : FinMap R X) (k : K) → finmap.entries (finmap.remove m k) ≡ where_key R (λ x. not (eq_by_cmp R k x)) (finmap.entries m)
    entries-remove m k =
        let rest = where_key R (λ x. not (eq_by_cmp R k x)) (finmap.entries m) in
        let sorted : T (is_sorted R rest) = is_sorted-where_key R (λ x. not (eq_by_cmp R k x)) (finmap.entries m) (entries_sorted m) in
        ap finmap.entries (same_map o exact _ _ (λ q.
        get-remove o m k q ∙ ap (λ x. cond (eq_by_cmp R q k) None x) (get-entries m q) ∙ sym (get-from_sorted R rest q sorted ∙
        find-other k q (finmap.entries m))))
        ∙ entries-from_sorted R rest sorted

    pub at_put : (m : FinMap R X) (k q : K) (x : X) → q ≡ k → get (finmap.insert m k x) q ≡ Some x
    at_put m k q x same = get-insert o m k x q ∙ ap (λ (w : K). cond (eq_by_cmp R w k) (Some x) (get m q)) same ∙
        ap (λ r. cond (is_eq r) (Some x) (get m q)) (tied_itself o k)

    pub beside_put : (m : FinMap R X) (k q : K) (x : X) → q ≢ k → get (finmap.insert m k x) q ≡ get m q
    beside_put m k q x not = get-insert o m k x q ∙ ap (λ b. cond b (Some x) (get m q)) (apart q k not)

    pub at_drop : (m : FinMap R X) (k q : K) → q ≡ k → get (finmap.remove m k) q ≡ None
    at_drop m k q same = get-remove o m k q ∙ ap (λ (w : K). cond (eq_by_cmp R w k) None (get m q)) same ∙
        ap (λ r. cond (is_eq r) None (get m q)) (tied_itself o k)

    pub beside_drop : (m : FinMap R X) (k q : K) → q ≢ k → get (finmap.remove m k) q ≡ get m q
    beside_drop m k q not = get-remove o m k q ∙ ap (λ b. cond b None (get m q)) (apart q k not)

    pub drop-absent : (m : FinMap R X) (k : K) → get m k ≡ None → finmap.remove m k ≡ m
    drop-absent m k none = same_map o exact _ _ (λ q. by_key q k
        (λ one. at_drop m k q one ∙ sym (ap (get m) one ∙ none))
        (λ differ. beside_drop m k q differ))

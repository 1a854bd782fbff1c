-- Rows as they lie are those that their names' map lists, in another order.
use Rattle.std.proofs.Common.{ℕ, ◌≡◌, ◌++◌, List, [], ◌∷◌, Some, None, cond, All, IsSome, sym, subst, ◌∙◌, arith}
use Rattle.std.proofs.lemmas.List.{length-append, get_or_append_left}
use Rattle.std.proofs.lemmas.List.Elements.{All-tail}
use Rattle.std.proofs.lemmas.List.Sorted.{IsPermutation-refl, IsPermutation-cons, IsPermutation-middle, IsPermutation-trans, IsPermutation-sym, All-permutation}
use Rattle.std.specs.declared.cmp.Ordering.{Ordering}
use Rattle.std.specs.declared.cmp.Ordering.TheVariants.{Less, Equal, Greater}
use Rattle.std.specs.Ordering.{is_eq}
use Rattle.std.specs.List.{IsDistinct}
use Rattle.std.specs.List.Sorted.{IsPermutation}
use Rattle.std.specs.Map.{keys_of}
use Rattle.std.specs.FinMap as finmap
use Rattle.std.specs.FinMap.{find, get-entries, entries-insert, from_entries}
use Rattle.std.specs.FinMap.Entries.{put, by_order}
use Rattle.md_dirs.specs.Index.{name_cmp, get_name, NameMap}
use Rattle.md_dirs.specs.Named.{is_alike}
use Rattle.md_dirs.proofs.Alike.{none-of, distinct-all}
use Rattle.md_dirs.proofs.NameRows.{Row, same, name_total, get-loose}
use Rattle.md_dirs.proofs.Ordered.{listed, listed-itself}

-- a row whose name is new is put among those that are there
put-new : (k : List ℕ) (v : ℕ) (es : List Row) → find name_cmp k es ≡ None → IsPermutation ((k, v) ∷ es) (put name_cmp k v es)
put-new k v [] none = IsPermutation-refl ((k, v) ∷ [])
put-new k v (e ∷ es) none = by (put-new k v es) (name_cmp k e.0) none
  where
    by : (find name_cmp k es ≡ None → IsPermutation ((k, v) ∷ es) (put name_cmp k v es)) → (o : Ordering) →
        cond (is_eq o) (Some e.1) (find name_cmp k es) ≡ None → IsPermutation ((k, v) ∷ e ∷ es) (by_order o ((k, v) ∷ e ∷ es) ((e.0, v) ∷ es) (e ∷ put name_cmp k v es))
    by rest Less none = IsPermutation-refl _
    by rest Equal none = cc
    by rest Greater none = IsPermutation-trans _ _ _ (IsPermutation-middle ((k, v) ∷ []) e es) (IsPermutation-cons e _ _ (rest none))

-- rows of different names are those that their map lists
pub all-listed : (es : List Row) → IsDistinct same (keys_of es) → IsPermutation es (listed es)
unfolding IsDistinct
all-listed [] distinct = subst (IsPermutation []) (listed-itself [] tt) (IsPermutation-refl [])
all-listed (e ∷ es) distinct =
    let new : find name_cmp e.0 (listed es) ≡ None = sym (get-entries (from_entries es) e.0) ∙ get-loose es e.0 ∙ none-of e.0 es distinct.0 in
    subst (IsPermutation (e ∷ es)) (sym (entries-insert name_total (from_entries es) e.0 e.1))
    (IsPermutation-trans _ _ _ (IsPermutation-cons e es (listed es) (all-listed es distinct.1)) (put-new e.0 e.1 (listed es) new))

-- what holds of two lists together holds of each
left : {X : Type 0} (P : X → Type 0) (xs ys : List X) → All P (xs ++ ys) → All P xs
left P xs ys all k d h = subst P (get_or_append_left xs ys d k h) (all k d (omega (arith, h, length-append xs ys)))

right : {X : Type 0} (P : X → Type 0) (xs ys : List X) → All P (xs ++ ys) → All P ys
right P [] ys all = all
right P (x ∷ xs) ys all = right P xs ys (All-tail P x (xs ++ ys) all)

-- the rows of a directory's table and those beside it
module _ (rows others : List Row) (names : NameMap) (unlike : IsDistinct is_alike rows) (differ : IsDistinct same (keys_of others))
    (apart : (name : List ℕ) → IsSome (get_name others name) → get_name rows name ≡ None) (view : from_entries (rows ++ others) ≡ names) where
  pub lying : IsPermutation (finmap.entries names) (rows ++ others)
  lying = IsPermutation-sym (rows ++ others) (finmap.entries names)
      (subst (λ m. IsPermutation (rows ++ others) (finmap.entries m)) view (all-listed (rows ++ others) (distinct-all rows others unlike differ apart)))

  -- what holds of the rows that are listed holds of these
  pub of-rows : (P : Row → Type 0) → All P (finmap.entries names) → All P rows
  of-rows P all = left P rows others (All-permutation P (finmap.entries names) (rows ++ others) lying all)

  pub of-others : (P : Row → Type 0) → All P (finmap.entries names) → All P others
  of-others P all = right P rows others (All-permutation P (finmap.entries names) (rows ++ others) lying all)

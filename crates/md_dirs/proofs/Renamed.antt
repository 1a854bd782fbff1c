-- A row that takes the place of one: the rows stay in order, and the names are as after a name that comes and one that goes.
use Rattle.std.proofs.Common.{ℕ, zero, suc, ◌≡◌, ◌<◌, List, [], ◌∷◌, Some, Bool, true, false, cond, T, length, refl, sym, ◌∙◌, arith, get_or}
use Rattle.std.specs.declared.cmp.Ordering.{Ordering}
use Rattle.std.specs.declared.cmp.Ordering.TheVariants.{Less, Equal, Greater}
use Rattle.std.specs.Ordering.{is_eq}
use Rattle.std.specs.Map.{lookup_key}
use Rattle.std.specs.FinMap.Entries.{below_all}
use Rattle.md_dirs.specs.Index.{name_cmp}
use Rattle.lists.proofs.Booleans.{first, second}
use Rattle.lists.proofs.Orders.{less}
use Rattle.md_dirs.proofs.NameRows.{Row, same, name_exact, turned-test}

-- rows in order
pub below-at : (x : List ℕ) (es : List (List ℕ × ℕ)) (i : ℕ) (d : List ℕ × ℕ) → i < length es → T (below_all name_cmp x es) →
    name_cmp x (get_or es i d).0 ≡ Less
below-at x [] i d within h = absurd (omega arith)
below-at x (e ∷ es) zero d within h = less _ (first _ _ h)
below-at x (e ∷ es) (suc i) d within h = below-at x es i d (omega arith) (second _ _ h)

-- the key that was found is the name
pub found-key : (q : List ℕ) (es : List Row) (k : List ℕ) → Some k ≡ lookup_key (same q) es → k ≡ q
found-key q [] k is = cc
found-key q (e ∷ es) k is = at (found-key q es k) (same q e.0) refl is
  where
    equal : (o : Ordering) → is_eq o ≡ true → o ≡ Equal
    equal Less p = cc
    equal Equal p = refl
    equal Greater p = cc

    at : (Some k ≡ lookup_key (same q) es → k ≡ q) → (b : Bool) → same q e.0 ≡ b → Some k ≡ cond b (Some e.0) (lookup_key (same q) es) → k ≡ q
    at rest true t h =
        let key : k ≡ e.0 = cc in
        let tie : name_cmp e.0 q ≡ Equal = equal _ (sym (turned-test q e.0) ∙ t) in
        key ∙ name_exact e.0 q tie
    at rest false t h = rest h

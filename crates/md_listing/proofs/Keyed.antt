-- Entries under their unique names: what is found in a list, and lists in order.
use Rattle.std.proofs.Common.{ℕ, ◌≡◌, ◌++◌, List, [], ◌∷◌, Option, Some, None, Bool, true, false, cond, T, ◌&&◌, map, refl, sym, ap, subst, ◌∙◌}
use Rattle.std.specs.Option.{option_or}
use Rattle.std.specs.declared.cmp.Ordering.{Ordering}
use Rattle.std.specs.declared.cmp.Ordering.TheVariants.{Less, Equal, Greater}
use Rattle.std.specs.Cmp.{Equal-is}
use Rattle.std.specs.Ordering.{eq_by_cmp, is_lt, is_eq, ordering_reverse}
use Rattle.std.specs.FinMap.{find, get, get-entries, get-from_entries, entries, entries_sorted, values}
use Rattle.std.specs.FinMap.Entries.{is_sorted, below_all, same_entries}
use Rattle.std.proofs.lemmas.Cmp.{nat_list_cmp_total, tied_itself}
use Rattle.std.proofs.lemmas.Map.Lookups.{exact_bytes}
use Rattle.md_core.specs.Mailbox.{name_cmp}
use Rattle.md_listing.specs.declared.entry.Entry.{Entry}
use Rattle.md_listing.specs.Readings.{with_unique, by_unique}

-- the entry of a unique name in a list
abbrev pub lookup : List ℕ → List Entry → Option Entry
lookup u es = find name_cmp u (map with_unique es)

-- a unique name is below those of all entries
abbrev pub IsBelow : List ℕ → List Entry → Type 0
IsBelow u es = T (below_all name_cmp u (map with_unique es))

abbrev pub IsSorted : List Entry → Type 0
IsSorted es = T (is_sorted name_cmp (map with_unique es))

pub in-order : (b : Bool) → T b → b ≡ true
in-order true h = refl
in-order false h = absurd h

pub ordered : (b : Bool) → b ≡ true → T b
ordered b is = subst T (sym is) tt

pub both : (a b : Bool) → T a → T b → T (a && b)
both true b p q = q
both false b p q = p

pub first : (a b : Bool) → T (a && b) → T a
first true b p = tt
first false b p = p

pub second : (a b : Bool) → T (a && b) → T b
second true b p = p
second false b p = absurd p

pub less : (o : Ordering) → T (is_lt o) → o ≡ Less
less Less p = refl
less Equal p = absurd p
less Greater p = absurd p

pub is_less : (o : Ordering) → o ≡ Less → T (is_lt o)
is_less o is = subst (λ r. T (is_lt r)) (sym is) tt

-- two names in the other order
pub turned : (u v : List ℕ) (o : Ordering) → name_cmp v u ≡ o → name_cmp u v ≡ ordering_reverse o
turned u v o is = nat_list_cmp_total.antisymm u v ∙ ap ordering_reverse is

pub tie-itself : (u : List ℕ) → eq_by_cmp name_cmp u u ≡ true
tie-itself u = ap is_eq (tied_itself nat_list_cmp_total u)

pub tie-same : (u v : List ℕ) → eq_by_cmp name_cmp u v ≡ true → u ≡ v
tie-same u v t = exact_bytes u v ((Equal-is _).0 t)

-- what is below another name is below all that this is below
pub below-less : (u v : List ℕ) (es : List Entry) → name_cmp u v ≡ Less → IsBelow v es → IsBelow u es
below-less u v [] p h = tt
below-less u v (e ∷ es) p h =
    both _ _ (is_less _ (nat_list_cmp_total.trans u v e.unique p (less _ (first _ _ h)))) (below-less u v es p (second _ _ h))

-- a name below all entries isn't found
pub lookup-below : (u : List ℕ) (es : List Entry) → IsBelow u es → lookup u es ≡ None
lookup-below u [] h = refl
lookup-below u (e ∷ es) h = ap (λ r. cond (is_eq r) (Some e) (lookup u es)) (less _ (first _ _ h)) ∙ lookup-below u es (second _ _ h)

pub lookup-append : (u : List ℕ) (xs ys : List Entry) → lookup u (xs ++ ys) ≡ option_or (lookup u xs) (lookup u ys)
lookup-append u [] ys = refl
lookup-append u (x ∷ xs) ys =
    elim (eq_by_cmp name_cmp u x.unique) as (λ b. cond b (Some x) (lookup u (xs ++ ys)) ≡ option_or (cond b (Some x) (lookup u xs)) (lookup u ys)) [
      | true ↦ refl
      | false ↦ lookup-append u xs ys
    ]

pub get-by_unique : (u : List ℕ) (es : List Entry) → get (by_unique es) u ≡ lookup u es
get-by_unique u es = get-from_entries nat_list_cmp_total (map with_unique es) u

pub values-keyed : (es : List Entry) → map (λ (x : List ℕ × Entry). x.1) (map with_unique es) ≡ es
values-keyed [] = refl
values-keyed (e ∷ es) = ap (λ (rest : List Entry). e ∷ rest) (values-keyed es)

-- a list in order with what another list has is that list under its unique names
pub sorted-values : (es fs : List Entry) → IsSorted es → ((u : List ℕ) → lookup u es ≡ lookup u fs) → es ≡ values (by_unique fs)
sorted-values es fs sorted same =
    sym (values-keyed es)
    ∙ ap (λ (xs : List (List ℕ × Entry)). map (λ x. x.1) xs)
    (same_entries name_cmp nat_list_cmp_total exact_bytes (map with_unique es) (entries (by_unique fs)) sorted (entries_sorted (by_unique fs))
    (λ u. same u ∙ sym (get-by_unique u fs) ∙ get-entries (by_unique fs) u))

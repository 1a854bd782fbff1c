-- The names of a mailbox, message by message, and as messages come, change and go.
use Rattle.std.proofs.Common.{ℕ, ◌≡◌, List, [], ◌∷◌, Option, Some, Bool, true, false, cond, map, refl, sym, ap, ◌∙◌}
use Rattle.std.specs.Cmp.{Equal-is}
use Rattle.std.specs.Ordering.{eq_by_cmp}
use Rattle.std.specs.FinMap as finmap
use Rattle.std.proofs.lemmas.Cmp.{nat_list_cmp_total}
use Rattle.std.proofs.lemmas.Map.Lookups.{exact_bytes}
use Rattle.lists.proofs.Maps as maps
use Rattle.md_core.proofs.Values.{Entry, Mailbox, name_cmp, Listed, Names, as_listed, names_of, option_map, find, get, get-from_entries, get-entries, entries, same_map}

-- what is found in a list of which each element was made of one of its key
find-listed : (u : List ℕ) (es : List (List ℕ × Entry)) → find name_cmp u (map (λ x. (x.0, as_listed x.0 x.1)) es) ≡ option_map (as_listed u) (find name_cmp u es)
find-listed u [] = refl
find-listed u (e ∷ es) = by (find-listed u es) (eq_by_cmp name_cmp u e.0) refl
  where
    by : find name_cmp u (map (λ x. (x.0, as_listed x.0 x.1)) es) ≡ option_map (as_listed u) (find name_cmp u es) → (b : Bool) → eq_by_cmp name_cmp u e.0 ≡ b →
        cond {A = Option Listed} b (Some (as_listed e.0 e.1)) (find name_cmp u (map (λ x. (x.0, as_listed x.0 x.1)) es)) ≡ option_map (as_listed u)
        (cond {A = Option Entry} b (Some e.1) (find name_cmp u es))
    by rest true t = ap (λ v. Some (as_listed v e.1)) (sym (exact_bytes u e.0 ((Equal-is _).0 t)))
    by rest false t = rest

-- what is listed of a unique name
pub get-names : (m : Mailbox) (u : List ℕ) → get (names_of m) u ≡ option_map (as_listed u) (get m u)
get-names m u =
    get-from_entries nat_list_cmp_total (map (λ x. (x.0, as_listed x.0 x.1)) (entries m)) u
    ∙ find-listed u (entries m) ∙ ap (option_map (as_listed u)) (sym (get-entries m u))

pub same_names : (a b : Names) → ((u : List ℕ) → get a u ≡ get b u) → a ≡ b
same_names = same_map nat_list_cmp_total exact_bytes

pub names-insert : (m : Mailbox) (u : List ℕ) (e : Entry) → names_of (finmap.insert m u e) ≡ finmap.insert (names_of m) u (as_listed u e)
names-insert m u e = same_names _ _ (λ v. get-names (finmap.insert m u e) v ∙ maps.by_key nat_list_cmp_total exact_bytes v u
    (λ is. ap (option_map (as_listed v)) (maps.at_put nat_list_cmp_total exact_bytes m u v e is) ∙ ap (λ w. Some (as_listed w e)) is
    ∙ sym (maps.at_put nat_list_cmp_total exact_bytes (names_of m) u v (as_listed u e) is))
    (λ not. ap (option_map (as_listed v)) (maps.beside_put nat_list_cmp_total exact_bytes m u v e not) ∙ sym (get-names m v)
    ∙ sym (maps.beside_put nat_list_cmp_total exact_bytes (names_of m) u v (as_listed u e) not)))

pub names-remove : (m : Mailbox) (u : List ℕ) → names_of (finmap.remove m u) ≡ finmap.remove (names_of m) u
names-remove m u = same_names _ _ (λ v. get-names (finmap.remove m u) v ∙ maps.by_key nat_list_cmp_total exact_bytes v u
    (λ is. ap (option_map (as_listed v)) (maps.at_drop nat_list_cmp_total exact_bytes m u v is) ∙
    sym (maps.at_drop nat_list_cmp_total exact_bytes (names_of m) u v is))
    (λ not. ap (option_map (as_listed v)) (maps.beside_drop nat_list_cmp_total exact_bytes m u v not) ∙ sym (get-names m v)
    ∙ sym (maps.beside_drop nat_list_cmp_total exact_bytes (names_of m) u v not)))

-- What comes to a tree, changes or goes there does so among its entries.
use Rattle.std.proofs.Common.{ℕ, ◌≡◌, List, [], ◌∷◌, Vec, Option, Some, None, IsSome, Bool, true, false, cond, not, T, ◌&&◌, map, refl, sym, ap, subst, ◌∙◌}
use Rattle.std.specs.declared.cmp.Ordering.{Ordering}
use Rattle.std.specs.declared.cmp.Ordering.TheVariants.{Less, Equal, Greater}
use Rattle.std.specs.Ordering.{is_eq, is_lt, eq_by_cmp, match_ordering, nat_cmp}
use Rattle.std.specs.Cmp.Lexicographic.{slice_cmp}
use Rattle.std.specs.Cmp.{eq_by_cmp_equiv}
use Rattle.std.specs.BTreeMap.{insert_entry}
use Rattle.std.specs.Map.{lookup, lookup_key, set_value, remove_entry, keys_of}
use Rattle.std.specs.List.{AllByRecursion}
use Rattle.std.specs.FinMap.Entries.{find, is_sorted, below_all, put, by_order, same_entries}
use Rattle.std.proofs.lemmas.Cmp.{nat_list_cmp_total}
use Rattle.std.proofs.lemmas.Map.Lookups.{exact_bytes}
use Rattle.md_core.specs.Mailbox.{name_cmp}
use Rattle.md_listing.specs.declared.entry.Entry.{Entry}
use Rattle.md_view.specs.declared.names.tree.Leaf.{Leaf}
use Rattle.md_listing.specs.Readings.{with_unique, IsInOrder}
use Rattle.md_view.specs.Held.{entry_with, renamed, DiffersAt, name_of, named, entry_at, entries_in, kept_name, renamed_leaf}
use Rattle.std.specs.Prelude.{nat_eq, unwrap_or}
use Rattle.std.proofs.lemmas.Slice.Eq.{bytes_eq-Decides}
use Rattle.std.specs.Option.{option_map}
use Rattle.std.specs.Cmp.Lexicographic.{pointwise}
use Rattle.md_listing.proofs.Keyed.{first, second, ordered, tie-itself, tie-same, values-keyed}
use Rattle.md_view.proofs.Held.Placing.{differs-not, others, all-stay, put-shows, gone-shows}

-- by what is kept of a whole name it is found again
pub name-kept : (u name : List ℕ) → unwrap_or (kept_name u name) u ≡ name
name-kept u name =
    elim (pointwise nat_eq name u) as (λ b. pointwise nat_eq name u ≡ b → unwrap_or (cond b None (Some name)) u ≡ name) [
      | true ↦ λ is. sym ((bytes_eq-Decides name u).0 is)
      | false ↦ λ is. refl
    ] refl

renamed-named : (u name to_name : List ℕ) (leaf : Leaf) → renamed name to_name (named u leaf) ≡ named u (renamed_leaf u name to_name leaf)
renamed-named u name to_name leaf =
    elim (pointwise nat_eq (name_of u leaf) name)
    as (λ b. cond b (record (named u leaf) { name = to_name }) (named u leaf) ≡ named u (cond b (record leaf { name = kept_name u to_name }) leaf)) [
      | true ↦ λ i. record (named u leaf) { name = sym (name-kept u to_name) i }
      | false ↦ refl
    ]

shadowed : {X : Type 0} (b : Bool) (x y z : X) → cond b x z ≡ cond b x (cond b y z)
shadowed true x y z = refl
shadowed false x y z = refl

module _ {A : Type 0} where
  -- the order of keys, and whether a unique name is a key
  abbrev pub key_cmp : Vec ℕ A → Vec ℕ A → Ordering
  key_cmp j k = slice_cmp nat_cmp j.items k.items

  abbrev pub is_key : List ℕ → Vec ℕ A → Bool
  is_key u k = is_eq (name_cmp u k.items)

  -- the entries of a tree, by their unique names
  abbrev pub keyed : List (Vec ℕ A × Leaf) → List (List ℕ × Entry)
  keyed ls = map with_unique (entries_in ls)

  -- ---- what is found

  pub found-none : (u : List ℕ) (ls : List (Vec ℕ A × Leaf)) → lookup (is_key u) ls ≡ None → entry_with u (entries_in ls) ≡ None
  found-none u [] none = refl
  found-none u (l ∷ ls) none =
      elim (is_key u l.0) as (λ b. cond b (Some l.1) (lookup (is_key u) ls) ≡ None → cond b (Some (entry_at l)) (entry_with u (entries_in ls)) ≡ None) [
        | true ↦ λ h. absurd cc
        | false ↦ λ h. found-none u ls h
      ] none

  -- a name that is above the last key is no key
  above-none : (u last : List ℕ) (ls : List (Vec ℕ A × Leaf)) → name_cmp last u ≡ Less
      → AllByRecursion (λ (k : Vec ℕ A). is_lt (name_cmp last k.items) ≡ false) (keys_of ls) → lookup (is_key u) ls ≡ None
  above-none u last [] above below = refl
  above-none u last (l ∷ ls) above below =
      elim (is_key u l.0) as (λ b. is_key u l.0 ≡ b → cond b (Some l.1) (lookup (is_key u) ls) ≡ None) [
        | true ↦ λ is.
            let lower : is_lt (name_cmp last l.0.items) ≡ true = ap (λ (w : List ℕ). is_lt (name_cmp last w)) (sym (tie-same u l.0.items is)) ∙ ap is_lt above in
            let never : false ≡ true = sym below.0 ∙ lower in
            cc
        | false ↦ λ is. above-none u last ls above below.1
      ] refl

  pub behind-none : (u last : List ℕ) (ls : List (Vec ℕ A × Leaf)) → name_cmp last u ≡ Less
      → AllByRecursion (λ (k : Vec ℕ A). is_lt (name_cmp last k.items) ≡ false) (keys_of ls) → entry_with u (entries_in ls) ≡ None
  behind-none u last ls above below = found-none u ls (above-none u last ls above below)

  pub found : (u : List ℕ) (k : Vec ℕ A) (leaf : Leaf) (ls : List (Vec ℕ A × Leaf)) → lookup_key (is_key u) ls ≡ Some k
      → lookup (is_key u) ls ≡ Some leaf → entry_with u (entries_in ls) ≡ Some (entry_at (k, leaf))
  found u k leaf [] key value = absurd cc
  found u k leaf (l ∷ ls) key value =
      elim (is_key u l.0)
      as (λ b. cond b (Some l.0) (lookup_key (is_key u) ls) ≡ Some k → cond b (Some l.1) (lookup (is_key u) ls) ≡ Some leaf
      → cond b (Some (entry_at l)) (entry_with u (entries_in ls)) ≡ Some (entry_at (k, leaf))) [
        | true ↦ λ key value. let one : l.0 ≡ k = cc in let other : l.1 ≡ leaf = cc in λ i. Some (entry_at (one i, other i))
        | false ↦ λ key value. found u k leaf ls key value
      ] key value

  pub found-named : (u : List ℕ) (leaf : Leaf) (ls : List (Vec ℕ A × Leaf)) → lookup (is_key u) ls ≡ Some leaf
      → entry_with u (entries_in ls) ≡ Some (named u leaf)
  found-named u leaf [] is = absurd cc
  found-named u leaf (l ∷ ls) is =
      elim (is_key u l.0)
      as (λ b. is_key u l.0 ≡ b → cond b (Some l.1) (lookup (is_key u) ls) ≡ Some leaf → cond b (Some (entry_at l)) (entry_with u (entries_in ls)) ≡ Some (named u leaf)) [
        | true ↦ λ key is. let same : l.1 ≡ leaf = cc in let one : l.0.items ≡ u = sym (tie-same u l.0.items key) in λ i. Some (named (one i) (same i))
        | false ↦ λ key is. found-named u leaf ls is
      ] refl is

  -- ---- what comes

  pub keyed-insert : (k : Vec ℕ A) (leaf : Leaf) (ls : List (Vec ℕ A × Leaf))
      → keyed (insert_entry key_cmp ls k leaf) ≡ put name_cmp k.items (entry_at (k, leaf)) (keyed ls)
  keyed-insert k leaf [] = refl
  keyed-insert k leaf (l ∷ ls) =
      elim (name_cmp k.items l.0.items)
      as (λ o. name_cmp k.items l.0.items ≡ o
      → keyed (match_ordering o ((k, leaf) ∷ l ∷ ls) ((l.0, leaf) ∷ ls) (l ∷ insert_entry key_cmp ls k leaf))
      ≡ by_order o ((k.items, entry_at (k, leaf)) ∷ keyed (l ∷ ls)) ((l.0.items, entry_at (k, leaf)) ∷ keyed ls)
      (with_unique (entry_at l) ∷ put name_cmp k.items (entry_at (k, leaf)) (keyed ls))) [
        | Less ↦ λ is. refl
        | Equal ↦ λ is. ap (λ (u : List ℕ). (l.0.items, named u leaf) ∷ keyed ls) (sym (exact_bytes k.items l.0.items is))
        | Greater ↦ λ is. ap (λ (rest : List (List ℕ × Entry)). with_unique (entry_at l) ∷ rest) (keyed-insert k leaf ls)
      ] refl

  pub inserted : (k : Vec ℕ A) (leaf : Leaf) (old new : List (Vec ℕ A × Leaf)) → IsInOrder (entries_in old) → new ≡ insert_entry key_cmp old k leaf
      → DiffersAt k.items (Some (entry_at (k, leaf))) (entries_in old) (entries_in new)
  inserted k leaf old new sorted is =
      put-shows k.items (entries_in old) (entries_in new) sorted (entry_at (k, leaf)) (ap keyed is ∙ keyed-insert k leaf old)

  -- ---- what goes

  pub keyed-remove : (u : List ℕ) (ls : List (Vec ℕ A × Leaf)) → T (is_sorted name_cmp (keyed ls))
      → keyed (remove_entry (is_key u) ls) ≡ others u (keyed ls)
  keyed-remove u [] sorted = refl
  keyed-remove u (l ∷ ls) sorted =
      elim (is_key u l.0)
      as (λ b. is_key u l.0 ≡ b → keyed (cond b ls (l ∷ remove_entry (is_key u) ls))
      ≡ cond (not b) (with_unique (entry_at l) ∷ others u (keyed ls)) (others u (keyed ls))) [
        | true ↦ λ is. sym (all-stay u (keyed ls) (subst (λ (v : List ℕ). T (below_all name_cmp v (keyed ls))) (sym (tie-same u l.0.items is)) (first _ _ sorted)))
        | false ↦ λ is. ap (λ (rest : List (List ℕ × Entry)). with_unique (entry_at l) ∷ rest) (keyed-remove u ls (second _ _ sorted))
      ] refl

  pub removed : (u : List ℕ) (old new : List (Vec ℕ A × Leaf)) → IsInOrder (entries_in old) → new ≡ remove_entry (is_key u) old
      → DiffersAt u None (entries_in old) (entries_in new)
  removed u old new sorted is = gone-shows u (entries_in old) (entries_in new) sorted (ap keyed is ∙ keyed-remove u old (ordered _ sorted))

  -- ---- what changes

  below-set : (v u : List ℕ) (leaf : Leaf) (ls : List (Vec ℕ A × Leaf)) → below_all name_cmp v (keyed (set_value (is_key u) ls leaf)) ≡ below_all name_cmp v (keyed ls)
  below-set v u leaf [] = refl
  below-set v u leaf (l ∷ ls) =
      elim (is_key u l.0)
      as (λ b. below_all name_cmp v (keyed (cond b ((l.0, leaf) ∷ ls) (l ∷ set_value (is_key u) ls leaf))) ≡ (is_lt (name_cmp v l.0.items) && below_all name_cmp v (keyed ls))) [
        | true ↦ refl
        | false ↦ ap (λ (b : Bool). is_lt (name_cmp v l.0.items) && b) (below-set v u leaf ls)
      ]

  sorted-set : (u : List ℕ) (leaf : Leaf) (ls : List (Vec ℕ A × Leaf)) → is_sorted name_cmp (keyed (set_value (is_key u) ls leaf)) ≡ is_sorted name_cmp (keyed ls)
  sorted-set u leaf [] = refl
  sorted-set u leaf (l ∷ ls) =
      elim (is_key u l.0)
      as (λ b. is_sorted name_cmp (keyed (cond b ((l.0, leaf) ∷ ls) (l ∷ set_value (is_key u) ls leaf)))
      ≡ (below_all name_cmp l.0.items (keyed ls) && is_sorted name_cmp (keyed ls))) [
        | true ↦ refl
        | false ↦ λ i. below-set l.0.items u leaf ls i && sorted-set u leaf ls i
      ]

  find-set : (u v : List ℕ) (leaf : Leaf) (ls : List (Vec ℕ A × Leaf)) → IsSome (lookup (is_key u) ls)
      → find name_cmp v (keyed (set_value (is_key u) ls leaf)) ≡ cond (eq_by_cmp name_cmp v u) (Some (named u leaf)) (find name_cmp v (keyed ls))
  find-set u v leaf [] some = absurd cc
  find-set u v leaf (l ∷ ls) some =
      elim (is_key u l.0)
      as (λ b. is_key u l.0 ≡ b → IsSome (cond b (Some l.1) (lookup (is_key u) ls))
      → find name_cmp v (keyed (cond b ((l.0, leaf) ∷ ls) (l ∷ set_value (is_key u) ls leaf)))
      ≡ cond (eq_by_cmp name_cmp v u) (Some (named u leaf)) (cond (eq_by_cmp name_cmp v l.0.items) (Some (entry_at l)) (find name_cmp v (keyed ls)))) [
        | true ↦ λ is some. here (eq_by_cmp name_cmp v u) (tie-same u l.0.items is)
        | false ↦ λ is some. later is (find-set u v leaf ls some)
      ] refl some
    where
      here : (b : Bool) → u ≡ l.0.items → cond (eq_by_cmp name_cmp v l.0.items) (Some (entry_at (l.0, leaf))) (find name_cmp v (keyed ls))
          ≡ cond (eq_by_cmp name_cmp v u) (Some (named u leaf)) (cond (eq_by_cmp name_cmp v l.0.items) (Some (entry_at l)) (find name_cmp v (keyed ls)))
      here _ same = subst (λ (w : List ℕ). cond (eq_by_cmp name_cmp v w) (Some (named w leaf)) (find name_cmp v (keyed ls))
          ≡ cond (eq_by_cmp name_cmp v u) (Some (named u leaf)) (cond (eq_by_cmp name_cmp v w) (Some (named w l.1)) (find name_cmp v (keyed ls)))) same
          (shadowed (eq_by_cmp name_cmp v u) (Some (named u leaf)) (Some (named u l.1)) (find name_cmp v (keyed ls)))

      later : is_key u l.0 ≡ false
          → find name_cmp v (keyed (set_value (is_key u) ls leaf)) ≡ cond (eq_by_cmp name_cmp v u) (Some (named u leaf)) (find name_cmp v (keyed ls))
          → cond (eq_by_cmp name_cmp v l.0.items) (Some (entry_at l)) (find name_cmp v (keyed (set_value (is_key u) ls leaf)))
          ≡ cond (eq_by_cmp name_cmp v u) (Some (named u leaf)) (cond (eq_by_cmp name_cmp v l.0.items) (Some (entry_at l)) (find name_cmp v (keyed ls)))
      later apart rest =
          elim (eq_by_cmp name_cmp v l.0.items)
          as (λ b. eq_by_cmp name_cmp v l.0.items ≡ b → cond b (Some (entry_at l)) (find name_cmp v (keyed (set_value (is_key u) ls leaf)))
          ≡ cond (eq_by_cmp name_cmp v u) (Some (named u leaf)) (cond b (Some (entry_at l)) (find name_cmp v (keyed ls)))) [
            | true ↦ λ is.
                let turned : eq_by_cmp name_cmp l.0.items u ≡ false = (eq_by_cmp_equiv nat_list_cmp_total).symm l.0.items u ∙ apart in
                let other : eq_by_cmp name_cmp v u ≡ false = ap (λ (w : List ℕ). eq_by_cmp name_cmp w u) (tie-same v l.0.items is) ∙ turned in
                sym (ap (λ b. cond b (Some (named u leaf)) (Some (entry_at l))) other)
            | false ↦ λ is. rest
          ] refl

  pub set : (u : List ℕ) (leaf : Leaf) (old new : List (Vec ℕ A × Leaf)) → IsInOrder (entries_in old) → IsSome (lookup (is_key u) old)
      → new ≡ set_value (is_key u) old leaf → DiffersAt u (Some (named u leaf)) (entries_in old) (entries_in new)
  set u leaf old new sorted some is = record {
    order = ap (λ (ls : List (Vec ℕ A × Leaf)). is_sorted name_cmp (keyed ls)) is ∙ sorted-set u leaf old ∙ sorted;
    at = λ v. ap (λ (ls : List (Vec ℕ A × Leaf)). find name_cmp v (keyed ls)) is ∙ find-set u v leaf old some;
  }

  set-same : (u : List ℕ) (leaf : Leaf) (ls : List (Vec ℕ A × Leaf)) → lookup (is_key u) ls ≡ Some leaf → set_value (is_key u) ls leaf ≡ ls
  set-same u leaf [] is = refl
  set-same u leaf (l ∷ ls) is =
      elim (is_key u l.0) as (λ b. cond b (Some l.1) (lookup (is_key u) ls) ≡ Some leaf → cond b ((l.0, leaf) ∷ ls) (l ∷ set_value (is_key u) ls leaf) ≡ l ∷ ls) [
        | true ↦ λ is. let same : leaf ≡ l.1 = cc in λ i. (l.0, same i) ∷ ls
        | false ↦ λ is. ap (λ (rest : List (Vec ℕ A × Leaf)). l ∷ rest) (set-same u leaf ls is)
      ] is

  -- what is kept of an entry is put back
  pub kept : (u : List ℕ) (leaf : Leaf) (old new : List (Vec ℕ A × Leaf)) → lookup (is_key u) old ≡ Some leaf → new ≡ set_value (is_key u) old leaf
      → entries_in new ≡ entries_in old
  kept u leaf old new is set = ap entries_in (set ∙ set-same u leaf old is)

  -- an entry that is there gets another name
  pub renames : (u name to_name : List ℕ) (leaf : Leaf) (old new : List (Vec ℕ A × Leaf)) → IsInOrder (entries_in old)
      → lookup (is_key u) old ≡ Some leaf → new ≡ set_value (is_key u) old (renamed_leaf u name to_name leaf)
      → DiffersAt u (option_map (renamed name to_name) (entry_with u (entries_in old))) (entries_in old) (entries_in new)
  renames u name to_name leaf old new sorted is made =
      subst (λ (what : Option Entry). DiffersAt u what (entries_in old) (entries_in new))
      (sym (ap (option_map (renamed name to_name)) (found-named u leaf old is) ∙ ap Some (renamed-named u name to_name leaf)))
      (set u (renamed_leaf u name to_name leaf) old new sorted (subst IsSome (sym is) refl) made)

  -- none is there
  pub renames-none : (u name to_name : List ℕ) (old : List (Vec ℕ A × Leaf)) → IsInOrder (entries_in old) → lookup (is_key u) old ≡ None
      → DiffersAt u (option_map (renamed name to_name) (entry_with u (entries_in old))) (entries_in old) (entries_in old)
  renames-none u name to_name old sorted none =
      let absent = found-none u old none in
      differs-not u (option_map (renamed name to_name) (entry_with u (entries_in old))) (entries_in old) sorted
      (ap (option_map (renamed name to_name)) absent ∙ sym absent)

  -- an entry comes where there is none of its unique name
  pub inserted-new : (k : Vec ℕ A) (leaf : Leaf) (old new : List (Vec ℕ A × Leaf)) → IsInOrder (entries_in old)
      → lookup (is_key k.items) old ≡ None → new ≡ insert_entry key_cmp old k leaf
      → DiffersAt k.items (Some (unwrap_or (entry_with k.items (entries_in old)) (named k.items leaf))) (entries_in old) (entries_in new)
  inserted-new k leaf old new sorted none is =
      subst (λ (o : Option Entry). DiffersAt k.items (Some (unwrap_or o (named k.items leaf))) (entries_in old) (entries_in new))
      (sym (found-none k.items old none)) (inserted k leaf old new sorted is)

  -- where there is one, that one is put back
  pub put-back : (k : Vec ℕ A) (leaf there : Leaf) (old mid new : List (Vec ℕ A × Leaf)) → IsInOrder (entries_in old)
      → lookup (is_key k.items) old ≡ Some there → mid ≡ insert_entry key_cmp old k leaf → IsSome (lookup (is_key k.items) mid)
      → new ≡ set_value (is_key k.items) mid there
      → DiffersAt k.items (Some (unwrap_or (entry_with k.items (entries_in old)) (named k.items leaf))) (entries_in old) (entries_in new)
  put-back k leaf there old mid new sorted was is some made =
      let came = inserted k leaf old mid sorted is in
      let back = set k.items there mid new came.order some made in
      subst (λ (o : Option Entry). DiffersAt k.items (Some (unwrap_or o (named k.items leaf))) (entries_in old) (entries_in new))
      (sym (found-named k.items there old was))
      (record {
        order = back.order;
        at = λ v. back.at v ∙ ap (cond (eq_by_cmp name_cmp v k.items) (Some (named k.items there))) (came.at v)
            ∙ sym (shadowed (eq_by_cmp name_cmp v k.items) (Some (named k.items there)) (Some (named k.items leaf)) (entry_with v (entries_in old)));
      })

  -- what came is there
  pub inserted-there : (k : Vec ℕ A) (leaf : Leaf) (old new : List (Vec ℕ A × Leaf)) → IsInOrder (entries_in old)
      → new ≡ insert_entry key_cmp old k leaf → lookup (is_key k.items) new ≡ None → ⊥
  inserted-there k leaf old new sorted is none =
      let came = (inserted k leaf old new sorted is).at k.items in
      let here : entry_with k.items (entries_in new) ≡ Some (named k.items leaf) =
      came ∙ ap (λ b. cond b (Some (named k.items leaf)) (entry_with k.items (entries_in old))) (tie-itself k.items) in
      let never : None ≡ Some (named k.items leaf) = sym (found-none k.items new none) ∙ here in
      cc

-- entries in order in which the same is found are the same
pub same-found : (es fs : List Entry) → IsInOrder es → IsInOrder fs → ((v : List ℕ) → entry_with v es ≡ entry_with v fs) → es ≡ fs
same-found es fs one other same =
    sym (values-keyed es)
    ∙ ap (λ (xs : List (List ℕ × Entry)). map (λ x. x.1) xs)
    (same_entries name_cmp nat_list_cmp_total exact_bytes (map with_unique es) (map with_unique fs) (ordered _ one) (ordered _ other) same)
    ∙ values-keyed fs

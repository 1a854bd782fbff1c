-- Names that are held: what their lists show, and that the lists make the names.
use Rattle.std.proofs.Common.{ℕ, zero, suc, ◌≡◌, ◌≤◌, ◌<◌, ◌+◌, ◌++◌, ◌^◌, List, [], ◌∷◌, Option, Some, None, inl, inr, Bool, true, false, cond, ◌&&◌, ◌||◌, ◌==◌, is_some, map, length, slice_get, refl, sym, ap, subst, ◌∙◌, arith, eqb-true}
use Rattle.std.proofs.lemmas.Bool.{cases_lt}
use Rattle.std.specs.List.{list_any}
use Rattle.std.specs.Option.{option_map, option_and_then, option_or, option_map_or}
use Rattle.std.specs.Ordering.{eq_by_cmp}
use Rattle.std.specs.FinMap.{find, get, get-from_entries, same_map}
use Rattle.std.proofs.lemmas.Cmp.{nat_list_cmp_total, nat_eq_equiv}
use Rattle.std.proofs.lemmas.Map.Lookups.{exact_bytes}
use Rattle.md_dirs.specs.Path.{place_index}
use Rattle.md_dirs.specs.declared.paths.Place.{Place}
use Rattle.md_dirs.specs.declared.paths.Place.TheVariants.{Tmp, New, Cur}
use Rattle.md_core.specs.Mailbox.{name_cmp}
use Rattle.md_used.specs.Paths.{is_tmp}
use Rattle.md_core.specs.History.{Listed, Names}
use Rattle.md_listing.specs.declared.entry.Entry.{Entry}
use Rattle.md_listing.specs.Readings.{as_entry, reading_of, IsInOrder}
use Rattle.md_view.specs.Named.{Named, AreMessages}
use Rattle.md_view.specs.Held.{FolderLists, list_of, listed_in, by_folder, listed_from, held_names, AreHeld, HoldNames, entry_with, has_unique}
use Rattle.md_listing.proofs.Keyed.{IsSorted, lookup-append, sorted-values, in-order, ordered}
use Rattle.md_listing.proofs.Readings.{entry_at, reading-sorted, lookup-reading}

-- what names show of a unique name in a directory
abbrev pub shown_at : Names → ℕ → Place → List ℕ → Option Entry
shown_at names folder place u = option_and_then (entry_at folder place u) (get names u)

-- a list in order that shows what the names show is their reading
pub reading-is : (names : Names) (folder : ℕ) (place : Place) (es : List Entry) → IsSorted es → ((u : List ℕ) → entry_with u es ≡ shown_at names folder place u)
    → es ≡ reading_of names folder place
reading-is names folder place es sorted same =
    sorted-values es (reading_of names folder place) sorted (λ u. same u ∙ sym (lookup-reading folder place names u))
    ∙ sym (sorted-values (reading_of names folder place) (reading_of names folder place) (reading-sorted folder place names) (λ u. refl))

-- lists in order, by what they show
pub record AreLists (fs : List FolderLists) (g : ℕ → Place → List ℕ → Option Entry) : Type 0 where
  pub order : (folder : ℕ) (place : Place) → IsInOrder (listed_in fs folder place)
  pub at : (folder : ℕ) (place : Place) (u : List ℕ) → entry_with u (listed_in fs folder place) ≡ g folder place u

pub held-lists : (n : Named) (fs : List FolderLists) → AreHeld n fs → AreLists fs (shown_at n.names)
held-lists n fs held = record {
  order = λ folder place. subst (λ (es : List Entry). IsInOrder es) (sym (held.lists folder place)) (in-order _ (reading-sorted folder place n.names));
  at = λ folder place u. ap (entry_with u) (held.lists folder place) ∙ lookup-reading folder place n.names u;
}

pub lists-held : (n : Named) (fs : List FolderLists) → length fs < 2 ^ 32 → length fs ≡ n.folders → AreMessages n
    → AreLists fs (shown_at n.names) → AreHeld n fs
lists-held n fs few count messages lists = record {
  few = few;
  count = count;
  messages = messages;
  lists = λ folder place. reading-is n.names folder place (listed_in fs folder place) (ordered _ (lists.order folder place)) (lists.at folder place);
}

find-both : (u : List ℕ) (xs ys : List (List ℕ × Listed)) → find name_cmp u (xs ++ ys) ≡ option_or (find name_cmp u xs) (find name_cmp u ys)
find-both u [] ys = refl
find-both u (x ∷ xs) ys =
    elim (eq_by_cmp name_cmp u x.0)
    as (λ b. cond b (Some x.1) (find name_cmp u (xs ++ ys)) ≡ option_or (cond b (Some x.1) (find name_cmp u xs)) (find name_cmp u ys)) [
      | true ↦ refl
      | false ↦ find-both u xs ys
    ]

-- what an entry says of its message
abbrev says : ℕ → Entry → Listed
says folder e = (by_folder folder e).1

find-by_folder : (u : List ℕ) (folder : ℕ) (es : List Entry) → find name_cmp u (map (by_folder folder) es) ≡ option_map (says folder) (entry_with u es)
find-by_folder u folder [] = refl
find-by_folder u folder (e ∷ es) =
    elim (eq_by_cmp name_cmp u e.unique)
    as (λ b. cond b (Some (says folder e)) (find name_cmp u (map (by_folder folder) es)) ≡ option_map (says folder) (cond b (Some e) (entry_with u es))) [
      | true ↦ refl
      | false ↦ find-by_folder u folder es
    ]

or-some : {X : Type 0} (a b : Option X) → is_some (option_or a b) ≡ (is_some a || is_some b)
or-some None b = refl
or-some (Some x) b = refl

-- of one message, or none: what each folder has of it
module _ (u : List ℕ) (o : Option Listed) where
  abbrev in_folder : ℕ → Listed → Option Listed
  in_folder folder m = cond (m.folder == folder) (Some m) None

  abbrev share : ℕ → Option Listed
  share folder = option_and_then (in_folder folder) o

  abbrev shares : ℕ → ℕ → Option Listed
  shares folder zero = None
  shares folder (suc count) = option_or (share folder) (shares (suc folder) count)

  find-from : (folder : ℕ) (fs : List FolderLists)
      → ((k : ℕ) (f : FolderLists) → slice_get fs k ≡ Some f → option_map (says (folder + k)) (entry_with u (f.in_new ++ f.in_cur)) ≡ share (folder + k))
      → find name_cmp u (listed_from folder fs) ≡ shares folder (length fs)
  find-from folder [] each = refl
  find-from folder (f ∷ fs) each =
      let same : folder + 0 ≡ folder = omega arith in
      let rest : find name_cmp u (listed_from (suc folder) fs) ≡ shares (suc folder) (length fs) =
      find-from (suc folder) fs (λ k g at.
      let next : folder + suc k ≡ suc folder + k = omega arith in
      subst (λ j. option_map (says j) (entry_with u (g.in_new ++ g.in_cur)) ≡ share j) next (each (suc k) g at)) in
      let here : option_map (says folder) (entry_with u (f.in_new ++ f.in_cur)) ≡ share folder =
      subst (λ j. option_map (says j) (entry_with u (f.in_new ++ f.in_cur)) ≡ share j) same (each 0 f refl) in
      find-both u (map (by_folder folder) (f.in_new ++ f.in_cur)) (listed_from (suc folder) fs)
      ∙ (λ i. option_or (find-by_folder u folder (f.in_new ++ f.in_cur) i) (rest i)) ∙ ap (λ p. option_or p (shares (suc folder) (length fs))) here

  any-from : (folder : ℕ) (fs : List FolderLists) → ((k : ℕ) (f : FolderLists) → slice_get fs k ≡ Some f → has_unique u f ≡ is_some (share (folder + k)))
      → list_any (has_unique u) fs ≡ is_some (shares folder (length fs))
  any-from folder [] each = refl
  any-from folder (f ∷ fs) each =
      let same : folder + 0 ≡ folder = omega arith in
      let rest : list_any (has_unique u) fs ≡ is_some (shares (suc folder) (length fs)) =
      any-from (suc folder) fs (λ k g at.
      let next : folder + suc k ≡ suc folder + k = omega arith in
      subst (λ j. has_unique u g ≡ is_some (share j)) next (each (suc k) g at)) in
      let here : has_unique u f ≡ is_some (share folder) = subst (λ j. has_unique u f ≡ is_some (share j)) same (each 0 f refl) in
      (λ i. here i || rest i) ∙ sym (or-some (share folder) (shares (suc folder) (length fs)))

no-shares : (u : List ℕ) (folder count : ℕ) → shares u None folder count ≡ None
no-shares u folder zero = refl
no-shares u folder (suc count) = no-shares u (suc folder) count

one-share : (u : List ℕ) (m : Listed) (folder count : ℕ) → folder ≤ m.folder → m.folder < folder + count → shares u (Some m) folder count ≡ Some m
one-share u m folder zero from to = absurd (omega arith)
one-share u m folder (suc count) from to = by (λ above. one-share u m (suc folder) count above (omega (arith, to))) (m.folder == folder) refl
  where
    by : (suc folder ≤ m.folder → shares u (Some m) (suc folder) count ≡ Some m) → (b : Bool) → (m.folder == folder) ≡ b
        → option_or (cond b (Some m) None) (shares u (Some m) (suc folder) count) ≡ Some m
    by rest true is = refl
    by rest false is = rest (elim (cases_lt folder m.folder) [
      | inl low ↦ omega (arith, low)
      | inr high ↦
          let same : m.folder ≡ folder = omega (arith, from, high) in
          let never : true ≡ false = sym (nat_eq_equiv.refl folder) ∙ ap (λ k. k == folder) (sym same) ∙ is in
          cc
    ])

all-shares : (u : List ℕ) (o : Option Listed) (count : ℕ) → ((m : Listed) → o ≡ Some m → m.folder < count) → shares u o 0 count ≡ o
all-shares u None count within = no-shares u 0 count
all-shares u (Some m) count within = let low = within m refl in one-share u m 0 count (omega arith) (omega (arith, low))

-- a message in new or cur is in one of the two lists
two-places : {X : Type 0} (x : X) (b new cur : Bool) → new ≡ true → cur ≡ false
    → option_or (cond (b && new) (Some x) None) (cond (b && cur) (Some x) None) ≡ cond b (Some x) None
two-places x true true false p q = refl
two-places x false true false p q = refl
two-places x b false c p q = cc
two-places x b true true p q = cc

other-places : {X : Type 0} (x : X) (b new cur : Bool) → new ≡ false → cur ≡ true
    → option_or (cond (b && new) (Some x) None) (cond (b && cur) (Some x) None) ≡ cond b (Some x) None
other-places x true false true p q = refl
other-places x false false true p q = refl
other-places x b true c p q = cc
other-places x b false false p q = cc

in-either : (u : List ℕ) (m : Listed) (folder : ℕ) → is_tmp m.place ≡ false
    → option_or (entry_at folder New u m) (entry_at folder Cur u m) ≡ cond (m.folder == folder) (Some (as_entry (u, m))) None
in-either u m folder placed = by m.place refl
  where
    at : (q p : Place) → m.place ≡ p → (b : Bool) → (place_index p == place_index q) ≡ b → (place_index m.place == place_index q) ≡ b
    at q p is b same = ap (λ (r : Place). place_index r == place_index q) is ∙ same

    by : (p : Place) → m.place ≡ p → option_or (entry_at folder New u m) (entry_at folder Cur u m) ≡ cond (m.folder == folder) (Some (as_entry (u, m))) None
    by Tmp is = let never : true ≡ false = sym (ap is_tmp is) ∙ placed in cc
    by New is = two-places (as_entry (u, m)) (m.folder == folder) (place_index m.place == place_index New) (place_index m.place == place_index Cur)
        (at New New is true refl) (at Cur New is false refl)
    by Cur is = other-places (as_entry (u, m)) (m.folder == folder) (place_index m.place == place_index New) (place_index m.place == place_index Cur)
        (at New Cur is false refl) (at Cur Cur is true refl)

shares-said : (u : List ℕ) (m : Listed) (folder : ℕ)
    → option_map (says folder) (cond (m.folder == folder) (Some (as_entry (u, m))) None) ≡ cond (m.folder == folder) (Some m) None
shares-said u m folder = by (m.folder == folder) refl
  where
    by : (b : Bool) → (m.folder == folder) ≡ b → option_map (says folder) (cond b (Some (as_entry (u, m))) None) ≡ cond b (Some m) None
    by false is = refl
    by true is =
        let same : m.folder ≡ folder = eqb-true m.folder folder is in
        (λ i. Some (record { folder = sym same i; place = m.place; name = m.name; size = m.size }))

module _ (n : Named) (fs : List FolderLists) (held : AreHeld n fs) where
  -- a folder's lists, by its position
  lists-of : (folder : ℕ) (f : FolderLists) → slice_get fs folder ≡ Some f → (place : Place) → list_of place f ≡ listed_in fs folder place
  lists-of folder f at place = sym (ap (λ (o : Option FolderLists). option_map_or (list_of place) o []) at)

  pub found-in : (folder : ℕ) (f : FolderLists) → slice_get fs folder ≡ Some f → (place : Place) (u : List ℕ)
      → entry_with u (list_of place f) ≡ shown_at n.names folder place u
  found-in folder f at place u = ap (entry_with u) (lists-of folder f at place) ∙ (held-lists n fs held).at folder place u

  either : (u : List ℕ) (folder : ℕ) (o : Option Listed) → get n.names u ≡ o
      → option_or (shown_at n.names folder New u) (shown_at n.names folder Cur u)
      ≡ option_and_then (λ m. cond (m.folder == folder) (Some (as_entry (u, m))) None) o
  either u folder None is = λ i. option_or (option_and_then (entry_at folder New u) (is i)) (option_and_then (entry_at folder Cur u) (is i))
  either u folder (Some m) is =
      (λ i. option_or (option_and_then (entry_at folder New u) (is i)) (option_and_then (entry_at folder Cur u) (is i)))
      ∙ in-either u m folder (held.messages u m is).place

  both-lists : (u : List ℕ) (folder : ℕ) (f : FolderLists) → slice_get fs folder ≡ Some f
      → option_map (says folder) (entry_with u (f.in_new ++ f.in_cur)) ≡ share u (get n.names u) folder
  both-lists u folder f at =
      ap (option_map (says folder)) (lookup-append u f.in_new f.in_cur
      ∙ (λ i. option_or (found-in folder f at New u i) (found-in folder f at Cur u i)) ∙ either u folder (get n.names u) refl)
      ∙ by (get n.names u)
    where
      by : (o : Option Listed) → option_map (says folder) (option_and_then (λ m. cond (m.folder == folder) (Some (as_entry (u, m))) None) o) ≡ share u o folder
      by None = refl
      by (Some m) = shares-said u m folder

  within : (u : List ℕ) (m : Listed) → get n.names u ≡ Some m → m.folder < length fs
  within u m is = subst (λ k. m.folder < k) (sym held.count) (held.messages u m is).folder

  -- the lists make the names that they hold
  pub held-is : held_names fs ≡ n
  held-is =
      let names : (held_names fs).names ≡ n.names = same_map nat_list_cmp_total exact_bytes _ _ (λ u.
      get-from_entries nat_list_cmp_total (listed_from 0 fs) u
      ∙ find-from u (get n.names u) 0 fs (λ k f at.
      let plus : k ≡ 0 + k = omega arith in
      subst (λ j. option_map (says j) (entry_with u (f.in_new ++ f.in_cur)) ≡ share u (get n.names u) j) plus (both-lists u k f at))
      ∙ all-shares u (get n.names u) (length fs) (within u)) in
      (λ i. record { folders = held.count i; names = names i })

  -- so they hold them
  pub holds : HoldNames fs
  holds = subst (λ (m : Named). AreHeld m fs) (sym held-is) held

  has-share : (u : List ℕ) (folder : ℕ) (f : FolderLists) → slice_get fs folder ≡ Some f → has_unique u f ≡ is_some (share u (get n.names u) folder)
  has-share u folder f at =
      sym (or-some (entry_with u f.in_new) (entry_with u f.in_cur))
      ∙ ap is_some (λ i. option_or (found-in folder f at New u i) (found-in folder f at Cur u i))
      ∙ ap is_some (either u folder (get n.names u) refl) ∙ by (get n.names u)
    where
      by : (o : Option Listed) → is_some (option_and_then (λ m. cond (m.folder == folder) (Some (as_entry (u, m))) None) o) ≡ is_some (share u o folder)
      by None = refl
      by (Some m) =
          elim (m.folder == folder) as (λ b. is_some (cond b (Some (as_entry (u, m))) None) ≡ is_some (cond b (Some m) None)) [ true ↦ refl | false ↦ refl ]

  -- whether a message has a unique name, folder by folder
  pub taken : (u : List ℕ) → list_any (has_unique u) fs ≡ is_some (get n.names u)
  taken u = any-from u (get n.names u) 0 fs (λ k f at.
      let plus : k ≡ 0 + k = omega arith in
      subst (λ j. has_unique u f ≡ is_some (share u (get n.names u) j)) plus (has-share u k f at))
      ∙ ap is_some (all-shares u (get n.names u) (length fs) (within u))

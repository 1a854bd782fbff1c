-- What a change that fits makes of the lists.
use Rattle.std.proofs.Common.{ℕ, ◌≡◌, ◌≢◌, ◌<◌, List, [], Option, Some, None, Bool, true, false, cond, ◌&&◌, ◌==◌, not, length, slice_get, slice_set, refl, sym, ap, subst, ◌∙◌, eqb-true}
use Rattle.std.specs.Option.{option_and_then, option_map_or}
use Rattle.std.specs.Ordering.{eq_by_cmp}
use Rattle.std.specs.FinMap as finmap
use Rattle.std.specs.FinMap.{get}
use Rattle.std.proofs.lemmas.Cmp.{nat_list_cmp_total, nat_eq_equiv}
use Rattle.std.proofs.lemmas.Map.Lookups.{exact_bytes}
use Rattle.md_dirs.specs.Path.{place_index}
use Rattle.md_dirs.specs.declared.paths.Place.{Place}
use Rattle.lists.proofs.Maps.{by_key, at_put, beside_put, at_drop, beside_drop}
use Rattle.md_dirs.proofs.Sound.{get-set_same, get-set_other}
use Rattle.md_core.specs.Mailbox.{name_cmp}
use Rattle.md_core.specs.History.{Listed, Names}
use Rattle.md_listing.specs.declared.entry.Entry.{Entry}
use Rattle.md_listing.specs.Readings.{as_entry, IsInOrder}
use Rattle.md_view.specs.Named.{is_there}
use Rattle.md_view.specs.Held.{FolderLists, list_of, listed_in, entry_with, DiffersIn}
use Rattle.md_listing.proofs.Keyed.{tie-itself, tie-same}
use Rattle.md_listing.proofs.Readings.{entry_at}
use Rattle.md_listing.proofs.Rows.{same_place, and-true, and-false, and-first, and-second}
use Rattle.md_view.proofs.Held.Placing.{apart}
use Rattle.md_view.proofs.Held.Holding.{shown_at, AreLists}

abbrev pub is_spot : ℕ → Place → ℕ → Place → Bool
is_spot folder place at_folder at_place = folder == at_folder && place_index place == place_index at_place

-- what lists show once one directory shows something else of one unique name
abbrev pub but : ℕ → Place → List ℕ → Option Entry → (ℕ → Place → List ℕ → Option Entry) → ℕ → Place → List ℕ → Option Entry
but folder place u what g at_folder at_place v = cond (is_spot folder place at_folder at_place && eq_by_cmp name_cmp v u) what (g at_folder at_place v)

module _ (fs : List FolderLists) (g : ℕ → Place → List ℕ → Option Entry) (lists : AreLists fs g) (folder : ℕ) (place : Place) (u : List ℕ) (what : Option Entry)
    (f f' : FolderLists) (at : slice_get fs folder ≡ Some f) (within : folder < length fs) (shows : DiffersIn place u what f f') where
  abbrev set : List FolderLists
  set = slice_set fs folder f'

  old-list : (p : Place) → listed_in fs folder p ≡ list_of p f
  old-list p = ap (λ (o : Option FolderLists). option_map_or (list_of p) o []) at

  new-list : (p : Place) → listed_in set folder p ≡ list_of p f'
  new-list p = ap (λ (o : Option FolderLists). option_map_or (list_of p) o []) (get-set_same fs folder f' within)

  -- a list that was left
  Stays : ℕ → Place → Type 0
  Stays j p = listed_in set j p ≡ listed_in fs j p

  -- a list is the changed one, or it was left
  by-spot : (C : ℕ → Place → Type 0) → C folder place → ((j : ℕ) (p : Place) → is_spot folder place j p ≡ false → listed_in set j p ≡ listed_in fs j p → C j p)
      → (j : ℕ) (p : Place) → C j p
  by-spot C here left j p = in_folder (folder == j) refl
    where
      in_place : folder ≡ j → (b : Bool) → (place_index place == place_index p) ≡ b → C j p
      in_place is true same =
          subst (λ k. C k p) is (subst (C folder) (same_place place p (eqb-true _ _ same)) here)
      in_place is false other =
          subst (λ k. C k p) is (left folder p (ap (λ b. (folder == folder) && b) other ∙ and-false (folder == folder))
          (new-list p ∙ shows.others p (turn (place_index p) (place_index place) other) ∙ sym (old-list p)))
        where
          turn : (a b : ℕ) → (b == a) ≡ false → (a == b) ≡ false
          turn a b is = sym (nat_eq_equiv.symm b a) ∙ is

      in_folder : (b : Bool) → (folder == j) ≡ b → C j p
      in_folder true same = in_place (eqb-true folder j same) (place_index place == place_index p) refl
      in_folder false other =
          left j p (ap (λ b. b && (place_index place == place_index p)) other)
          (ap (λ (o : Option FolderLists). option_map_or (list_of p) o [])
          (get-set_other fs folder j f' (λ is. let never : true ≡ false = sym (nat_eq_equiv.refl folder) ∙ ap (λ k. folder == k) (sym is) ∙ other in cc)))

  here-is : is_spot folder place folder place ≡ true
  here-is = (λ i. nat_eq_equiv.refl folder i && nat_eq_equiv.refl (place_index place) i)

  pub set-lists : AreLists (slice_set fs folder f') (but folder place u what g)
  set-lists = record {
    order = by-spot (λ j p. IsInOrder (listed_in set j p))
        (subst (λ (es : List Entry). IsInOrder es) (sym (new-list place)) shows.here.order)
        (λ j p _ left. subst (λ (es : List Entry). IsInOrder es) (sym left) (lists.order j p));
    at = by-spot (λ j p. (v : List ℕ) → entry_with v (listed_in set j p) ≡ but folder place u what g j p v)
        (λ v.
        ap (entry_with v) (new-list place) ∙ shows.here.at v
        ∙ ap (cond (eq_by_cmp name_cmp v u) what) (ap (entry_with v) (sym (old-list place)) ∙ lists.at folder place v)
        ∙ sym (ap (λ b. cond (b && eq_by_cmp name_cmp v u) what (g folder place v)) here-is))
        (λ j p other left v.
        ap (entry_with v) left ∙ lists.at j p v ∙ sym (ap (λ b. cond (b && eq_by_cmp name_cmp v u) what (g j p v)) other));
  }

-- what lists show where one directory shows of one unique name what it did
pub but-same : (folder : ℕ) (place : Place) (u : List ℕ) (what : Option Entry) (g : ℕ → Place → List ℕ → Option Entry) → what ≡ g folder place u
    → (j : ℕ) (p : Place) (v : List ℕ) → but folder place u what g j p v ≡ g j p v
but-same folder place u what g is j p v = by (is_spot folder place j p && eq_by_cmp name_cmp v u) refl
  where
    by : (b : Bool) → (is_spot folder place j p && eq_by_cmp name_cmp v u) ≡ b → cond b what (g j p v) ≡ g j p v
    by true all =
        let spot = and-first _ _ all in
        let in_folder : folder ≡ j = eqb-true folder j (and-first _ _ spot) in
        let in_place : place ≡ p = same_place place p (eqb-true _ _ (and-second _ _ spot)) in
        let own : u ≡ v = sym (tie-same v u (and-second _ _ all)) in
        is ∙ (λ i. g (in_folder i) (in_place i) (own i))
    by false some = refl

-- what names show once a message came or went
module _ (names : Names) (u : List ℕ) (m : Listed) where
  put-here : (j : ℕ) (p : Place) → shown_at (finmap.insert names u m) j p u ≡ entry_at j p u m
  put-here j p = ap (option_and_then (entry_at j p u)) (at_put nat_list_cmp_total exact_bytes names u u m refl)

  put-beside : (j : ℕ) (p : Place) (v : List ℕ) → v ≢ u → shown_at (finmap.insert names u m) j p v ≡ shown_at names j p v
  put-beside j p v not = ap (option_and_then (entry_at j p v)) (beside_put nat_list_cmp_total exact_bytes names u v m not)

module _ (names : Names) (u : List ℕ) where
  gone-here : (j : ℕ) (p : Place) → shown_at (finmap.remove names u) j p u ≡ None
  gone-here j p = ap (option_and_then (entry_at j p u)) (at_drop nat_list_cmp_total exact_bytes names u u refl)

  gone-beside : (j : ℕ) (p : Place) (v : List ℕ) → v ≢ u → shown_at (finmap.remove names u) j p v ≡ shown_at names j p v
  gone-beside j p v not = ap (option_and_then (entry_at j p v)) (beside_drop nat_list_cmp_total exact_bytes names u v not)

at-own : (a : Bool) (u : List ℕ) (what other : Option Entry) → cond (a && eq_by_cmp name_cmp u u) what other ≡ cond a what other
at-own a u what other = ap (λ b. cond (a && b) what other) (tie-itself u) ∙ ap (λ b. cond b what other) (and-true a)

at-other : (a : Bool) (u v : List ℕ) → v ≢ u → (what other : Option Entry) → cond (a && eq_by_cmp name_cmp v u) what other ≡ other
at-other a u v not what other = ap (λ b. cond (a && b) what other) (apart v u not) ∙ ap (λ b. cond b what other) (and-false a)

-- a new message
pub added : (names : Names) (u : List ℕ) (m : Listed) → get names u ≡ None → (j : ℕ) (p : Place) (v : List ℕ)
    → but m.folder m.place u (Some (as_entry (u, m))) (shown_at names) j p v ≡ shown_at (finmap.insert names u m) j p v
added names u m none j p v = by_key nat_list_cmp_total exact_bytes v u
    (λ is. subst (λ (w : List ℕ). but m.folder m.place u (Some (as_entry (u, m))) (shown_at names) j p w ≡ shown_at (finmap.insert names u m) j p w) (sym is)
    (at-own (is_spot m.folder m.place j p) u (Some (as_entry (u, m))) (shown_at names j p u)
    ∙ ap (λ (o : Option Listed). cond (is_spot m.folder m.place j p) (Some (as_entry (u, m))) (option_and_then (entry_at j p u) o)) none
    ∙ sym (put-here names u m j p)))
    (λ is. at-other (is_spot m.folder m.place j p) u v is (Some (as_entry (u, m))) (shown_at names j p v) ∙ sym (put-beside names u m j p v is))

twice : {X : Type 0} (a : Bool) (x : Option X) → cond a None (cond a x None) ≡ None
twice true x = refl
twice false x = refl

-- a message that is gone
pub removed : (names : Names) (u : List ℕ) (m : Listed) → get names u ≡ Some m → (j : ℕ) (p : Place) (v : List ℕ)
    → but m.folder m.place u None (shown_at names) j p v ≡ shown_at (finmap.remove names u) j p v
removed names u m is_there j p v = by_key nat_list_cmp_total exact_bytes v u
    (λ is. subst (λ (w : List ℕ). but m.folder m.place u None (shown_at names) j p w ≡ shown_at (finmap.remove names u) j p w) (sym is)
    (at-own (is_spot m.folder m.place j p) u None (shown_at names j p u)
    ∙ ap (λ (o : Option Listed). cond (is_spot m.folder m.place j p) None (option_and_then (entry_at j p u) o)) is_there
    ∙ twice (is_spot m.folder m.place j p) (Some (as_entry (u, m))) ∙ sym (gone-here names u j p)))
    (λ is. at-other (is_spot m.folder m.place j p) u v is None (shown_at names j p v) ∙ sym (gone-beside names u j p v is))

commute : {X : Type 0} (a b : Bool) → (a ≡ true → b ≡ true → ⊥) → (x y : Option X) → cond a None (cond b x y) ≡ cond b x (cond a None y)
commute true true not x y = absurd (not refl refl)
commute true false not x y = refl
commute false b not x y = refl

shadowed : {X : Type 0} (b : Bool) (x y : Option X) → cond b x y ≡ cond b x (cond b None y)
shadowed true x y = refl
shadowed false x y = refl

-- a message that has another name: the new entry was put in before the old one went, or in its place
module _ (names : Names) (u : List ℕ) (m : Listed) (is_there : get names u ≡ Some m) (v : List ℕ) (m' : Listed)
    (free : get (finmap.remove names u) v ≡ None) where
  abbrev after_both : Names
  after_both = finmap.insert (finmap.remove names u) v m'

  abbrev put_in : ℕ → Place → List ℕ → Option Entry
  put_in = but m'.folder m'.place v (Some (as_entry (v, m'))) (shown_at names)

  -- the old entry goes, and then the new one is put in
  then-added : (j : ℕ) (p : Place) (w : List ℕ)
      → but m'.folder m'.place v (Some (as_entry (v, m'))) (but m.folder m.place u None (shown_at names)) j p w ≡ shown_at after_both j p w
  then-added j p w =
      ap (cond (is_spot m'.folder m'.place j p && eq_by_cmp name_cmp w v) (Some (as_entry (v, m')))) (removed names u m is_there j p w)
      ∙ added (finmap.remove names u) v m' free j p w

  pub renamed : (not : (j : ℕ) (p : Place) → v ≡ u → is_spot m.folder m.place j p ≡ true → is_spot m'.folder m'.place j p ≡ true → ⊥) (j : ℕ)
      (p : Place) (w : List ℕ)
      → but m.folder m.place u None put_in j p w ≡ shown_at after_both j p w
  renamed not j p w =
      commute (is_spot m.folder m.place j p && eq_by_cmp name_cmp w u) (is_spot m'.folder m'.place j p && eq_by_cmp name_cmp w v)
      (λ old new. not j p (sym (tie-same w v (and-second _ _ new)) ∙ tie-same w u (and-second _ _ old)) (and-first _ _ old) (and-first _ _ new))
      (Some (as_entry (v, m'))) (shown_at names j p w)
      ∙ then-added j p w

  pub replaced : v ≡ u → m.folder ≡ m'.folder → m.place ≡ m'.place → (j : ℕ) (p : Place) (w : List ℕ) → put_in j p w ≡ shown_at after_both j p w
  replaced is folder place j p w =
      shadowed (is_spot m'.folder m'.place j p && eq_by_cmp name_cmp w v) (Some (as_entry (v, m'))) (shown_at names j p w)
      ∙ ap (cond (is_spot m'.folder m'.place j p && eq_by_cmp name_cmp w v) (Some (as_entry (v, m'))))
      (λ i. but (sym folder i) (sym place i) (is i) None (shown_at names) j p w)
      ∙ then-added j p w

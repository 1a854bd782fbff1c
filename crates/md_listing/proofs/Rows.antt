-- The messages among the rows of a directory are what a reading of it shows.
use Rattle.std.proofs.Common.{ℕ, ◌≡◌, inl, inr, List, [], ◌∷◌, Option, Some, None, Bool, true, false, cond, ◌&&◌, ◌==◌, not, map, filter, length, refl, sym, ap, subst, ◌∙◌, eqb-true}
use Rattle.std.specs.Option.{option_map, option_and_then}
use Rattle.std.specs.List.{filter_map}
use Rattle.std.specs.FinMap.{get, entries, entries-from_sorted, get-from_sorted, from_sorted}
use Rattle.std.proofs.lemmas.Cmp.{nat_list_cmp_total}
use Rattle.std.proofs.lemmas.Map.Lookups.{exact_bytes}
use Rattle.md_dirs.specs.Path.{place_index}
use Rattle.md_dirs.specs.State.{State, file_at, file_by}
use Rattle.md_dirs.specs.Rows.{row_by, row_of, is_in, rows_of}
use Rattle.md_dirs.specs.declared.paths.Path.{Path}
use Rattle.md_dirs.specs.declared.paths.File.{File}
use Rattle.md_dirs.specs.declared.paths.Place.{Place}
use Rattle.md_dirs.specs.declared.paths.Place.TheVariants.{Tmp, New, Cur}
use Rattle.md_dirs.proofs.PathOrder.{path_total, path_exact}
use Rattle.md_name.specs.Names.{unique_of, info_of, is_message_name}
use Rattle.md_core.specs.Mailbox.{mailbox_of, bytes_of, name_cmp}
use Rattle.md_used.specs.Paths.{is_tmp}
use Rattle.md_core.specs.History.{Listed, Names, names_of}
use Rattle.lists.proofs.Members.{Has, get-has, has-get}
use Rattle.md_core.specs.Laws.{listed_at}
use Rattle.md_listing.specs.declared.entry.Entry.{Entry}
use Rattle.md_listing.specs.Readings.{as_entry, is_at, with_unique, reading_of}
use Rattle.md_listing.specs.Rows.{entry_of_row, entries_of}
use Rattle.md_listing.proofs.Keyed.{lookup, IsSorted, sorted-values}
use Rattle.md_listing.proofs.MadeOf.{filter_map-map, came, goes}
use Rattle.md_listing.proofs.Paths.{AreOfPaths, AreListed}
use Rattle.md_listing.proofs.Readings.{entry_at, reading-sorted, lookup-reading}

by_bool : {A B : Type 0} (f : A → B) (b : Bool) (x : A) → option_map f (cond b (Some x) None) ≡ cond b (Some (f x)) None
by_bool f true x = refl
by_bool f false x = refl

-- the entry of a name and its file
abbrev pub row_says : Place → List ℕ → Option File → Entry
row_says place name file = record { unique = unique_of name; place = place; name = name; size = length (bytes_of file) }

pub entry-row : (place : Place) (name : List ℕ) (file : Option File)
    → entry_of_row place (row_by name file) ≡ cond (is_message_name name) (Some (row_says place name file)) None
entry-row place name None = by_bool _ (is_message_name name) (unique_of name, info_of name)
entry-row place name (Some file) = by_bool _ (is_message_name name) (unique_of name, info_of name)

pub same_place : (p q : Place) → place_index p ≡ place_index q → p ≡ q
same_place Tmp Tmp e = refl
same_place Tmp New e = cc
same_place Tmp Cur e = cc
same_place New Tmp e = cc
same_place New New e = refl
same_place New Cur e = cc
same_place Cur Tmp e = cc
same_place Cur New e = cc
same_place Cur Cur e = refl

pub and-first : (a b : Bool) → (a && b) ≡ true → a ≡ true
and-first true b e = refl
and-first false b e = cc

pub and-second : (a b : Bool) → (a && b) ≡ true → b ≡ true
and-second true b e = e
and-second false b e = cc

pub and-both : (a b : Bool) → a ≡ true → b ≡ true → (a && b) ≡ true
and-both true b p q = q
and-both false b p q = cc

pub and-true : (b : Bool) → (b && true) ≡ b
and-true true = refl
and-true false = refl

pub and-false : (b : Bool) → (b && false) ≡ false
and-false true = refl
and-false false = refl

pub if-some : {X : Type 0} (b : Bool) (x y : X) → cond b (Some x) None ≡ Some y → (b ≡ true) × (x ≡ y)
if-some true x y is = (refl, (let e : x ≡ y = cc in e))
if-some false x y is = cc

same_option : {X : Type 0} (a b : Option X) → ((x : X) → a ≡ Some x → b ≡ Some x) → ((x : X) → b ≡ Some x → a ≡ Some x) → a ≡ b
same_option None None there back = refl
same_option None (Some y) there back = let h = back y refl in cc
same_option (Some x) b there back = sym (there x refl)

-- what is found in a list in order is one of its entries, and the other way round
module _ (es : List Entry) (sorted : IsSorted es) where
  has-keyed : (fs : List Entry) (e : Entry) → Has fs e → Has (map with_unique fs) (e.unique, e)
  has-keyed [] e has = absurd has
  has-keyed (f ∷ fs) e has = elim has [ inl is ↦ inl (ap with_unique is) | inr rest ↦ inr (has-keyed fs e rest) ]

  keyed-has : (fs : List Entry) (u : List ℕ) (e : Entry) → Has (map with_unique fs) (u, e) → Has fs e × (u ≡ e.unique)
  keyed-has [] u e has = absurd has
  keyed-has (f ∷ fs) u e has = elim has [
    | inl is ↦
        let same : e ≡ f = ap (λ (x : List ℕ × Entry). x.1) is in
        (inl same, ap (λ (x : List ℕ × Entry). x.0) is ∙ sym (ap (λ (x : Entry). x.unique) same))
    | inr rest ↦ let h = keyed-has fs u e rest in (inr h.0, h.1)
  ]

  pub found-has : (u : List ℕ) (e : Entry) → lookup u es ≡ Some e → Has es e × (u ≡ e.unique)
  found-has u e is = keyed-has es u e
      (subst (λ (l : List (List ℕ × Entry)). Has l (u, e)) (entries-from_sorted name_cmp (map with_unique es) sorted)
      (get-has nat_list_cmp_total exact_bytes (from_sorted (map with_unique es)) u e (get-from_sorted name_cmp (map with_unique es) u sorted ∙ is)))

  pub has-found : (e : Entry) → Has es e → lookup e.unique es ≡ Some e
  has-found e has =
      sym (get-from_sorted name_cmp (map with_unique es) e.unique sorted)
      ∙ has-get nat_list_cmp_total exact_bytes (from_sorted (map with_unique es)) (e.unique, e)
      (subst (λ (l : List (List ℕ × Entry)). Has l (e.unique, e)) (sym (entries-from_sorted name_cmp (map with_unique es) sorted)) (has-keyed es e has))

module _ (s : State) (folder : ℕ) (place : Place) where
  abbrev names : Names
  names = names_of (mailbox_of s)

  abbrev pub in_rows : List Entry
  in_rows = entries_of place (rows_of s folder place)

  abbrev pub in_place : Path × ℕ → Bool
  in_place x = is_in folder place x.0

  abbrev pub row_entry : Path × ℕ → Option Entry
  row_entry x = entry_of_row place (row_of s.files x)

  pub in_rows-is : in_rows ≡ filter_map row_entry (filter in_place (entries s.names))
  in_rows-is = filter_map-map (row_of s.files) (entry_of_row place) (filter in_place (entries s.names))

  -- what is shown of a unique name
  abbrev shown_at : List ℕ → Option Entry
  shown_at u = option_and_then (entry_at folder place u) (get names u)

  -- a message of a row is shown
  row-shown : AreListed s → is_tmp place ≡ false → (e : Entry) → Has in_rows e → shown_at e.unique ≡ Some e
  row-shown are_listed not_tmp e has =
      let from = came in_place row_entry (entries s.names) e (subst (λ (l : List Entry). Has l e) in_rows-is has) in
      by from.0.0 from.0.1 (has-get path_total path_exact s.names from.0 from.1) from.2 from.3
    where
      by : (p : Path) (n : ℕ) → file_at s p ≡ Some n → is_in folder place p ≡ true → row_entry (p, n) ≡ Some e → shown_at e.unique ≡ Some e
      by p n there inside made =
          let file : Option File = file_by s.files n in
          let says = if-some (is_message_name p.name) (row_says place p.name file) e (sym (entry-row place p.name file) ∙ made) in
          let place_is : p.place ≡ place = same_place p.place place
          (eqb-true (place_index p.place) (place_index place) (and-second (p.folder == folder) (place_index p.place == place_index place) inside)) in
          let u_is : unique_of p.name ≡ e.unique = ap (λ (x : Entry). x.unique) says.1 in
          let x : Listed = listed_at s p n in
          let got : get names e.unique ≡ Some x = are_listed e.unique x (record {
            path = p;
            file = n;
            there = there;
            message = and-both _ _ (ap (λ (q : Place). not (is_tmp q)) place_is ∙ ap not not_tmp) says.0;
            unique = u_is;
            shown = refl;
          }) in
          let same : as_entry (e.unique, x) ≡ row_says place p.name file =
          (λ i. record { unique = sym u_is i; place = place_is i; name = p.name; size = length (bytes_of file) }) in
          ap (option_and_then (entry_at folder place e.unique)) got
          ∙ ap (λ b. cond {A = Option Entry} b (Some (as_entry (e.unique, x))) None) inside ∙ ap Some (same ∙ says.1)

  -- a message that is shown has its row
  shown-row : AreOfPaths s → (u : List ℕ) (e : Entry) → shown_at u ≡ Some e → Has in_rows e × (u ≡ e.unique)
  shown-row of_paths u e is = by (get names u) refl
    where
      by : (o : Option Listed) → get names u ≡ o → Has in_rows e × (u ≡ e.unique)
      by None none = let h : None ≡ Some e = sym (ap (option_and_then (entry_at folder place u)) none) ∙ is in cc
      by (Some x) some =
          let h : entry_at folder place u x ≡ Some e = sym (ap (option_and_then (entry_at folder place u)) some) ∙ is in
          let says = if-some (is_at folder place (u, x)) (as_entry (u, x)) e h in
          let at = of_paths u x some in
          let p : Path = at.path in
          let file : Option File = file_by s.files at.file in
          let inside : is_in folder place p ≡ true =
          (λ i. ((at.shown i).folder == folder) && (place_index (at.shown i).place == place_index place)) ∙ says.0 in
          let place_is : place ≡ x.place = sym (same_place x.place place (eqb-true (place_index x.place) (place_index place) (and-second _ _ says.0))) in
          let row : row_says place p.name file ≡ as_entry (u, x) =
          (λ i. record { unique = at.unique i; place = place_is i; name = (at.shown i).name; size = (at.shown i).size }) in
          let made : row_entry (p, at.file) ≡ Some e =
          entry-row place p.name file
          ∙ ap (λ b. cond {A = Option Entry} b (Some (row_says place p.name file)) None) (and-second _ _ at.message)
          ∙ ap Some (row ∙ says.1) in (
            subst (λ (l : List Entry). Has l e) (sym in_rows-is)
                (goes in_place row_entry (entries s.names) (p, at.file) e (get-has path_total path_exact s.names p at.file at.there) inside made),
            ap (λ (x : Entry). x.unique) says.1,
          )

  module _ (es : List Entry) (sorted : IsSorted es) where
    -- a list in order that shows of each unique name what is shown of it is the reading
    pub reading-by : ((u : List ℕ) → lookup u es ≡ shown_at u) → es ≡ reading_of names folder place
    reading-by same =
        sorted-values es (reading_of names folder place) sorted (λ u. same u ∙ sym (lookup-reading folder place names u))
        ∙ sym (sorted-values (reading_of names folder place) (reading_of names folder place) (reading-sorted folder place names) (λ u. refl))

    -- entries in order are the reading, if they are those of the rows
    pub rows-reading : AreOfPaths s → AreListed s → is_tmp place ≡ false → ((e : Entry) → Has es e → Has in_rows e) → ((e : Entry) → Has in_rows e → Has es e)
        → es ≡ reading_of names folder place
    rows-reading of_paths are_listed not_tmp there back = reading-by (λ u. same_option (lookup u es) (shown_at u)
        (λ e is. let h = found-has es sorted u e is in ap shown_at h.1 ∙ row-shown are_listed not_tmp e (there e h.0))
        (λ e is. let h = shown-row of_paths u e is in ap (λ v. lookup v es) h.1 ∙ has-found es sorted e (back e h.0)))

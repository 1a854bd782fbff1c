-- No unique name stands twice among the messages of a directory.
use Rattle.std.proofs.Common.{ℕ, ◌≡◌, ◌≤◌, inl, inr, List, [], ◌∷◌, Option, Some, None, Bool, true, false, cond, T, ◌&&◌, not, filter, length, refl, sym, ap, subst, ◌∙◌, arith}
use Rattle.std.specs.declared.cmp.Ordering.TheVariants.{Less}
use Rattle.std.specs.List.{filter_map, cons_option}
use Rattle.std.specs.FinMap.{entries, entries_sorted}
use Rattle.std.specs.FinMap.Entries.{is_sorted, below_all}
use Rattle.std.proofs.lemmas.Cmp.{tied_itself}
use Rattle.md_dirs.specs.Path.{path_cmp, place_index}
use Rattle.md_dirs.specs.State.{State, file_at, file_by}
use Rattle.md_dirs.specs.declared.paths.Path.{Path}
use Rattle.md_dirs.specs.declared.paths.Place.{Place}
use Rattle.md_dirs.proofs.PathOrder.{path_total, path_exact}
use Rattle.md_name.specs.Names.{unique_of, is_message_name}
use Rattle.md_core.specs.Mailbox.{HasOnePath}
use Rattle.md_used.specs.Paths.{is_tmp, is_message}
use Rattle.lists.proofs.Members.{Has, has-get}
use Rattle.md_listing.specs.declared.entry.Entry.{Entry}
use Rattle.md_listing.proofs.Keyed.{first, second, less, tie-same}
use Rattle.md_listing.proofs.MadeOf.{came}
use Rattle.md_listing.proofs.Ordered.{is_of, IsApart}
use Rattle.md_listing.proofs.Rows.{in_rows, in_rows-is, in_place, row_entry, row_says, entry-row, same_place, and-second, if-some}
use Rattle.std.proofs.Common.{eqb-true}

-- where no entry has the unique name, none is picked
none-picked : (u : List ℕ) (es : List Entry) → ((e : Entry) → Has es e → is_of u e ≡ false) → filter (is_of u) es ≡ []
none-picked u [] none = refl
none-picked u (e ∷ es) none =
    ap (λ b. cond b (e ∷ filter (is_of u) es) (filter (is_of u) es)) (none e (inl refl)) ∙ none-picked u es (λ f has. none f (inr has))

module _ (s : State) (one : HasOnePath s) (folder : ℕ) (place : Place) (not_tmp : is_tmp place ≡ false) where
  -- a row's entry is of a message, with the unique name of its path
  record IsRow (x : Path × ℕ) (e : Entry) : Type 0 where
    message : is_message x.0 ≡ true
    unique : unique_of x.0.name ≡ e.unique

  is_row : (x : Path × ℕ) (e : Entry) → in_place s folder place x ≡ true → row_entry s folder place x ≡ Some e → IsRow x e
  is_row x e inside made =
      let p : Path = x.0 in
      let says = if-some (is_message_name p.name) (row_says place p.name (file_by s.files x.1)) e (sym (entry-row place p.name (file_by s.files x.1)) ∙ made) in
      let at : p.place ≡ place = same_place p.place place (eqb-true (place_index p.place) (place_index place) (and-second _ _ inside)) in
      record {
        message = (λ i. not (is_tmp (at i)) && is_message_name p.name) ∙ (λ i. not (not_tmp i) && says.0 i);
        unique = ap (λ (y : Entry). y.unique) says.1;
      }

  above : (x y : Path × ℕ) (es : List (Path × ℕ)) → T (below_all path_cmp x.0 es) → Has es y → path_cmp x.0 y.0 ≡ Less
  above x y [] below has = absurd has
  above x y (e ∷ es) below has = elim has [
    | inl is ↦ ap (λ (z : Path × ℕ). path_cmp x.0 z.0) is ∙ less _ (first _ _ below)
    | inr later ↦ above x y es (second _ _ below) later
  ]

  -- two messages of one unique name aren't at two paths
  apart-from : (x : Path × ℕ) (e : Entry) (es : List (Path × ℕ)) → ((y : Path × ℕ) → Has (x ∷ es) y → file_at s y.0 ≡ Some y.1) → T (below_all path_cmp x.0 es)
      → in_place s folder place x ≡ true → row_entry s folder place x ≡ Some e → (f : Entry)
      → Has (filter_map (row_entry s folder place) (filter (in_place s folder place) es)) f → e.unique ≡ f.unique → ⊥
  apart-from x e es there below inside made f has same =
      let from = came (in_place s folder place) (row_entry s folder place) es f has in
      let mine = is_row x e inside made in
      let its = is_row from.0 f from.2 from.3 in
      let path : x.0 ≡ from.0.0 =
      one x.0 from.0.0 x.1 from.0.1 (there x (inl refl)) (there from.0 (inr from.1)) mine.message its.message (mine.unique ∙ same ∙ sym its.unique) in
      let low : path_cmp x.0 from.0.0 ≡ Less = above x from.0 es below from.1 in
      let tie = tied_itself path_total x.0 in
      let both : path_cmp x.0 x.0 ≡ Less = ap (path_cmp x.0) path ∙ low in
      cc

  apart-rows : (es : List (Path × ℕ)) → ((y : Path × ℕ) → Has es y → file_at s y.0 ≡ Some y.1) → T (is_sorted path_cmp es)
      → IsApart (filter_map (row_entry s folder place) (filter (in_place s folder place) es))
  apart-rows [] there sorted u = omega arith
  apart-rows (x ∷ es) there sorted u = by (apart-rows es (λ y has. there y (inr has)) (second _ _ sorted) u) (in_place s folder place x) refl
    where
      rest : List Entry
      rest = filter_map (row_entry s folder place) (filter (in_place s folder place) es)

      picked : (e : Entry) → ((f : Entry) → Has rest f → e.unique ≡ f.unique → ⊥) → length (filter (is_of u) rest) ≤ 1 → (b : Bool) → is_of u e ≡ b
          → length (cond b (e ∷ filter (is_of u) rest) (filter (is_of u) rest)) ≤ 1
      picked e apart few false is = few
      picked e apart few true is =
          let none : filter (is_of u) rest ≡ [] = none-picked u rest (λ f has. not_of f has (is_of u f) refl) in
          subst (λ (l : List Entry). length (e ∷ l) ≤ 1) (sym none) (omega arith)
        where
          not_of : (f : Entry) → Has rest f → (c : Bool) → is_of u f ≡ c → is_of u f ≡ false
          not_of f has false it = it
          not_of f has true it = absurd (apart f has (sym (tie-same u e.unique is) ∙ tie-same u f.unique it))

      made : length (filter (is_of u) rest) ≤ 1 → in_place s folder place x ≡ true → (o : Option Entry) → row_entry s folder place x ≡ o
          → length (filter (is_of u) (cons_option o rest)) ≤ 1
      made few inside None is = few
      made few inside (Some e) is = picked e (apart-from x e es there (first _ _ sorted) inside is) few (is_of u e) refl

      by : length (filter (is_of u) rest) ≤ 1 → (b : Bool) → in_place s folder place x ≡ b
          → length (filter (is_of u)
          (filter_map (row_entry s folder place) (cond b (x ∷ filter (in_place s folder place) es) (filter (in_place s folder place) es)))) ≤ 1
      by few false is = few
      by few true is = made few is (row_entry s folder place x) refl

  pub rows-apart : IsApart (in_rows s folder place)
  rows-apart = subst IsApart (sym (in_rows-is s folder place))
      (apart-rows (entries s.names) (λ y has. has-get path_total path_exact s.names y has) (entries_sorted s.names))

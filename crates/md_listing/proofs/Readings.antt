-- What a reading shows of each unique name.
use Rattle.std.proofs.Common.{ℕ, ◌≡◌, List, [], ◌∷◌, Option, Some, None, Bool, true, false, cond, T, map, filter, refl, sym, ap, subst, ◌∙◌}
use Rattle.std.specs.Option.{option_and_then}
use Rattle.std.specs.Ordering.{eq_by_cmp}
use Rattle.std.specs.FinMap.{find, get, get-entries, entries, entries_sorted}
use Rattle.std.specs.FinMap.Entries.{is_sorted, below_all}
use Rattle.md_dirs.specs.declared.paths.Place.{Place}
use Rattle.md_core.specs.Mailbox.{name_cmp}
use Rattle.md_core.specs.History.{Listed, Names}
use Rattle.md_listing.specs.declared.entry.Entry.{Entry}
use Rattle.md_listing.specs.Readings.{as_entry, is_at, reading_of}
use Rattle.md_listing.proofs.Keyed.{lookup, IsBelow, IsSorted, both, first, second, lookup-below, tie-same}

-- the entry of a message, if it is in a directory of a folder
abbrev pub entry_at : ℕ → Place → List ℕ → Listed → Option Entry
entry_at folder place u x = cond (is_at folder place (u, x)) (Some (as_entry (u, x))) None

module _ (folder : ℕ) (place : Place) where
  abbrev pub shown_of : List (List ℕ × Listed) → List Entry
  shown_of es = map as_entry (filter (is_at folder place) es)

  below-shown : (u : List ℕ) (es : List (List ℕ × Listed)) → T (below_all name_cmp u es) → IsBelow u (shown_of es)
  below-shown u [] below = tt
  below-shown u (e ∷ es) below =
      elim (is_at folder place e) as (λ b. IsBelow u (map as_entry (cond b (e ∷ filter (is_at folder place) es) (filter (is_at folder place) es)))) [
        | true ↦ both _ _ (first _ _ below) (below-shown u es (second _ _ below))
        | false ↦ below-shown u es (second _ _ below)
      ]

  sorted-shown : (es : List (List ℕ × Listed)) → T (is_sorted name_cmp es) → IsSorted (shown_of es)
  sorted-shown [] sorted = tt
  sorted-shown (e ∷ es) sorted =
      elim (is_at folder place e) as (λ b. IsSorted (map as_entry (cond b (e ∷ filter (is_at folder place) es) (filter (is_at folder place) es)))) [
        | true ↦ both _ _ (below-shown e.0 es (first _ _ sorted)) (sorted-shown es (second _ _ sorted))
        | false ↦ sorted-shown es (second _ _ sorted)
      ]

  lookup-shown : (u : List ℕ) (es : List (List ℕ × Listed)) → T (is_sorted name_cmp es)
      → lookup u (shown_of es) ≡ option_and_then (entry_at folder place u) (find name_cmp u es)
  lookup-shown u [] sorted = refl
  lookup-shown u (e ∷ es) sorted = by (lookup-shown u es (second _ _ sorted)) (eq_by_cmp name_cmp u e.0) refl (is_at folder place e) refl
    where
      by : lookup u (shown_of es) ≡ option_and_then (entry_at folder place u) (find name_cmp u es) → (t : Bool) → eq_by_cmp name_cmp u e.0 ≡ t → (b : Bool)
          → is_at folder place e ≡ b →
          lookup u (map as_entry (cond b (e ∷ filter (is_at folder place) es) (filter (is_at folder place) es)))
          ≡ option_and_then (entry_at folder place u) (cond t (Some e.1) (find name_cmp u es))
      by rest true tie true here =
          let same : u ≡ e.0 = tie-same u e.0 tie in
          ap (λ t. cond t (Some (as_entry e)) (lookup u (shown_of es))) tie
          ∙ sym (ap (λ b. cond {A = Option Entry} b (Some (as_entry (u, e.1))) None) here ∙ ap (λ (v : List ℕ). Some (as_entry (v, e.1))) same)
      by rest true tie false here =
          let same : u ≡ e.0 = tie-same u e.0 tie in
          lookup-below u (shown_of es) (below-shown u es (subst (λ (v : List ℕ). T (below_all name_cmp v es)) (sym same) (first _ _ sorted)))
          ∙ sym (ap (λ b. cond {A = Option Entry} b (Some (as_entry (u, e.1))) None) here)
      by rest false tie true here = ap (λ t. cond t (Some (as_entry e)) (lookup u (shown_of es))) tie ∙ rest
      by rest false tie false here = rest

  pub reading-sorted : (names : Names) → IsSorted (reading_of names folder place)
  reading-sorted names = sorted-shown (entries names) (entries_sorted names)

  pub lookup-reading : (names : Names) (u : List ℕ) → lookup u (reading_of names folder place) ≡ option_and_then (entry_at folder place u) (get names u)
  lookup-reading names u = lookup-shown u (entries names) (entries_sorted names) ∙ ap (option_and_then (entry_at folder place u)) (sym (get-entries names u))

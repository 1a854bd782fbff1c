-- What looks at the rows of a directory tell of its names.
use Rattle.std.proofs.Common.{ℕ, zero, suc, ◌≡◌, ◌+◌, ◌<◌, ◌≤◌, List, [], ◌∷◌, Option, Some, None, Bool, true, false, cond, T, refl, sym, ap, ◌∙◌, arith, length, map, filter, nat_lt, slice_get}
use Rattle.std.proofs.lemmas.List.{length-map}
use Rattle.std.specs.Option.{option_map, option_and_then}
use Rattle.std.specs.FinMap.{is_sorted, entries, entries_sorted}
use Rattle.md_dirs.specs.State.{State, file_by}
use Rattle.md_dirs.specs.Rows.{rows_of, row_of, row_by, row_named, is_in, is_named}
use Rattle.md_dirs.specs.Index.{name_cmp, rows_in, named_row}
use Rattle.md_dirs.specs.Files.{name_row}
use Rattle.md_dirs.specs.Find.{zone, name_at, IsHalved, IsEdge, IsFirstPlace}
use Rattle.md_dirs.specs.declared.paths.File.{File}
use Rattle.md_dirs.specs.declared.paths.Path.{Path}
use Rattle.md_dirs.specs.declared.paths.Place.{Place}
use Rattle.md_dirs.specs.declared.rows.Row.{Row}
use Rattle.std.proofs.lemmas.Option.{slice_get-map, slice_get_within}
use Rattle.lists.proofs.Pushed.{past-end}
use Rattle.md_dirs.proofs.Sliced.{names-sorted}
use Rattle.md_dirs.proofs.Zones.{row_named-map, name-by, name-point, name-missing, first-is-info, halved-low, halved-high}

named-rows : (files : List (Option File)) (es : List (Path × ℕ)) → map (row_of files) es ≡ map (name_row files) (map named_row es)
named-rows files [] = refl
named-rows files (e ∷ es) = ap (λ rows. row_by e.0.name (file_by files e.1) ∷ rows) (named-rows files es)

name-there : (files : List (Option File)) (es : List (List ℕ × ℕ)) (i : ℕ) (r : Row) → slice_get (map (name_row files) es) i ≡ Some r → r.name ≡ name_at es i
name-there files [] i r is = cc
name-there files (e ∷ es) zero r is = let same : name_row files e ≡ r = cc in ap (λ (x : Row). x.name) (sym same) ∙ name-by e.0 (file_by files e.1)
name-there files (e ∷ es) (suc i) r is = name-there files es i r is

module _ (s : State) (folder : ℕ) (place : Place) where
  abbrev pub names : List (List ℕ × ℕ)
  names = rows_in s.names folder place

  -- what directories show of their rows
  pub rows-named : rows_of s folder place ≡ map (name_row s.files) names
  rows-named = named-rows s.files (filter (λ e. is_in folder place e.0) (entries s.names))

  pub in-order : T (is_sorted name_cmp names)
  in-order = names-sorted folder place (entries s.names) (entries_sorted s.names)

  pub count-named : length (rows_of s folder place) ≡ length names
  count-named = ap length rows-named ∙ length-map names (name_row s.files)

  pub within-named : (i : ℕ) (r : Row) → slice_get (rows_of s folder place) i ≡ Some r → i < length names
  within-named i r is = let inside = slice_get_within (rows_of s folder place) i r is in omega (arith, count-named)

  pub name-named : (i : ℕ) (r : Row) → slice_get (rows_of s folder place) i ≡ Some r → r.name ≡ name_at names i
  name-named i r is = name-there s.files names i r (ap (λ rows. slice_get rows i) (sym rows-named) ∙ is)

  pub past-named : (i : ℕ) → slice_get (rows_of s folder place) i ≡ None → length names ≤ i
  past-named i is = let past = past-end (rows_of s folder place) i is in omega (arith, count-named)

  -- the row at the first place is the one that is looked for, if it has the unique name
  pub row-first : (u : List ℕ) (i : ℕ) (o : Option Row) → IsFirstPlace names u i → o ≡ slice_get (rows_of s folder place) i →
      option_and_then (λ (r : Row). cond (is_named u r.name) (Some r) None) o ≡ row_named u (rows_of s folder place)
  row-first u i o first is =
      ap (option_and_then (λ (r : Row). cond (is_named u r.name) (Some r) None))
      (is ∙ ap (λ rows. slice_get rows i) rows-named ∙ slice_get-map (name_row s.files) names i)
      ∙ by (slice_get names i)
      ∙ sym (ap (row_named u) rows-named ∙ row_named-map u s.files names ∙ ap (option_map (name_row s.files)) first)
    where
      named : (e : List ℕ × ℕ) (b : Bool) → cond {A = Option Row} b (Some (name_row s.files e)) None ≡ option_map (name_row s.files) (cond b (Some e) None)
      named e true = refl
      named e false = refl

      by : (e : Option (List ℕ × ℕ)) → option_and_then (λ (r : Row). cond (is_named u r.name) (Some r) None) (option_map (name_row s.files) e) ≡
          option_map (name_row s.files) (option_and_then (λ x. cond (is_named u x.0) (Some x) None) e)
      by None = refl
      by (Some e) = ap (λ a. cond (is_named u a) (Some (name_row s.files e)) None) (name-by e.0 (file_by s.files e.1)) ∙ named e (is_named u e.0)

  module _ (u : List ℕ) (edge low high : ℕ) (halved : IsHalved names u edge low high) (m : ℕ) (to : m < high) where
    -- there is a row where halving looks
    pub looked-past : None ≡ slice_get (rows_of s folder place) m → ⊥
    looked-past is = let past = past-named m (sym is) in omega (arith, halved.within)

    module _ (from : low ≤ m) (r : Row) (is : Some r ≡ slice_get (rows_of s folder place) m) where
      pub looked-low : nat_lt (zone u r.name) edge ≡ true → IsHalved names u edge (m + 1) high
      looked-low test =
          halved-low names u edge low high in-order halved m from to (ap (λ a. nat_lt (zone u a) edge) (sym (name-named m r (sym is))) ∙ test)

      pub looked-high : nat_lt (zone u r.name) edge ≡ false → IsHalved names u edge low m
      looked-high test =
          halved-high names u edge low high in-order halved m from to (ap (λ a. nat_lt (zone u a) edge) (sym (name-named m r (sym is))) ∙ test)

  -- the row at the unique name
  pub row-at_name : (u : List ℕ) (i : ℕ) (r : Row) → IsEdge names u 1 i → Some r ≡ slice_get (rows_of s folder place) i → is_named u r.name ≡ true →
      Some r ≡ row_named u (rows_of s folder place)
  row-at_name u i r edge is named =
      let there = within-named i r (sym is) in
      sym (ap (λ b. cond b (Some r) None) named)
      ∙ row-first u i (Some r) (name-point u names i there edge.before (ap (is_named u) (sym (name-named i r (sym is))) ∙ named)) is

  -- where that row has another name, the row at the unique name with a colon
  pub row-at_info : (u : List ℕ) (i j : ℕ) (at o : Option Row) → IsEdge names u 1 i → at ≡ slice_get (rows_of s folder place) i →
      option_and_then (λ (r : Row). cond (is_named u r.name) (Some r) None) at ≡ None
      → IsEdge names u 3 j → o ≡ slice_get (rows_of s folder place) j →
      option_and_then (λ (r : Row). cond (is_named u r.name) (Some r) None) o ≡ row_named u (rows_of s folder place)
  row-at_info u i j at o edge is none info is' =
      row-first u j o (first-is-info u names j in-order
      (name-missing u names i in-order edge.before edge.after (λ inside. unnamed inside at is none)) info) is'
    where
      not_named : (r : Row) (b : Bool) → is_named u r.name ≡ b → cond {A = Option Row} b (Some r) None ≡ None → is_named u r.name ≡ false
      not_named r true t h = cc
      not_named r false t h = t

      unnamed : i < length names → (o : Option Row) → o ≡ slice_get (rows_of s folder place) i →
          option_and_then (λ (r : Row). cond (is_named u r.name) (Some r) None) o ≡ None → is_named u (name_at names i) ≡ false
      unnamed inside None is none = let past = past-named i (sym is) in absurd (omega arith)
      unnamed inside (Some r) is none = ap (is_named u) (sym (name-named i r (sym is))) ∙ not_named r (is_named u r.name) refl none

-- The three ways in which a reading is made.
use Rattle.std.proofs.Common.{ℕ, ◌≡◌, List, [], Option, Some, None, Bool, true, false, cond, ◌&&◌, ◌==◌, refl, sym, ap, subst, ◌∙◌}
use Rattle.std.specs.Option.{option_and_then}
use Rattle.std.specs.FinMap.{get}
use Rattle.std.specs.List.Sorted.{IsPermutation, IsSortedBy}
use Rattle.md_dirs.specs.Path.{place_index}
use Rattle.md_dirs.specs.State.{State}
use Rattle.md_dirs.specs.declared.paths.Place.{Place}
use Rattle.md_dirs.specs.declared.paths.Place.TheVariants.{Tmp, New, Cur}
use Rattle.md_core.specs.Mailbox.{mailbox_of, HasOnePath}
use Rattle.md_used.specs.Paths.{is_tmp}
use Rattle.md_core.specs.History.{Listed, names_of}
use Rattle.lists.proofs.Members.{Has}
use Rattle.md_listing.specs.declared.entry.Entry.{Entry}
use Rattle.md_listing.specs.Readings.{as_entry, reading_of}
use Rattle.md_listing.proofs.Keyed.{IsSorted}
use Rattle.md_listing.proofs.Paths.{AreOfPaths, AreListed, not_in_tmp}
use Rattle.md_listing.proofs.Readings.{entry_at}
use Rattle.md_listing.proofs.Rows.{in_rows, reading-by, rows-reading}
use Rattle.md_listing.proofs.Distinct.{rows-apart}
use Rattle.md_listing.proofs.Ordered.{is_under, apart-permuted, strictly, permuted-has, has-permuted}

and-false : (b : Bool) → (b && false) ≡ false
and-false true = refl
and-false false = refl

-- there is no message in tmp
pub reading-tmp : (s : State) → AreOfPaths s → (folder : ℕ) → [] ≡ reading_of (names_of (mailbox_of s)) folder Tmp
reading-tmp s of_paths folder = reading-by s folder Tmp [] tt (λ u. by u (get (names_of (mailbox_of s)) u) refl)
  where
    by : (u : List ℕ) (o : Option Listed) → get (names_of (mailbox_of s)) u ≡ o
        → None ≡ option_and_then (entry_at folder Tmp u) (get (names_of (mailbox_of s)) u)
    by u None is = sym (ap (option_and_then (entry_at folder Tmp u)) is)
    by u (Some x) is = sym (ap (option_and_then (entry_at folder Tmp u)) is ∙ placed x.place refl)
      where
        elsewhere : (p : Place) → x.place ≡ p → (place_index p == place_index Tmp) ≡ false → entry_at folder Tmp u x ≡ None
        elsewhere p at other =
            (λ i. cond {A = Option Entry} ((x.folder == folder) && (place_index (at i) == place_index Tmp)) (Some (as_entry (u, x))) None)
            ∙ ap (λ b. cond {A = Option Entry} ((x.folder == folder) && b) (Some (as_entry (u, x))) None) other
            ∙ ap (λ b. cond {A = Option Entry} b (Some (as_entry (u, x))) None) (and-false (x.folder == folder))

        placed : (p : Place) → x.place ≡ p → entry_at folder Tmp u x ≡ None
        placed Tmp at = absurd (not_in_tmp s u x (of_paths u x is) at)
        placed New at = elsewhere New at refl
        placed Cur at = elsewhere Cur at refl

module _ (s : State) (of_paths : AreOfPaths s) (are_listed : AreListed s) (one : HasOnePath s) (folder : ℕ) (place : Place)
    (not_tmp : is_tmp place ≡ false) where
  -- the rows were in order of unique name
  pub reading-in_order : (es : List Entry) → es ≡ in_rows s folder place → IsSorted es → es ≡ reading_of (names_of (mailbox_of s)) folder place
  reading-in_order es is sorted =
      rows-reading s folder place es sorted of_paths are_listed not_tmp (λ e has. subst (λ (l : List Entry). Has l e) is has)
      (λ e has. subst (λ (l : List Entry). Has l e) (sym is) has)

  -- or they were sorted
  module _ (was es : List Entry) (is : was ≡ in_rows s folder place) (permutes : IsPermutation was es) (sorts : IsSortedBy is_under es) where
    pub sorted-in_order : IsSorted es
    sorted-in_order =
        strictly es sorts (apart-permuted was es permutes (subst Rattle.md_listing.proofs.Ordered.IsApart (sym is) (rows-apart s one folder place not_tmp)))

    pub reading-sorted_by : es ≡ reading_of (names_of (mailbox_of s)) folder place
    reading-sorted_by =
        rows-reading s folder place es sorted-in_order of_paths are_listed not_tmp
        (λ e has. subst (λ (l : List Entry). Has l e) is (permuted-has was es permutes e has))
        (λ e has. has-permuted was es permutes e (subst (λ (l : List Entry). Has l e) (sym is) has))

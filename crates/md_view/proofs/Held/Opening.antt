-- The readings of all folders of directories hold their names.
use Rattle.std.proofs.Common.{ℕ, ◌≡◌, ◌≤◌, ◌<◌, ◌^◌, List, [], Option, Some, None, inl, inr, Bool, true, false, cond, not, length, slice_get, refl, sym, ap, subst, ◌∙◌, arith, eqb-true}
use Rattle.std.proofs.lemmas.Bool.{not-true}
use Rattle.std.proofs.lemmas.Option.{slice_get_cases}
use Rattle.std.specs.Option.{option_and_then, option_map_or}
use Rattle.std.specs.FinMap.{get}
use Rattle.md_name.specs.Names.{unique_of, is_message_name}
use Rattle.md_dirs.specs.Path.{place_index}
use Rattle.md_dirs.specs.State.{State, IsSound}
use Rattle.md_dirs.specs.declared.paths.Place.{Place}
use Rattle.md_dirs.specs.declared.paths.Place.TheVariants.{Tmp, New, Cur}
use Rattle.md_used.specs.Paths.{is_tmp}
use Rattle.md_core.specs.History.{Listed}
use Rattle.md_listing.specs.declared.entry.Entry.{Entry}
use Rattle.md_listing.specs.Readings.{as_entry, is_at, reading_of}
use Rattle.md_view.specs.Named.{Named, named_of, AreMessages}
use Rattle.md_view.specs.Held.{FolderLists, list_of, AreHeld}
use Rattle.md_listing.proofs.Paths.{AreOfPaths}
use Rattle.md_listing.proofs.Readings.{entry_at}
use Rattle.md_listing.proofs.Rows.{and-first, and-second}
use Rattle.md_view.proofs.Held.Holding.{shown_at, reading-is}

-- each name of sound directories is a message's
pub sound-messages : (s : State) → AreOfPaths s → IsSound s → AreMessages (named_of s)
sound-messages s of_paths sound u x is =
    let at = of_paths u x is in
    record {
      folder = subst (λ (y : Listed). y.folder < s.folders) at.shown (sound.housed at.path at.file at.there);
      place = ap (λ (y : Listed). is_tmp y.place) (sym at.shown) ∙ not-true _ (and-first _ _ at.message);
      name = ap (λ (y : Listed). is_message_name y.name) (sym at.shown) ∙ and-second _ _ at.message;
      unique = ap (λ (y : Listed). unique_of y.name) (sym at.shown) ∙ at.unique;
    }

module _ (n : Named) (are : AreMessages n) where
  -- where no message is, none is read
  none-read : (folder : ℕ) (place : Place) → ((u : List ℕ) (m : Listed) → get n.names u ≡ Some m → is_at folder place (u, m) ≡ true → ⊥)
      → [] ≡ reading_of n.names folder place
  none-read folder place not = reading-is n.names folder place [] tt (λ u. by u (get n.names u) refl)
    where
      by : (u : List ℕ) (o : Option Listed) → get n.names u ≡ o → None ≡ shown_at n.names folder place u
      by u None is = sym (ap (option_and_then (entry_at folder place u)) is)
      by u (Some m) is =
          ap {B = Option Entry} (λ (b : Bool). cond b (Some (as_entry (u, m))) None) (sym (never (is_at folder place (u, m)) refl))
          ∙ sym (ap (option_and_then (entry_at folder place u)) is)
        where
          never : (b : Bool) → is_at folder place (u, m) ≡ b → is_at folder place (u, m) ≡ false
          never true at = absurd (not u m is at)
          never false at = at

  not-tmp : (folder : ℕ) → [] ≡ reading_of n.names folder Tmp
  not-tmp folder = none-read folder Tmp (λ u m is at. by m m.place refl (are u m is).place (eqb-true (place_index m.place) 0 (and-second _ _ at)))
    where
      by : (m : Listed) (p : Place) → m.place ≡ p → is_tmp m.place ≡ false → place_index m.place ≡ 0 → ⊥
      by m Tmp at placed index = let never : true ≡ false = sym (ap is_tmp at) ∙ placed in cc
      by m New at placed index = let never : 1 ≡ 0 = sym (ap place_index at) ∙ index in absurd (omega (arith, never))
      by m Cur at placed index = let never : 2 ≡ 0 = sym (ap place_index at) ∙ index in absurd (omega (arith, never))

  outside : (folder : ℕ) (place : Place) → n.folders ≤ folder → [] ≡ reading_of n.names folder place
  outside folder place past = none-read folder place (λ u m is at.
      let low = (are u m is).folder in
      let same = eqb-true m.folder folder (and-first _ _ at) in
      omega (arith, low, same, past))

  -- the readings of all folders
  pub readings-held : (fs : List FolderLists) → length fs < 2 ^ 32 → length fs ≡ n.folders
      → ((k : ℕ) (f : FolderLists) → slice_get fs k ≡ Some f → (f.in_new ≡ reading_of n.names k New) × (f.in_cur ≡ reading_of n.names k Cur)) → AreHeld n fs
  readings-held fs few count each = record {
    few = few;
    count = count;
    messages = are;
    lists = λ folder place. elim (slice_get_cases fs folder).1 [
      | inl (f, within, at, _) ↦ ap (λ (o : Option FolderLists). option_map_or (list_of place) o []) at ∙ of place folder f at
      | inr (past, at) ↦ ap (λ (o : Option FolderLists). option_map_or (list_of place) o []) at ∙ outside folder place (subst (λ k. k ≤ folder) count past)
    ];
  }
    where
      of : (place : Place) (folder : ℕ) (f : FolderLists) → slice_get fs folder ≡ Some f → list_of place f ≡ reading_of n.names folder place
      of Tmp folder f at = not-tmp folder
      of New folder f at = (each folder f at).0
      of Cur folder f at = (each folder f at).1

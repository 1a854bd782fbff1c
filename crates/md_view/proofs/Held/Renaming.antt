-- Lists in which a message got another name of the same unique name hold the names after it.
use Rattle.std.proofs.Common.{ℕ, ◌≡◌, ◌<◌, List, Option, Some, None, true, false, cond, length, slice_get, slice_set, refl, sym, ap, subst, ◌∙◌}
use Rattle.std.specs.Option.{option_map, option_map_or}
use Rattle.std.proofs.lemmas.List.{length-set}
use Rattle.std.proofs.lemmas.Cmp.{nat_list_eq_equiv}
use Rattle.md_name.specs.Names.{unique_of, is_message_name}
use Rattle.md_dirs.specs.declared.paths.Place.{Place}
use Rattle.md_core.specs.History.{Listed, names_after_change, size_in}
use Rattle.md_jobs.specs.declared.effect.Change.{Change}
use Rattle.md_jobs.specs.declared.effect.Change.TheVariants as change
use Rattle.md_listing.specs.declared.entry.Entry.{Entry}
use Rattle.md_listing.specs.Readings.{as_entry}
use Rattle.md_view.specs.Named.{Named, is_there, fits, after_change}
use Rattle.md_view.specs.Held.{FolderLists, list_of, AreHeld, entry_with, renamed, DiffersIn}
use Rattle.md_listing.proofs.Rows.{and-first, and-second}
use Rattle.md_view.proofs.Held.Holding.{shown_at, held-lists, found-in}
use Rattle.md_view.proofs.Held.Changing.{but-same, set-lists}
use Rattle.md_view.proofs.Held.Fitting.{rename-fits}
use Rattle.md_view.proofs.Held.Applying.{is-false, new_names, there-facts, there-shown, there-found, held-after, rename-held}

module _ (n : Named) (fs : List FolderLists) (held : AreHeld n fs) where
  -- a change that doesn't fit leaves the names as they are
  pub unfit-held : (c : Change) → fits n c ≡ false → AreHeld (after_change n c) fs
  unfit-held c unfit =
      subst (λ (m : Named). AreHeld m fs) (sym (ap (λ b. cond b (new_names n.folders (names_after_change n.names c)) n) unfit)) held

  module _ (folder : ℕ) (place : Place) (name : List ℕ) (to_folder : ℕ) (to_place : Place) (to_name : List ℕ) where
    pub unfit-there : is_there n folder place name ≡ false → fits n (change.Rename folder place name to_folder to_place to_name) ≡ false
    unfit-there none = is-false _ (λ fit.
        let never : true ≡ false = sym (and-second _ _ (and-first _ _ fit)) ∙ none in
        cc)

    pub unfit-name : is_message_name to_name ≡ false → fits n (change.Rename folder place name to_folder to_place to_name) ≡ false
    unfit-name none = is-false _ (λ fit.
        let never : true ≡ false = sym (and-first _ _ (and-second _ _ fit)) ∙ none in
        cc)

  module _ (folder : ℕ) (place : Place) (name to_name : List ℕ)
      (message : is_message_name to_name ≡ true) (same : unique_of to_name ≡ unique_of name)
      (f f' : FolderLists) (at : slice_get fs folder ≡ Some f) (within : folder < length fs) where
    abbrev what : Option Entry
    what = option_map (renamed name to_name) (entry_with (unique_of name) (list_of place f))

    abbrev change_here : Change
    change_here = change.Rename folder place name folder place to_name

    module _ (shows : DiffersIn place (unique_of name) what f f') where
      -- the entry has the old name
      with-name : is_there n folder place name ≡ true → AreHeld (after_change n change_here) (slice_set fs folder f')
      with-name is =
          let u = unique_of name in
          let there = there-facts n folder place name is in
          let old : Listed = record { folder = folder; place = place; name = name; size = there.size } in
          let new : Listed = record { folder = folder; place = place; name = to_name; size = size_in n.names u } in
          let spot = held.messages u old there.at in
          let fit = rename-fits n held.messages folder place name folder place to_name spot.folder spot.place same message there in
          let before : entry_with u (list_of place f) ≡ Some (as_entry (u, old)) =
          found-in n fs held folder f at place u ∙ there-shown n fs held folder place name there in
          let sized : there.size ≡ size_in n.names u = sym (ap (λ (o : Option Listed). option_map_or (λ (x : Listed). x.size) o 0) there.at) in
          let after : what ≡ Some (as_entry (unique_of to_name, new)) =
          ap (option_map (renamed name to_name)) before
          ∙ ap (λ b. Some (cond b (record (as_entry (u, old)) { name = to_name }) (as_entry (u, old)))) (nat_list_eq_equiv.refl name)
          ∙ (λ i. Some (record { unique = sym same i; place = place; name = to_name; size = sized i })) in
          let put : DiffersIn place (unique_of to_name) (Some (as_entry (unique_of to_name, new))) f f' =
          subst (λ (v : List ℕ). DiffersIn place v (Some (as_entry (unique_of to_name, new))) f f') (sym same)
          (subst (λ (o : Option Entry). DiffersIn place u o f f') after shows) in
          rename-held n fs held folder place name folder place to_name fit f f' at put refl refl same

      -- there is none, or it has another name
      without-name : is_there n folder place name ≡ false → AreHeld (after_change n change_here) (slice_set fs folder f')
      without-name none =
          let lists = set-lists fs (shown_at n.names) (held-lists n fs held) folder place (unique_of name) what f f' at within shows in
          let still : AreHeld n (slice_set fs folder f') =
          held-after n fs held n.names (slice_set fs folder f') (length-set fs folder f') held.messages _ lists
          (but-same folder place (unique_of name) what (shown_at n.names)
          (stays (entry_with (unique_of name) (list_of place f)) refl ∙ found-in n fs held folder f at place (unique_of name))) in
          subst (λ (m : Named). AreHeld m (slice_set fs folder f'))
          (sym (ap (λ b. cond b (new_names n.folders (names_after_change n.names change_here)) n) (unfit-there folder place name folder place to_name none))) still
        where
          stays : (o : Option Entry) → entry_with (unique_of name) (list_of place f) ≡ o → option_map (renamed name to_name) o ≡ o
          stays None is = refl
          stays (Some e) is =
              ap (λ b. Some (cond b (record e { name = to_name }) e)) (sym (there-found n fs held folder f at place name e is) ∙ none)

      pub here-held : AreHeld (after_change n change_here) (slice_set fs folder f')
      here-held = elim (is_there n folder place name) as (λ b. is_there n folder place name ≡ b → AreHeld (after_change n change_here) (slice_set fs folder f')) [
        | true ↦ with-name
        | false ↦ without-name
      ] refl

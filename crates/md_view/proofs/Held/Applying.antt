-- Lists to which a change was made hold the names after it, and how a change that fits is known by the lists.
use Rattle.std.proofs.Common.{ℕ, ◌≡◌, ◌≢◌, ◌≤◌, ◌<◌, ◌^◌, List, [], Option, Some, None, IsSome, IfSome, Bool, true, false, cond, ◌&&◌, not, is_some, length, slice_get, slice_set, refl, sym, ap, subst, ◌∙◌, arith, eqb-true, ltb-true}
use Rattle.std.specs.Prelude.{nat_eq, unwrap_or}
use Rattle.std.specs.List.{list_any}
use Rattle.std.specs.Option.{option_and_then, option_map_or}
use Rattle.std.specs.Cmp.Lexicographic.{pointwise}
use Rattle.std.specs.FinMap as finmap
use Rattle.std.specs.FinMap.{get}
use Rattle.std.proofs.lemmas.Bool.{not-true}
use Rattle.std.proofs.lemmas.List.{length-set}
use Rattle.std.proofs.lemmas.Cmp.{nat_list_cmp_total, nat_eq_equiv}
use Rattle.std.proofs.lemmas.Map.Lookups.{exact_bytes}
use Rattle.std.proofs.lemmas.Slice.Eq.{bytes_eq-Decides}
use Rattle.md_name.specs.Names.{unique_of, is_message_name}
use Rattle.md_dirs.specs.Path.{place_index}
use Rattle.md_dirs.specs.declared.paths.Place.{Place}
use Rattle.lists.proofs.Maps.{by_key, at_put, beside_put, at_drop, beside_drop}
use Rattle.md_used.specs.Paths.{is_tmp}
use Rattle.md_core.specs.History.{Listed, Names, IsThere, size_in, names_after_change}
use Rattle.md_jobs.specs.declared.effect.Change.TheVariants as change
use Rattle.md_listing.specs.declared.entry.Entry.{Entry}
use Rattle.md_listing.specs.Readings.{as_entry, is_at}
use Rattle.md_view.specs.Named.{Named, IsMessage, AreMessages, is_listed, has_name, is_there, is_free, fits, after_change}
use Rattle.md_view.specs.Held.{FolderLists, list_of, listed_in, AreHeld, entry_with, has_unique, DiffersIn, ExistsElsewhere}
use Rattle.md_listing.proofs.Readings.{entry_at}
use Rattle.md_listing.proofs.Rows.{same_place, and-both, and-first, and-second, if-some}
use Rattle.md_view.proofs.Held.Holding.{shown_at, AreLists, held-lists, lists-held, taken, found-in}
use Rattle.md_view.proofs.Held.Changing.{is_spot, but, but-same, set-lists, added, removed, renamed, replaced}

no-some : (o : Option Listed) → is_some o ≡ false → o ≡ None
no-some None is = refl
no-some (Some m) is = cc

pub is-false : (b : Bool) → (b ≡ true → ⊥) → b ≡ false
is-false true not = absurd (not refl)
is-false false not = refl

-- what it says that a change fits
module _ (n : Named) where
  pub listed-facts : (folder : ℕ) (place : Place) → is_listed n folder place ≡ true → (folder < n.folders) × (is_tmp place ≡ false)
  listed-facts folder place is = (ltb-true _ _ (and-first _ _ is), not-true _ (and-second _ _ is))

  pub free-facts : (names : Names) (name : List ℕ) → is_free names name ≡ true → (is_message_name name ≡ true) × (get names (unique_of name) ≡ None)
  free-facts names name is = (and-first _ _ is, no-some _ (not-true _ (and-second _ _ is)))

  pub there-facts : (folder : ℕ) (place : Place) (name : List ℕ) → is_there n folder place name ≡ true → IsThere n.names folder place name
  there-facts folder place name is = by (get n.names (unique_of name)) refl is
    where
      by : (o : Option Listed) → get n.names (unique_of name) ≡ o → option_map_or (has_name folder place name) o false ≡ true
          → IsThere n.names folder place name
      by None at is = cc
      by (Some m) at is =
          let spot = and-first _ _ is in
          let in_folder : m.folder ≡ folder = eqb-true _ _ (and-first _ _ spot) in
          let in_place : m.place ≡ place = same_place m.place place (eqb-true _ _ (and-second _ _ spot)) in
          let named : m.name ≡ name = (bytes_eq-Decides m.name name).0 (and-second _ _ is) in
          record {
            size = m.size;
            at = at ∙ (λ i. Some (record { folder = in_folder i; place = in_place i; name = named i; size = m.size }));
          }

  pub insert-messages : AreMessages n → (u : List ℕ) (m : Listed) → IsMessage n.folders u m
      → AreMessages (record { folders = n.folders; names = finmap.insert n.names u m })
  insert-messages are u m is v x at = by_key nat_list_cmp_total exact_bytes v u
      (λ same.
      let this : Some m ≡ Some x = sym (at_put nat_list_cmp_total exact_bytes n.names u v m same) ∙ at in
      let e : m ≡ x = cc in
      subst (λ (w : List ℕ). IsMessage n.folders w x) (sym same) (subst (IsMessage n.folders u) e is))
      (λ other. are v x (sym (beside_put nat_list_cmp_total exact_bytes n.names u v m other) ∙ at))

  pub remove-messages : AreMessages n → (u : List ℕ) → AreMessages (record { folders = n.folders; names = finmap.remove n.names u })
  remove-messages are u v x at = by_key nat_list_cmp_total exact_bytes v u
      (λ same. let never : None ≡ Some x = sym (at_drop nat_list_cmp_total exact_bytes n.names u v same) ∙ at in cc)
      (λ other. are v x (sym (beside_drop nat_list_cmp_total exact_bytes n.names u v other) ∙ at))

-- names of so many folders
abbrev pub new_names : ℕ → Names → Named
new_names folders names = record { folders = folders; names = names }

module _ (n : Named) (fs : List FolderLists) (held : AreHeld n fs) where
  pub there-shown : (folder : ℕ) (place : Place) (name : List ℕ) (h : IsThere n.names folder place name)
      → shown_at n.names folder place (unique_of name) ≡ Some (as_entry (unique_of name, record { folder = folder; place = place; name = name; size = h.size }))
  there-shown folder place name h =
      let u = unique_of name in
      let m : Listed = record { folder = folder; place = place; name = name; size = h.size } in
      ap (option_and_then (entry_at folder place u)) h.at
      ∙ (λ i. cond (nat_eq_equiv.refl folder i && nat_eq_equiv.refl (place_index place) i) (Some (as_entry (u, m))) None)

  -- a message that is there, by its entry
  pub there-past : (folder : ℕ) (place : Place) (name : List ℕ) → length fs ≤ folder → is_there n folder place name ≡ false
  there-past folder place name past = is-false _ (λ is.
      let h = there-facts n folder place name is in
      let low = (held.messages (unique_of name) _ h.at).folder in
      let count = held.count in
      omega (arith, low, count, past))

  pub there-other : (folder : ℕ) (place : Place) (name : List ℕ) → is_message_name name ≡ false → is_there n folder place name ≡ false
  there-other folder place name other = is-false _ (λ is.
      let h = there-facts n folder place name is in
      let message = (held.messages (unique_of name) _ h.at).name in
      let never : true ≡ false = sym message ∙ other in
      cc)

  -- a name that is there is a message's
  pub there-message : (folder : ℕ) (place : Place) (name : List ℕ) → is_there n folder place name ≡ true → is_message_name name ≡ true
  there-message folder place name is = by (is_message_name name) refl
    where
      by : (b : Bool) → is_message_name name ≡ b → b ≡ true
      by true it = refl
      by false it = let never : false ≡ true = sym (there-other folder place name it) ∙ is in cc

  module _ (folder : ℕ) (f : FolderLists) (at : slice_get fs folder ≡ Some f) (place : Place) (name : List ℕ) where
    pub there-none : entry_with (unique_of name) (list_of place f) ≡ None → is_there n folder place name ≡ false
    there-none none = is-false _ (λ is.
        let h = there-facts n folder place name is in
        let never : None ≡ Some _ = sym none ∙ found-in n fs held folder f at place (unique_of name) ∙ there-shown folder place name h in
        cc)

    pub there-found : (e : Entry) → entry_with (unique_of name) (list_of place f) ≡ Some e → is_there n folder place name ≡ pointwise nat_eq e.name name
    there-found e is = by (get n.names (unique_of name)) refl (sym (found-in n fs held folder f at place (unique_of name)) ∙ is)
      where
        by : (o : Option Listed) → get n.names (unique_of name) ≡ o → shown_at n.names folder place (unique_of name) ≡ Some e
            → is_there n folder place name ≡ pointwise nat_eq e.name name
        by None got is = let never : None ≡ Some e = sym (ap (option_and_then (entry_at folder place (unique_of name))) got) ∙ is in cc
        by (Some m) got is =
            let says = if-some (is_at folder place (unique_of name, m)) (as_entry (unique_of name, m)) e
            (sym (ap (option_and_then (entry_at folder place (unique_of name))) got) ∙ is) in
            ap (λ (o : Option Listed). option_map_or (has_name folder place name) o false) got
            ∙ ap (λ b. b && pointwise nat_eq m.name name) says.0
            ∙ ap (λ (x : Entry). pointwise nat_eq x.name name) says.1

  -- a free name, by the lists
  pub free-known : (name : List ℕ) → is_message_name name ≡ true → (t : Bool) → t ≡ list_any (has_unique (unique_of name)) fs → not t ≡ is_free n.names name
  free-known name message t is =
      ap not (is ∙ taken n fs held (unique_of name)) ∙ ap (λ b. b && not (is_some (get n.names (unique_of name)))) (sym message)

  pub free-same : (old name : List ℕ) → is_message_name name ≡ true → unique_of name ≡ unique_of old
      → true ≡ is_free (finmap.remove n.names (unique_of old)) name
  free-same old name message same =
      (λ i. sym message i && not (is_some (sym (at_drop nat_list_cmp_total exact_bytes n.names (unique_of old) (unique_of name) same) i)))

  pub free-beside : (old name : List ℕ) → is_message_name name ≡ true → unique_of name ≢ unique_of old → (t : Bool)
      → t ≡ list_any (has_unique (unique_of name)) fs
      → not t ≡ is_free (finmap.remove n.names (unique_of old)) name
  free-beside old name message other t is =
      free-known name message t is
      ∙ ap (λ (o : Option Listed). is_message_name name && not (is_some o))
      (sym (beside_drop nat_list_cmp_total exact_bytes n.names (unique_of old) (unique_of name) other))

  -- lists after a change
  pub held-after : (names : Names) (fs' : List FolderLists) → length fs' ≡ length fs → AreMessages (new_names n.folders names)
      → (g : ℕ → Place → List ℕ → Option Entry) → AreLists fs' g
      → ((j : ℕ) (p : Place) (u : List ℕ) → g j p u ≡ shown_at names j p u) → AreHeld (new_names n.folders names) fs'
  held-after names fs' long messages g lists same =
      let few = held.few in
      lists-held (new_names n.folders names) fs' (subst (λ k. k < 2 ^ 32) (sym long) few) (long ∙ held.count) messages
      (record { order = lists.order; at = λ j p u. lists.at j p u ∙ same j p u })

  pub within-listed : (folder : ℕ) (place : Place) → is_listed n folder place ≡ true → folder < length fs
  within-listed folder place is = subst (λ k. folder < k) (sym held.count) (listed-facts n folder place is).0

  module _ (folder : ℕ) (place : Place) (name : List ℕ) (size : ℕ) (fit : fits n (change.Add folder place name size) ≡ true)
      (f f' : FolderLists) (at : slice_get fs folder ≡ Some f) where
    abbrev listed_new : Listed
    listed_new = record { folder = folder; place = place; name = name; size = size }

    pub add-held : DiffersIn place (unique_of name) (Some (as_entry (unique_of name, listed_new))) f f'
        → AreHeld (after_change n (change.Add folder place name size)) (slice_set fs folder f')
    add-held shows =
        let where_to = and-first _ _ fit in
        let free = free-facts n n.names name (and-second _ _ fit) in
        let spot = listed-facts n folder place where_to in
        let after : Names = finmap.insert n.names (unique_of name) listed_new in
        subst (λ (m : Named). AreHeld m (slice_set fs folder f')) (sym (ap (λ b. cond b (new_names n.folders after) n) fit))
        (held-after after (slice_set fs folder f') (length-set fs folder f')
        (insert-messages n held.messages (unique_of name) listed_new (record { folder = spot.0; place = spot.1; name = free.0; unique = refl }))
        (but folder place (unique_of name) (Some (as_entry (unique_of name, listed_new))) (shown_at n.names))
        (set-lists fs (shown_at n.names) (held-lists n fs held) folder place (unique_of name) (Some (as_entry (unique_of name, listed_new))) f f' at
        (within-listed folder place where_to) shows)
        (added n.names (unique_of name) listed_new free.1))

  -- a message is listed in its directory
  message-listed : (u : List ℕ) (m : Listed) → get n.names u ≡ Some m → entry_with u (listed_in fs m.folder m.place) ≡ Some (as_entry (u, m))
  message-listed u m is =
      (held-lists n fs held).at m.folder m.place u ∙ ap (option_and_then (entry_at m.folder m.place u)) is
      ∙ (λ i. cond (nat_eq_equiv.refl m.folder i && nat_eq_equiv.refl (place_index m.place) i) (Some (as_entry (u, m))) None)

  -- no message is listed of a unique name that names have not
  unlisted : (u : List ℕ) → get n.names u ≡ None → (k : ℕ) (p : Place) → IsSome (entry_with u (listed_in fs k p)) → ⊥
  unlisted u none k p some =
      no-entry _ ((held-lists n fs held).at k p u ∙ ap (option_and_then (entry_at k p u)) none) some
    where
      no-entry : (o : Option Entry) → o ≡ None → IsSome o → ⊥
      no-entry None is some = cc
      no-entry (Some e) is some = cc

  -- names have no message of a unique name that is listed neither in a directory nor beside it
  not-listed : (u : List ℕ) (folder : ℕ) (place : Place) → (ExistsElsewhere u folder place fs → ⊥)
      → entry_with u (listed_in fs folder place) ≡ None → get n.names u ≡ None
  not-listed u folder place beside none = by (get n.names u) refl
    where
      by : (o : Option Listed) → get n.names u ≡ o → o ≡ None
      by None is = refl
      by (Some m) is = absurd (beside (
        m.folder,
        m.place,
        (λ in_folder in_place.
            let never : None ≡ Some (as_entry (u, m)) = sym none ∙ (λ i. entry_with u (listed_in fs (sym in_folder i) (sym in_place i))) ∙ message-listed u m is in
            cc),
        subst IsSome (sym (message-listed u m is)) refl,
      ))

  module _ (folder : ℕ) (place : Place) (name : List ℕ) (size : ℕ) where
    not-added : (fits n (change.Add folder place name size) ≡ true → ⊥) → after_change n (change.Add folder place name size) ≡ n
    not-added not =
        ap (λ b. cond b (new_names n.folders (names_after_change n.names (change.Add folder place name size))) n) (is-false _ not)

    -- an addition that does not fit: the name is no message's, the directory is not there, or another has a message of the unique name
    pub add-other : is_message_name name ≡ false → after_change n (change.Add folder place name size) ≡ n
    add-other other = not-added (λ fit.
        let message = (free-facts n n.names name (and-second _ _ fit)).0 in
        let never : true ≡ false = sym message ∙ other in
        cc)

    pub add-beside : ((is_listed n folder place ≡ true) × (ExistsElsewhere (unique_of name) folder place fs → ⊥) → ⊥)
        → after_change n (change.Add folder place name size) ≡ n
    add-beside not = not-added (λ fit. not (
      and-first _ _ fit,
      λ beside. unlisted (unique_of name) (free-facts n n.names name (and-second _ _ fit)).1 beside.0 beside.1 beside.3,
    ))

    -- An entry comes to a directory that may take it, where it has none of the unique name.
    module _ (message : is_message_name name ≡ true) (listed : is_listed n folder place ≡ true)
        (beside : ExistsElsewhere (unique_of name) folder place fs → ⊥) (f f' : FolderLists) (at : slice_get fs folder ≡ Some f) where
      abbrev here : Option Entry
      here = entry_with (unique_of name) (list_of place f)

      abbrev entry : Entry
      entry = as_entry (unique_of name, record { folder = folder; place = place; name = name; size = size })

      pub add-new : DiffersIn place (unique_of name) (Some (unwrap_or here entry)) f f'
          → AreHeld (after_change n (change.Add folder place name size)) (slice_set fs folder f')
      add-new shows = by here refl
        where
          by : (o : Option Entry) → here ≡ o → AreHeld (after_change n (change.Add folder place name size)) (slice_set fs folder f')
          by None none =
              let free = not-listed (unique_of name) folder place beside
              (ap (λ (o : Option FolderLists). entry_with (unique_of name) (option_map_or (list_of place) o [])) at ∙ none) in
              let fit = and-both _ _ listed (and-both _ _ message (ap (λ (o : Option Listed). not (is_some o)) free)) in
              add-held folder place name size fit f f' at
              (subst (λ (o : Option Entry). DiffersIn place (unique_of name) (Some (unwrap_or o entry)) f f') none shows)
          by (Some old) some =
              let known : Some old ≡ shown_at n.names folder place (unique_of name) =
              sym some ∙ found-in n fs held folder f at place (unique_of name) in
              let same = not-added (λ fit.
              let none = (free-facts n n.names name (and-second _ _ fit)).1 in
              let never : Some old ≡ None = known ∙ ap (option_and_then (entry_at folder place (unique_of name))) none in
              cc) in
              subst (λ (m : Named). AreHeld m (slice_set fs folder f')) (sym same)
              (held-after n.names (slice_set fs folder f') (length-set fs folder f') held.messages
              (but folder place (unique_of name) (Some old) (shown_at n.names))
              (set-lists fs (shown_at n.names) (held-lists n fs held) folder place (unique_of name) (Some old) f f' at (within-listed folder place listed)
              (subst (λ (o : Option Entry). DiffersIn place (unique_of name) (Some (unwrap_or o entry)) f f') some shows))
              (but-same folder place (unique_of name) (Some old) (shown_at n.names) known))

  module _ (folder : ℕ) (place : Place) (name : List ℕ) (fit : fits n (change.Remove folder place name) ≡ true)
      (f f' : FolderLists) (at : slice_get fs folder ≡ Some f) where
    pub remove-held : DiffersIn place (unique_of name) None f f' → AreHeld (after_change n (change.Remove folder place name)) (slice_set fs folder f')
    remove-held shows =
        let where_from = and-first _ _ fit in
        let there = there-facts n folder place name (and-second _ _ fit) in
        let after : Names = finmap.remove n.names (unique_of name) in
        subst (λ (m : Named). AreHeld m (slice_set fs folder f')) (sym (ap (λ b. cond b (new_names n.folders after) n) fit))
        (held-after after (slice_set fs folder f') (length-set fs folder f') (remove-messages n held.messages (unique_of name))
        (but folder place (unique_of name) None (shown_at n.names))
        (set-lists fs (shown_at n.names) (held-lists n fs held) folder place (unique_of name) None f f' at (within-listed folder place where_from) shows)
        (removed n.names (unique_of name) (record { folder = folder; place = place; name = name; size = there.size }) there.at))

  module _ (folder : ℕ) (place : Place) (name : List ℕ) (to_folder : ℕ) (to_place : Place) (to_name : List ℕ)
      (fit : fits n (change.Rename folder place name to_folder to_place to_name) ≡ true) where
    rename-there : IsThere n.names folder place name
    rename-there = there-facts n folder place name (and-second _ _ (and-first _ _ fit))

    abbrev pub new_message : Listed
    new_message = record { folder = to_folder; place = to_place; name = to_name; size = size_in n.names (unique_of name) }

    rename-free : (is_message_name to_name ≡ true) × (get (finmap.remove n.names (unique_of name)) (unique_of to_name) ≡ None)
    rename-free = free-facts n (finmap.remove n.names (unique_of name)) to_name (and-second _ _ fit)

    pub rename-from : is_listed n folder place ≡ true
    rename-from = and-first _ _ (and-first _ _ (and-first _ _ fit))

    pub rename-to : is_listed n to_folder to_place ≡ true
    rename-to = and-second _ _ (and-first _ _ (and-first _ _ fit))

    -- the entry of the old name, with its size
    pub rename-found : (e : Entry) × (entry_with (unique_of name) (listed_in fs folder place) ≡ Some e) × (e.size ≡ size_in n.names (unique_of name))
    rename-found =
        let m : Listed = record { folder = folder; place = place; name = name; size = rename-there.size } in (
          as_entry (unique_of name, m),
          (held-lists n fs held).at folder place (unique_of name) ∙ there-shown folder place name rename-there,
          sym (ap (λ (o : Option Listed). option_map_or (λ (x : Listed). x.size) o 0) rename-there.at),
        )

    found-old : (u : List ℕ) (gs : List FolderLists) → gs ≡ fs → u ≡ unique_of name → entry_with u (listed_in gs folder place) ≡ Some rename-found.0
    found-old u gs same is = (λ i. entry_with (is i) (listed_in (same i) folder place)) ∙ rename-found.1

    pub rename-old : (u : List ℕ) (gs : List FolderLists) → gs ≡ fs → u ≡ unique_of name → IsSome (entry_with u (listed_in gs folder place))
    rename-old u gs same is = subst IsSome (sym (found-old u gs same is)) refl

    -- the entry that is put in is that of the new message, if its size is the old one's
    pub rename-put : (u : List ℕ) (gs : List FolderLists) → gs ≡ fs → u ≡ unique_of name → (size : ℕ)
        → IfSome (entry_with u (listed_in gs folder place)) (λ e. size ≡ e.size)
        → (entry : Entry) → entry ≡ record { unique = unique_of to_name; place = to_place; name = to_name; size = size } → (f f' : FolderLists)
        → DiffersIn to_place entry.unique (Some entry) f f' → DiffersIn to_place (unique_of to_name) (Some (as_entry (unique_of to_name, new_message))) f f'
    rename-put u gs same is size sized entry made f f' shows =
        let old : size ≡ rename-found.0.size = subst (λ (o : Option Entry). IfSome o (λ e. size ≡ e.size)) (found-old u gs same is) sized in
        subst (λ (e : Entry). DiffersIn to_place e.unique (Some e) f f')
        (made ∙ (λ i. record { unique = unique_of to_name; place = to_place; name = to_name; size = (old ∙ rename-found.2) i })) shows

    abbrev names_then : Names
    names_then = finmap.insert (finmap.remove n.names (unique_of name)) (unique_of to_name) new_message

    messages-then : AreMessages (new_names n.folders names_then)
    messages-then =
        let spot = listed-facts n to_folder to_place rename-to in
        insert-messages (new_names n.folders (finmap.remove n.names (unique_of name))) (remove-messages n held.messages (unique_of name))
        (unique_of to_name) new_message
        (record { folder = spot.0; place = spot.1; name = rename-free.0; unique = refl })

    module _ (f f' : FolderLists) (at : slice_get fs to_folder ≡ Some f)
        (put : DiffersIn to_place (unique_of to_name) (Some (as_entry (unique_of to_name, new_message))) f f') where
      put-lists : AreLists (slice_set fs to_folder f')
          (but to_folder to_place (unique_of to_name) (Some (as_entry (unique_of to_name, new_message))) (shown_at n.names))
      put-lists = set-lists fs (shown_at n.names) (held-lists n fs held) to_folder to_place (unique_of to_name)
          (Some (as_entry (unique_of to_name, new_message))) f f' at (within-listed to_folder to_place rename-to) put

      -- the new entry took the place of the old one
      pub rename-held : folder ≡ to_folder → place ≡ to_place → unique_of to_name ≡ unique_of name
          → AreHeld (after_change n (change.Rename folder place name to_folder to_place to_name)) (slice_set fs to_folder f')
      rename-held in_folder in_place same =
          subst (λ (m : Named). AreHeld m (slice_set fs to_folder f')) (sym (ap (λ b. cond b (new_names n.folders names_then) n) fit))
          (held-after names_then (slice_set fs to_folder f') (length-set fs to_folder f') messages-then _ put-lists
          (replaced n.names (unique_of name) (record { folder = folder; place = place; name = name; size = rename-there.size }) rename-there.at
          (unique_of to_name) new_message rename-free.1 same in_folder in_place))

      -- or the old one was taken out behind it
      module _ (g g' : FolderLists) (there : slice_get (slice_set fs to_folder f') folder ≡ Some g) (take : DiffersIn place (unique_of name) None g g')
          (differs : folder ≡ to_folder → place ≡ to_place → unique_of to_name ≡ unique_of name → ⊥) where
        meet : (j : ℕ) (p : Place) → unique_of to_name ≡ unique_of name → is_spot folder place j p ≡ true → is_spot to_folder to_place j p ≡ true → ⊥
        meet j p same from to =
            differs (eqb-true folder j (and-first _ _ from) ∙ sym (eqb-true to_folder j (and-first _ _ to)))
            (same_place place p (eqb-true _ _ (and-second _ _ from)) ∙ sym (same_place to_place p (eqb-true _ _ (and-second _ _ to)))) same

        pub rename-moved : AreHeld (after_change n (change.Rename folder place name to_folder to_place to_name)) (slice_set (slice_set fs to_folder f') folder g')
        rename-moved =
            let long = length-set fs to_folder f' in
            let low = within-listed folder place rename-from in
            subst (λ (m : Named). AreHeld m (slice_set (slice_set fs to_folder f') folder g')) (sym (ap (λ b. cond b (new_names n.folders names_then) n) fit))
            (held-after names_then (slice_set (slice_set fs to_folder f') folder g') (length-set (slice_set fs to_folder f') folder g' ∙ long) messages-then _
            (set-lists (slice_set fs to_folder f') _ put-lists folder place (unique_of name) None g g' there (subst (λ k. folder < k) (sym long) low) take)
            (renamed n.names (unique_of name) (record { folder = folder; place = place; name = name; size = rename-there.size }) rename-there.at
            (unique_of to_name) new_message rename-free.1 meet))

-- a name that has no parts is no message's
pub no-parts : {X : Type 0} (b : Bool) (x : X) → None ≡ cond b (Some x) None → b ≡ false
no-parts true x is = cc
no-parts false x is = refl

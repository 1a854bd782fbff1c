-- A change that a legal history allows fits the names.
use Rattle.std.proofs.Common.{ℕ, ◌≡◌, ◌≢◌, ◌<◌, List, Option, None, true, false, cond, not, is_some, refl, sym, ap, subst, ◌∙◌, lt-ltb, length, arith}
use Rattle.std.specs.Option.{option_map_or}
use Rattle.std.specs.FinMap as finmap
use Rattle.std.specs.FinMap.{get}
use Rattle.std.proofs.lemmas.Cmp.{nat_eq_equiv, nat_list_eq_equiv, nat_list_cmp_total}
use Rattle.std.proofs.lemmas.List.{take_all}
use Rattle.std.proofs.lemmas.Map.Lookups.{exact_bytes}
use Rattle.md_name.specs.Letters.{Set}
use Rattle.md_name.specs.Names.{unique_of, is_message_name, flagged}
use Rattle.md_name.proofs.Flagged.{IsUniquePart-unique_of, is_message_name-flagged, unique_of-flagged, colonless-unique_of}
use Rattle.md_dirs.specs.Path.{place_index}
use Rattle.md_dirs.specs.declared.paths.Place.{Place}
use Rattle.md_dirs.specs.declared.paths.Place.TheVariants.{Tmp, New, Cur}
use Rattle.lists.proofs.Maps.{at_drop}
use Rattle.md_used.specs.Paths.{is_tmp}
use Rattle.md_core.specs.History.{Listed, Names, IsThere, IsNowhere, WasNowhere, IsAllowed, names_after, names_after_change}
use Rattle.md_jobs.specs.declared.answer.Answer.{Answer}
use Rattle.md_jobs.specs.declared.answer.Answer.TheVariants as answer
use Rattle.md_jobs.specs.declared.effect.Change.{Change}
use Rattle.md_jobs.specs.declared.effect.Change.TheVariants as change
use Rattle.md_jobs.specs.declared.effect.Effect.{Effect}
use Rattle.md_view.specs.Named.{Named, IsMessage, AreMessages, is_listed, has_name, is_there, is_free, fits, after_change}
use Rattle.md_listing.proofs.Rows.{and-both}

not_tmp : (place : Place) → place ≢ Tmp → is_tmp place ≡ false
not_tmp Tmp is = absurd (is refl)
not_tmp New is = refl
not_tmp Cur is = refl

module _ (n : Named) where
  listed-there : (folder : ℕ) (place : Place) → folder < n.folders → is_tmp place ≡ false → is_listed n folder place ≡ true
  listed-there folder place within is = and-both _ _ (lt-ltb folder n.folders within) (ap not is)

  free-name : (names : Names) (name : List ℕ) → is_message_name name ≡ true → get names (unique_of name) ≡ None → is_free names name ≡ true
  free-name names name message none = and-both _ _ message (ap (λ (o : Option Listed). not (is_some o)) none)

  has-own : (folder : ℕ) (place : Place) (name : List ℕ) (size : ℕ)
      → has_name folder place name (record { folder = folder; place = place; name = name; size = size }) ≡ true
  has-own folder place name size = and-both _ _ (and-both _ _ (nat_eq_equiv.refl folder) (nat_eq_equiv.refl (place_index place))) (nat_list_eq_equiv.refl name)

  there-name : (folder : ℕ) (place : Place) (name : List ℕ) → IsThere n.names folder place name → is_there n folder place name ≡ true
  there-name folder place name there =
      ap (λ (o : Option Listed). option_map_or (has_name folder place name) o false) there.at ∙ has-own folder place name there.size

  module _ (are : AreMessages n) where
    message-there : (folder : ℕ) (place : Place) (name : List ℕ) (there : IsThere n.names folder place name)
        → IsMessage n.folders (unique_of name) (record { folder = folder; place = place; name = name; size = there.size })
    message-there folder place name there = are (unique_of name) _ there.at

    flagged-name : (name : List ℕ) (s : Set) → is_message_name name ≡ true → is_message_name (flagged (unique_of name) s) ≡ true
    flagged-name name s message = is_message_name-flagged (unique_of name) s (IsUniquePart-unique_of name message)

    -- a name under the same unique name is free once the old one is gone
    free-again : (name to_name : List ℕ) → unique_of to_name ≡ unique_of name → is_message_name to_name ≡ true
        → is_free (finmap.remove n.names (unique_of name)) to_name ≡ true
    free-again name to_name same message =
        free-name (finmap.remove n.names (unique_of name)) to_name message
        (at_drop nat_list_cmp_total exact_bytes n.names (unique_of name) (unique_of to_name) same)

    pub rename-fits : (folder : ℕ) (place : Place) (name : List ℕ) (to_folder : ℕ) (to_place : Place) (to_name : List ℕ)
        → to_folder < n.folders → is_tmp to_place ≡ false → unique_of to_name ≡ unique_of name → is_message_name to_name ≡ true
        → IsThere n.names folder place name
        → fits n (change.Rename folder place name to_folder to_place to_name) ≡ true
    rename-fits folder place name to_folder to_place to_name within is same message there =
        let m = message-there folder place name there in
        and-both _ _
        (and-both _ _
        (and-both _ _ (listed-there folder place m.folder m.place) (listed-there to_folder to_place within is))
        (there-name folder place name there))
        (free-again name to_name same message)

    module _ (IsFresh : List ℕ → Type 0) (fresh : (u : List ℕ) → IsFresh u → get n.names u ≡ None) where
      -- an allowed change fits
      pub allowed-fits : (a : Answer) (c : Change) → IsAllowed n.folders n.names IsFresh a c → fits n c ≡ true
      allowed-fits answer.Delivered (change.Add folder place name size) h =
          and-both _ _ (listed-there folder place h.0 (ap is_tmp h.1))
          (free-name n.names name h.2 (ap (get n.names) h.3 ∙ fresh name h.5))
      allowed-fits answer.Copied (change.Add folder place name size) h =
          and-both _ _ (listed-there folder place h.0 (not_tmp place h.1))
          (free-name n.names name h.2 (fresh (unique_of name) h.4))
      allowed-fits (answer.Flags s) (change.Rename folder place name to_folder to_place to_name) h =
          let m = message-there folder place name h.4 in
          rename-fits folder place name to_folder to_place to_name
          (subst (λ (k : ℕ). k < n.folders) (sym h.1) h.0) (ap is_tmp h.2)
          (ap unique_of h.3 ∙ unique_of-flagged (unique_of name) s (colonless-unique_of name))
          (ap is_message_name h.3 ∙ flagged-name name s m.name) h.4
      allowed-fits (answer.Flags s) change.Same h = refl
      allowed-fits answer.Moved (change.Rename folder place name to_folder to_place to_name) h =
          let m = message-there folder place name h.5 in
          rename-fits folder place name to_folder to_place to_name h.1 (ap is_tmp h.3 ∙ m.place)
          (ap unique_of h.4) (ap is_message_name h.4 ∙ m.name) h.5
      allowed-fits answer.Expunged (change.Remove folder place name) h =
          and-both _ _ (listed-there folder place h.0 (ap is_tmp h.1)) (there-name folder place name h.2)
      allowed-fits a c h = absurd h

      -- so it is made
      pub allowed-applied : (a : Answer) (c : Change) → IsAllowed n.folders n.names IsFresh a c
          → after_change n c ≡ record { folders = n.folders; names = names_after_change n.names c }
      allowed-applied a c h = ap (λ b. cond b (record { folders = n.folders; names = names_after_change n.names c }) n) (allowed-fits a c h)

-- a name that was nowhere is nowhere now
pub nowhere : (opening : Names) (history : List Effect) (u : List ℕ) → WasNowhere opening history u → IsNowhere (names_after opening history) u
nowhere opening history u was = subst (λ h. IsNowhere (names_after opening h) u) (take_all (length history) history (omega arith)) (was (length history))

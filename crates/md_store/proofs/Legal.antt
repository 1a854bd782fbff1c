-- The last effect of a legal history is made, and names of messages stay so.
use Rattle.std.proofs.Common.{ℕ, ◌≡◌, ◌++◌, List, [], ◌∷◌, Some, Bool, true, false, cond, sym, subst, ◌∙◌, length, take, slice_get, refl, arith, ◌+◌}
use Rattle.std.proofs.lemmas.List.{take-append-le, take_all, length_push, get_or_push}
use Rattle.std.proofs.lemmas.Option.{slice_get_read}
use Rattle.std.specs.FinMap as finmap
use Rattle.md_dirs.specs.declared.paths.Place.{Place}
use Rattle.md_name.specs.Names.{unique_of}
use Rattle.md_core.specs.History.{Names, IsAllowedAfter, WasNowhere, names_after, names_after_change}
use Rattle.md_jobs.specs.declared.effect.Change.{Change}
use Rattle.md_jobs.specs.declared.effect.Change.TheVariants as change
use Rattle.md_jobs.specs.declared.effect.Effect.{Effect}
use Rattle.md_view.specs.Named.{Named, IsMessage, AreMessages, is_listed, is_free, fits, after_change}
use Rattle.md_view.proofs.Held.Applying.{listed-facts, insert-messages, remove-messages}
use Rattle.md_view.proofs.Held.Fitting.{allowed-applied, nowhere}
use Rattle.md_listing.proofs.Rows.{and-first, and-second}
use Rattle.md_store.specs.Listing.{named_after, IsLegalFrom}

-- a name that may be got is a message's
new-message : (n : Named) (names : Names) (folder : ℕ) (place : Place) (name : List ℕ) (size : ℕ) → is_listed n folder place ≡ true → is_free names name ≡ true
    → IsMessage n.folders (unique_of name) (record { folder = folder; place = place; name = name; size = size })
new-message n names folder place name size listed free = record {
  folder = (listed-facts n folder place listed).0;
  place = (listed-facts n folder place listed).1;
  name = and-first _ _ free;
  unique = refl;
}

changed-messages : (n : Named) (c : Change) → AreMessages n → fits n c ≡ true → AreMessages (record n { names = names_after_change n.names c })
changed-messages n (change.Add folder place name size) are fit =
    insert-messages n are (unique_of name) _ (new-message n n.names folder place name size (and-first _ _ fit) (and-second _ _ fit))
changed-messages n (change.Rename folder place name to_folder to_place to_name) are fit =
    let old = unique_of name in
    let listed = and-second _ _ (and-first _ _ (and-first _ _ fit)) in
    insert-messages (record n { names = finmap.remove n.names old }) (remove-messages n are old) (unique_of to_name) _
    (new-message n (finmap.remove n.names old) to_folder to_place to_name _ listed (and-second _ _ fit))
changed-messages n (change.Remove folder place name) are fit = remove-messages n are (unique_of name)
changed-messages n change.Same are fit = are

pub applied-messages : (n : Named) (c : Change) → AreMessages n → AreMessages (after_change n c)
applied-messages n c are = by (fits n c) refl
  where
    by : (b : Bool) → fits n c ≡ b → AreMessages (cond b (record n { names = names_after_change n.names c }) n)
    by true fit = changed-messages n c are fit
    by false other = are

-- the law of histories
abbrev pub GrowByOne : Type 0
GrowByOne = (opening : Names) (history : List Effect) (next : Effect) → names_after opening (history ++ next ∷ []) ≡ names_after_change (names_after opening history) next.change

module _ (grow : GrowByOne) (opening : Named) (history : List Effect) (e : Effect) (legal : IsLegalFrom opening (history ++ e ∷ []))
    (are : AreMessages (named_after opening history)) where
  before-is : take (length history) (history ++ e ∷ []) ≡ history
  before-is = take-append-le (length history) history (e ∷ []) (omega arith) ∙ take_all (length history) history (omega arith)

  last : slice_get (history ++ e ∷ []) (length history) ≡ Some e
  last =
      slice_get_read (history ++ e ∷ []) (length history + 1) (length history) e (sym (length_push history e)) (omega arith)
      (sym (get_or_push history e e (length history) refl))

  allowed : IsAllowedAfter opening.folders opening.names history e
  allowed = subst (λ h. IsAllowedAfter opening.folders opening.names h e) before-is (legal.each (length history) e last)

  -- the names after one more effect
  pub led-push : named_after opening (history ++ e ∷ []) ≡ after_change (named_after opening history) e.change
  led-push =
      (λ i. record { folders = opening.folders; names = grow opening.names history e i })
      ∙ sym (allowed-applied (named_after opening history) are (WasNowhere opening.names history) (nowhere opening.names history) e.answer e.change allowed)

-- The listing law of the histories that passes hold.
use Rattle.std.proofs.Common.{ℕ, ◌≡◌, ◌≢◌, ◌≤◌, List, Option, Some, None, refl, sym, ap, subst, ◌∙◌, length, arith, true≢false, Result, Ok, Err, IfOk, OnOk}
use Rattle.std.proofs.lemmas.List.{take_all}
use Rattle.std.specs.FinMap.{get}
use mathlib.Core.List.{IsPrefix}
use Rattle.md_dirs.specs.declared.paths.Place.{Place}
use Rattle.md_dirs.specs.declared.paths.Place.TheVariants.{Tmp, New, Cur}
use Rattle.md_core.specs.History.{Listed, Names}
use Rattle.md_core.specs.Laws.{IsNotInTmp, KeepsPlaces}
use Rattle.md_used.specs.Paths.{is_tmp}
use Rattle.md_jobs.specs.declared.effect.Effect.{Effect}
use Rattle.md_listing.specs.declared.entry.Entry.{Entry}
use Rattle.md_listing.specs.Law.{names_after_first}
use Rattle.md_view.specs.Named.{Named, AreMessages}
use Rattle.md_listing.specs.Readings.{reading_of, join_of, IsInOrder}
use Rattle.md_listing.proofs.Keyed.{in-order}
use Rattle.md_listing.proofs.LawHolds.{good-listing, LegalKeepPlaces}
use Rattle.md_listing.proofs.Readings.{reading-sorted}
use Rattle.md_store.specs.declared.error.ListError.{ListError}
use Rattle.md_store.specs.Listing.{IsLegalFrom, read_at, listing, IsGoodFrom, Finishes, Lists, Reading}
use Rattle.md_store.proofs.Beginnings.{no_longer, cut_at_end, begins_later}

-- a reading is in order
pub reading-in_order : (names : Names) (folder : ℕ) (place : Place) → IsInOrder (reading_of names folder place)
reading-in_order names folder place = in-order _ (reading-sorted folder place names)

module _ (opening : Named) (now : List Effect) (keeps : KeepsPlaces opening.names now) (messages : AreMessages opening) where
  never-tmp : (u : List ℕ) (k : ℕ) (x : Listed) → get (names_after_first opening.names now k) u ≡ Some x → x.place ≢ Tmp
  never-tmp u k x is = subst IsNotInTmp is (keeps.never_in_tmp u (first (get opening.names u) refl) k)
    where
      first : (o : Option Listed) → get opening.names u ≡ o → IsNotInTmp (get opening.names u)
      first None none = subst IsNotInTmp (sym none) tt
      first (Some y) some = subst IsNotInTmp (sym some) (λ tmp. true≢false (sym (ap is_tmp tmp) ∙ (messages u y some).place))

  -- a listing from a beginning of the history to its end is good
  pub good-from : (folder : ℕ) (h1 : List Effect) → IsPrefix h1 now → IsGoodFrom folder opening h1 now (listing folder opening h1 now)
  good-from folder h1 begun =
      let order : length h1 ≤ length now = no_longer h1 now begun in
      let all : length now ≤ length now = omega arith in
      subst (IsGoodFrom folder opening h1 now)
      (λ i. listing folder opening (cut_at_end h1 now begun i) (take_all (length now) now all i))
      (good-listing (names_after_first opening.names now) folder (length h1) (length now) order never-tmp
      (λ u x is at. keeps.stays_in_cur (length h1) (length now) order u x is at))

-- what begins all that is held begins with it, where a reading gave anything
pub begins-first : {V : Type 0} (res : Result V ListError) (early held now : List Effect) → IsPrefix early held → OnOk res (IsPrefix held now)
    → OnOk res (IsPrefix early now)
begins-first (Ok v) early held now first second = begins_later early held now first second
begins-first (Err e) early held now first second = tt

-- what a second reading gives
pub finishes : LegalKeepPlaces → {V : Type 0} (items : V → List Entry) (opening : Named) (first : Reading) (now : List Effect)
    → (res : Result V ListError) → IsLegalFrom opening now → OnOk res (AreMessages opening)
    → first.entries ≡ read_at first.folder New opening first.history → OnOk res (IsPrefix first.history now)
    → IfOk res (λ v. items v ≡ join_of first.entries (read_at first.folder Cur opening now)) → IfOk res (λ v. Finishes opening first now (items v))
finishes keep items opening first now (Ok v) legal are new begun is = record {
  new_is = new;
  entries_are = is;
  law =
      subst (IsGoodFrom first.folder opening first.history now) (ap (λ (es : List Entry). join_of es (read_at first.folder Cur opening now)) (sym new) ∙ sym is)
      (good-from opening now (keep opening.folders opening.names now legal) are first.folder first.history begun);
}
finishes keep items opening first now (Err e) legal are new begun is = tt

-- what a listing of two readings gives
pub lists : {V : Type 0} (items : V → List Entry) (opening : Named) (before : List Effect) (first : Reading) (folder : ℕ) (now : List Effect)
    → (res : Result V ListError) → first.folder ≡ folder → IsPrefix before first.history → IsLegalFrom opening first.history → IsLegalFrom opening now
    → OnOk res (IsPrefix first.history now) → IfOk res (λ v. Finishes opening first now (items v)) → IfOk res (λ v. Lists folder opening before now (items v))
lists items opening before first folder now (Ok v) same held early legal told is =
    subst (λ f. Lists f opening before now (items v)) same
    (record {
      h1 = first.history;
      held_begins = held;
      h1_begins = told;
      first_legal = early;
      legal = legal;
      entries_are = is.entries_are ∙ ap (λ (es : List Entry). join_of es (read_at first.folder Cur opening now)) is.new_is;
      law = is.law;
    })
lists items opening before first folder now (Err e) same held early legal told is = tt

-- The listing law holds of every legal history, and so of every run.
use Rattle.std.proofs.Common.{ℕ, ◌≡◌, ◌≢◌, ◌≤◌, List, Option, Some, None, Bool, true, false, cond, ◌&&◌, ◌==◌, IsSome, refl, sym, ap, subst, ◌∙◌, arith}
use Rattle.std.specs.Option.{option_and_then, option_or}
use Rattle.std.specs.FinMap.{get}
use Rattle.md_dirs.specs.Path.{place_index}
use Rattle.md_dirs.specs.declared.paths.Place.{Place}
use Rattle.md_dirs.specs.declared.paths.Place.TheVariants.{Tmp, New, Cur}
use Rattle.md_dirs.specs.State.{State}
use Rattle.md_jobs.specs.declared.effect.Effect.{Effect}
use Rattle.md_core.specs.Mailbox.{mailbox_of}
use Rattle.md_core.specs.History.{Listed, Names, names_of, IsLegal}
use Rattle.md_core.specs.Runs.{Run}
use Rattle.md_core.specs.Interleaving.{Interleaves}
use Rattle.md_core.specs.Trace.{Trace, state}
use Rattle.md_core.specs.Tracing.{trace_of}
use Rattle.md_core.specs.Laws.{IsInCur, IsNotInTmp, KeepsPlaces}
use Rattle.md_listing.specs.declared.entry.Entry.{Entry}
use Rattle.md_listing.specs.Readings.{as_entry, reading_of, join_of}
use Rattle.md_listing.specs.Law.{names_at, names_after_first, shown_in, entry_in, entry_among, listing_of, IsOfSomeMoment, IsGoodListing}
use Rattle.md_listing.proofs.Keyed.{lookup, get-by_unique, in-order}
use Rattle.md_listing.proofs.Merged.{join-sorted, merged-join, lookup-merged}
use Rattle.md_listing.proofs.Readings.{entry_at, reading-sorted, lookup-reading}
use Rattle.md_listing.proofs.Moments.{history_of, opening_of, count_at, counts-rise, names-counted}
use Rattle.md_listing.proofs.Paths.{AreOfPaths, not_in_tmp}

module _ (names : ℕ → Names) (folder i j : ℕ) (order : i ≤ j) (u : List ℕ) (no_tmp : (k : ℕ) (x : Listed) → get (names k) u ≡ Some x → x.place ≢ Tmp)
    (stays : (x : Listed) → get (names i) u ≡ Some x → x.place ≡ Cur → IsInCur (get (names j) u)) where
  abbrev new_at : Names → Option Entry
  new_at m = option_and_then (entry_at folder New u) (get m u)

  abbrev cur_at : Names → Option Entry
  cur_at m = option_and_then (entry_at folder Cur u) (get m u)

  listing-shows : entry_among (listing_of names folder i j) u ≡ option_or (cur_at (names j)) (new_at (names i))
  listing-shows =
      let new = reading_of (names i) folder New in
      let cur = reading_of (names j) folder Cur in
      let before = reading-sorted folder New (names i) in
      let sorted = reading-sorted folder Cur (names j) in
      get-by_unique u (join_of new cur)
      ∙ ap (lookup u) (sym (merged-join new cur before sorted))
      ∙ lookup-merged u new cur before sorted
      ∙ (λ k. option_or (lookup-reading folder Cur (names j) u k) (lookup-reading folder New (names i) u k))

  -- what a place says of a message that is in it, and of one that isn't
  at-place : (place : Place) (x : Listed) (p : Place) → x.place ≡ p
      → entry_at folder place u x ≡ cond ((x.folder == folder) && (place_index p == place_index place)) (Some (as_entry (u, x))) None
  at-place place x p is = ap (λ (q : Place). cond ((x.folder == folder) && (place_index q == place_index place)) (Some (as_entry (u, x))) None) is

  and-false : (b : Bool) → (b && false) ≡ false
  and-false true = refl
  and-false false = refl

  and-true : (b : Bool) → (b && true) ≡ b
  and-true true = refl
  and-true false = refl

  at-own : (place : Place) (x : Listed) → x.place ≡ place → (place_index place == place_index place) ≡ true → entry_at folder place u x ≡ shown_in folder u x
  at-own place x is own = at-place place x place is
      ∙ ap (λ b. cond {A = Option Entry} b (Some (as_entry (u, x))) None) (ap (λ b. (x.folder == folder) && b) own ∙ and-true (x.folder == folder))

  at-other : (place p : Place) (x : Listed) → x.place ≡ p → (place_index p == place_index place) ≡ false → entry_at folder place u x ≡ None
  at-other place p x is other = at-place place x p is
      ∙ ap (λ b. cond {A = Option Entry} b (Some (as_entry (u, x))) None) (ap (λ b. (x.folder == folder) && b) other ∙ and-false (x.folder == folder))

  -- how a unique name stands among the names of a moment
  data Stands (m : Names) : Type 0 where
    nowhere : entry_in m folder u ≡ None → new_at m ≡ None → cur_at m ≡ None → Stands m
    in_new : (x : Listed) → get m u ≡ Some x → x.place ≡ New → new_at m ≡ entry_in m folder u → cur_at m ≡ None → Stands m
    in_cur : (x : Listed) → get m u ≡ Some x → x.place ≡ Cur → new_at m ≡ None → cur_at m ≡ entry_in m folder u → Stands m

  stands : (k : ℕ) → Stands (names k)
  stands k = by (get (names k) u) refl
    where
      m : Names
      m = names k

      by : (o : Option Listed) → get (names k) u ≡ o → Stands (names k)
      by None is = nowhere (ap (option_and_then (shown_in folder u)) is) (ap (option_and_then (entry_at folder New u)) is)
          (ap (option_and_then (entry_at folder Cur u)) is)
      by (Some x) is = placed x.place refl
        where
          new_is : new_at (names k) ≡ entry_at folder New u x
          new_is = ap (option_and_then (entry_at folder New u)) is

          cur_is : cur_at (names k) ≡ entry_at folder Cur u x
          cur_is = ap (option_and_then (entry_at folder Cur u)) is

          in_is : entry_in (names k) folder u ≡ shown_in folder u x
          in_is = ap (option_and_then (shown_in folder u)) is

          placed : (p : Place) → x.place ≡ p → Stands (names k)
          placed Tmp at = absurd (no_tmp k x is at)
          placed New at = in_new x is at (new_is ∙ at-own New x at refl ∙ sym in_is) (cur_is ∙ at-other Cur New x at refl)
          placed Cur at = in_cur x is at (new_is ∙ at-other New Cur x at refl) (cur_is ∙ at-own Cur x at refl ∙ sym in_is)

  -- what was in cur at the first moment isn't in new at the second
  never-back : (x y : Listed) → get (names i) u ≡ Some x → x.place ≡ Cur → get (names j) u ≡ Some y → y.place ≡ New → ⊥
  never-back x y was at is new =
      let stays : y.place ≡ Cur = subst IsInCur is (stays x was at) in
      let both : New ≡ Cur = sym new ∙ stays in
      cc

  abbrev Shown : ℕ → Type 0
  Shown k = option_or (cur_at (names j)) (new_at (names i)) ≡ entry_in (names k) folder u

  at_moment : (k : ℕ) → i ≤ k → k ≤ j → Shown k → IsOfSomeMoment names folder i j (listing_of names folder i j) u
  at_moment k from to is = record { k = k; from = from; to = to; is = listing-shows ∙ is }

  at_first : Shown i → IsOfSomeMoment names folder i j (listing_of names folder i j) u
  at_first = at_moment i (omega arith) order

  at_last : Shown j → IsOfSomeMoment names folder i j (listing_of names folder i j) u
  at_last = at_moment j order (omega arith)

  shows-both : (a b : Option Entry) → cur_at (names j) ≡ a → new_at (names i) ≡ b → option_or (cur_at (names j)) (new_at (names i)) ≡ option_or a b
  shows-both a b p q = λ k. option_or (p k) (q k)

  -- the first reading counts, where cur has none at the second
  by_first : cur_at (names j) ≡ None → new_at (names i) ≡ entry_in (names i) folder u → IsOfSomeMoment names folder i j (listing_of names folder i j) u
  by_first none here = at_first (shows-both None (entry_in (names i) folder u) none here)

  pub some_moment : IsOfSomeMoment names folder i j (listing_of names folder i j) u
  some_moment = by (stands i) (stands j)
    where
      of_cur : (o : Option Entry) → entry_in (names j) folder u ≡ o → cur_at (names j) ≡ entry_in (names j) folder u → Stands (names i)
          → IsOfSomeMoment names folder i j (listing_of names folder i j) u
      of_cur (Some e) is here s = at_last (shows-both (Some e) (new_at (names i)) (here ∙ is) refl ∙ sym is)
      of_cur None is here (nowhere gone new cur) = at_first (shows-both None None (here ∙ is) new ∙ sym gone)
      of_cur None is here (in_new x was at new cur) = by_first (here ∙ is) new
      of_cur None is here (in_cur x was at new cur) = at_last (shows-both None None (here ∙ is) new ∙ sym is)

      by : Stands (names i) → Stands (names j) → IsOfSomeMoment names folder i j (listing_of names folder i j) u
      by s (in_cur y is at' new' cur') = of_cur (entry_in (names j) folder u) refl cur' s
      by (nowhere gone new cur) (nowhere gone' new' cur') = at_first (shows-both None None cur' new ∙ sym gone)
      by (nowhere gone new cur) (in_new y is at' new' cur') = at_first (shows-both None None cur' new ∙ sym gone)
      by (in_new x was at new cur) (nowhere gone' new' cur') = by_first cur' new
      by (in_new x was at new cur) (in_new y is at' new' cur') = by_first cur' new
      by (in_cur x was at new cur) (nowhere gone' new' cur') = at_last (shows-both None None cur' new ∙ sym gone')
      by (in_cur x was at new cur) (in_new y is at' new' cur') = absurd (never-back x y was at is at')

  pub at_both : IsSome (entry_in (names i) folder u) → IsSome (entry_in (names j) folder u) → IsSome (entry_among (listing_of names folder i j) u)
  at_both before after = subst IsSome (sym listing-shows) (by (stands i) (stands j))
    where
      some_or : (a b : Option Entry) → IsSome b → IsSome (option_or a b)
      some_or None b some = some
      some_or (Some e) b some = refl

      or_some : (a b : Option Entry) → IsSome a → IsSome (option_or a b)
      or_some None b some = cc
      or_some (Some e) b some = refl

      by : Stands (names i) → Stands (names j) → IsSome (option_or (cur_at (names j)) (new_at (names i)))
      by s (nowhere gone' new' cur') = (let h = subst IsSome gone' after in cc)
      by s (in_cur y is at' new' cur') = or_some _ _ (subst IsSome (sym cur') after)
      by (nowhere gone new cur) (in_new y is at' new' cur') = (let h = subst IsSome gone before in cc)
      by (in_new x was at new cur) (in_new y is at' new' cur') = some_or _ _ (subst IsSome (sym new) before)
      by (in_cur x was at new cur) (in_new y is at' new' cur') = absurd (never-back x y was at is at')

-- where no message is in tmp, and none in cur goes back to new
pub good-listing : (names : ℕ → Names) (folder i j : ℕ) → i ≤ j → ((u : List ℕ) (k : ℕ) (x : Listed) → get (names k) u ≡ Some x → x.place ≢ Tmp)
    → ((u : List ℕ) (x : Listed) → get (names i) u ≡ Some x → x.place ≡ Cur → IsInCur (get (names j) u)) → IsGoodListing names folder i j (listing_of names folder i j)
good-listing names folder i j order no_tmp stays = record {
  some_moment = λ u. some_moment names folder i j order u (no_tmp u) (stays u);
  at_both = λ u. at_both names folder i j order u (no_tmp u) (stays u);
  once =
      in-order _ (join-sorted (reading_of (names i) folder New) (reading_of (names j) folder Cur) (reading-sorted folder New (names i))
      (reading-sorted folder Cur (names j)));
}

pub good-history : (s : State) (history : List Effect) → AreOfPaths s → KeepsPlaces (names_of (mailbox_of s)) history → (folder i j : ℕ) → i ≤ j
    → IsGoodListing (names_after_first (names_of (mailbox_of s)) history) folder i j
    (listing_of (names_after_first (names_of (mailbox_of s)) history) folder i j)
good-history s history of_paths keeps folder i j order = good-listing (names_after_first (names_of (mailbox_of s)) history) folder i j order
    (λ u k x is. subst IsNotInTmp is (keeps.never_in_tmp u (at_first u (get (names_of (mailbox_of s)) u) refl) k))
    (λ u x is at. keeps.stays_in_cur i j order u x is at)
  where
    at_first : (u : List ℕ) (o : Option Listed) → get (names_of (mailbox_of s)) u ≡ o → IsNotInTmp (get (names_of (mailbox_of s)) u)
    at_first u None is = subst IsNotInTmp (sym is) tt
    at_first u (Some x) is = subst IsNotInTmp (sym is) (not_in_tmp s u x (of_paths u x is))

-- the law of legal histories
abbrev pub LegalKeepPlaces : Type 0
LegalKeepPlaces = (folders : ℕ) (opening : Names) (history : List Effect) → IsLegal folders opening history → KeepsPlaces opening history

module _ (of_paths : (s : State) → AreOfPaths s) (keeps : LegalKeepPlaces) where
  pub good-run : (r : Run) → Interleaves (trace_of r) → (folder i j : ℕ) → i ≤ j →
      IsGoodListing (names_at r) folder i j (listing_of (names_at r) folder i j)
  good-run r all folder i j order = good-listing (names_at r) folder i j order
      (λ u k x is. not_in_tmp (state t k) u x (of_paths (state t k) u x is))
      (λ u x is at.
      let counted : (k : ℕ) → get (names_at r k) u ≡ get (names_after_first (opening_of t all) (history_of t all) (count_at t all k)) u =
      λ k. ap (λ (m : Names). get m u) (names-counted t all k) in
      subst IsInCur (sym (counted j))
      ((keeps t.image.folders (opening_of t all) (history_of t all) all.legal).stays_in_cur (count_at t all i) (count_at t all j)
      (counts-rise t all i j order) u x (sym (counted i) ∙ is) at))
    where
      t : Trace
      t = trace_of r

-- Listings of folders: the step that completes one, the moment at which it begins, and the whole readings that are its own.
use Rattle.std.proofs.Common.{ℕ, ◌≡◌, ◌≢◌, ◌⊎◌, inl, inr, ◌||◌, cond, ◌==◌, List, Bool, true, false, refl, sym, ap, subst}
use Rattle.std.specs.Bool.{Decides}
use Rattle.std.specs.Str.{bytes_eq}
use Rattle.md_dirs.specs.Path.{path_of}
use Rattle.md_dirs.specs.declared.paths.Place.{Place}
use Rattle.md_dirs.specs.declared.paths.Place.TheVariants.{Tmp, New, Cur}
use Rattle.md_log.specs.declared.line.Call.{Call}
use Rattle.md_log.specs.declared.line.Call.TheVariants as call
use Rattle.md_log.specs.declared.line.Reply.TheVariants as reply
use Rattle.md_log.specs.declared.line.Step.{Step}
use Rattle.md_law.specs.History.{History, opening, next, at, before, IsBy, Since, Once, IsUpTo}
use Rattle.md_law.specs.Messages.{IsOf, IsThere}
use Rattle.md_law.specs.Readings.{Looker, Reads, IsWholeReading, IsMomentOf, Shows, Read, nothing_read, with_place, with_call, read_of, IsListing}
use Rattle.md_monitor.specs.Listings.{has_read}
use Rattle.md_monitor.proofs.Stepping.{is-call}
use Rattle.md_monitor.proofs.Moments.{HoldsFrom, upto-itself, upto-next, upto-before, upto-trans, upto-either, not-after, since-now, since-found, since-from}
use Rattle.md_monitor.proofs.Parts.{During, ShowsOne, HasShown, moment-since, since-moment, shown-to, shown-from}
use Rattle.md_monitor.proofs.Reading.{IsWithout, IsNameOf, first-of}

-- ---- what a listing has read

-- it has read something
pub read-is : (r : Read) → Decides (has_read r) (r ≢ nothing_read)
read-is r = by r.new r.cur
  where
    by : (new cur : Bool) → Decides (new || cur) (◌≢◌ {A = Read} (record { new = new; cur = cur }) nothing_read)
    by true cur = (λ t none. let no = ap (λ (q : Read). q.new) none in cc, λ other. refl)
    by false true = (λ t none. let no = ap (λ (q : Read). q.cur) none in cc, λ other. refl)
    by false false = (λ t. absurd (cc), λ other. absurd (other refl))

pub none-read : (r : Read) → has_read r ≡ false → r ≡ nothing_read
none-read r = by r.new r.cur
  where
    by : (new cur : Bool) → (new || cur) ≡ false → ◌≡◌ {A = Read} (record { new = new; cur = cur }) nothing_read
    by true cur is = absurd (cc)
    by false true is = absurd (cc)
    by false false is = refl

-- a place with which a listing is complete is none of tmp
completing : (place : Place) (r : Read) → r ≢ nothing_read → with_place place r ≡ nothing_read → place ≢ Tmp
completing Tmp r some none same = some none
completing New r some none same = cc same
completing Cur r some none same = cc same

-- the call reads a directory of the folder to its end, and not tmp
abbrev pub IsEnd : ℕ → Call → Type 0
IsEnd folder c = (place : Place) × (shown : List (List ℕ)) × (c ≡ call.List folder place reply.Ok shown) × (place ≢ Tmp)

-- the end of a reading that completes a listing is such a one
ends-by : (folder : ℕ) (place : Place) (shown : List (List ℕ)) (r : Read) → r ≢ nothing_read
    → with_call folder (call.List folder place reply.Ok shown) r ≡ nothing_read → place ≢ Tmp
ends-by folder place shown r some = by (folder == folder)
  where
    by : (b : Bool) → cond b (with_place place r) r ≡ nothing_read → place ≢ Tmp
    by true ended = completing place r some ended
    by false ended = absurd (some ended)

module _ (actor : List ℕ) (folder : ℕ) where
  -- the listing has read new or cur
  abbrev pub HasRead : History → Type 0
  HasRead m = read_of m actor folder ≢ nothing_read

  -- the directory as the actor reads it
  abbrev pub looker : Place → Looker
  looker place = record { actor = actor; folder = folder; place = place }

  pub opening-reads : (m : _) → HasRead (opening m) → ⊥
  unfolding read_of
  opening-reads m some = some refl

  -- the step that completes a listing is the end of a reading of new or cur
  pub ends-listing : (begun past : History) (x : Step) → IsListing begun (next past x) actor folder
      → IsBy (next past x) actor × IsEnd folder x.call
  unfolding read_of
  ends-listing begun past x listing =
      let place = listing.reads.0 in
      let part = listing.reads.1 in
      let is : x.call ≡ call.List folder place reply.Ok part.0 = (is-call past x _).0 part.1.1 in
      (part.1.0, (place, part.0, is, by (bytes_eq x.actor actor) place part.0 is listing.ends))
    where
      by : (b : Bool) (place : Place) (shown : List (List ℕ)) → x.call ≡ call.List folder place reply.Ok shown
          → cond b (with_call folder x.call (read_of past actor folder)) (read_of past actor folder) ≡ nothing_read → place ≢ Tmp
      by true place shown is none = ends-by folder place shown (read_of past actor folder) listing.more
          (subst (λ c. with_call folder c (read_of past actor folder) ≡ nothing_read) is none)
      by false place shown is none = absurd (listing.more none)

  -- it began at a moment at which it had read nothing, and has read something since
  abbrev pub HasBegun : History → Type 0
  HasBegun h = (begun : History) × (read_of begun actor folder ≡ nothing_read) × Since (λ m. m ≡ begun) HasRead h

  -- a listing that has read something has begun
  pub begins : (h : History) → HasRead h → HasBegun h
  unfolding Since
  begins (opening m) some = absurd (opening-reads m some)
  begins (next past x) some = by (λ more. begins past more) (has_read (read_of past actor folder)) refl
    where
      by : (HasRead past → HasBegun past) → (b : Bool) → has_read (read_of past actor folder) ≡ b → HasBegun (next past x)
      by rest true t =
          let it = rest ((read-is (read_of past actor folder)).0 t) in
          (it.0, it.1, inr (some, it.2))
      by rest false f = (past, none-read (read_of past actor folder) f, inr (some, since-now (λ m. m ≡ past) HasRead past refl))

  -- ---- the readings of a listing

  -- the last step ends a reading of new or cur, of which this holds
  abbrev pub Ends : (Place → History → Type 0) → History → Type 0
  Ends A m = (place : Place) × (shown : List (List ℕ)) × (place ≢ Tmp) × Reads m (looker place) reply.Ok shown × A place m

  -- one did so far that is of the listing
  abbrev pub HasEnded : (Place → History → Type 0) → History → Type 0
  HasEnded A h = Since (λ m. HasRead m × Ends A m) HasRead h

  -- the last step of a history ends a reading, and is one of the listing's
  abbrev pub EndsIn : (Place → History → Type 0) → History → History → Type 0
  EndsIn A begun h = (last : History) × IsUpTo begun (before last) × IsUpTo last h × Ends A last

  module _ (begun past : History) (x : Step) (listing : IsListing begun (next past x) actor folder) where
    abbrev h : History
    h = next past x

    -- it began before its last step, and read on since
    pub begun-past : IsUpTo begun past
    begun-past =
        let it = since-found (λ m. m ≡ begun) HasRead past listing.goes_on in
        subst (λ k. IsUpTo k past) it.2 it.1

    reads-since : HoldsFrom begun past HasRead
    reads-since =
        let it = since-found (λ m. m ≡ begun) HasRead past listing.goes_on in
        subst (λ k. HoldsFrom k past HasRead) it.2 it.3

    -- a step that ends a reading is not before itself
    not-before : (A : Place → History → Type 0) (m : History) → Ends A m → IsUpTo m (before m) → ⊥
    not-before A (opening s) (place, shown, out, reads, holds) up = let none = reads.0.1 in cc
    not-before A (next p y) ends up = not-after p y up

    -- its readings are those that ended so far, and the last step's
    pub ended-to : (A : Place → History → Type 0) → EndsIn A begun h → Ends A h ⊎ HasEnded A past
    unfolding Once
    ended-to A (last, from, inl same, ends) = inl (subst (Ends A) (sym same) ends)
    ended-to A (last, from, inr low, ends) = inr (since-from (λ m. HasRead m × Ends A m) HasRead last past low
        (reads last from (upto-itself last) low ends, ends) (λ j after to. inr (reads j from after to ends)))
      where
        reads : (j : History) → IsUpTo begun (before last) → IsUpTo last j → IsUpTo j past → Ends A last → HasRead j
        reads j start after to ends =
            elim (reads-since j (upto-trans begun last j (upto-trans begun (before last) last start (upto-before last)) after) to) [
              | inl same ↦ absurd (not-before A last ends (upto-trans last begun (before last)
                  (subst (λ k. IsUpTo last k) same after) start))
              | inr some ↦ some
            ]

    pub ended-from : (A : Place → History → Type 0) → Ends A h ⊎ HasEnded A past → EndsIn A begun h
    ended-from A (inl ends) = (h, begun-past, upto-itself h, ends)
    ended-from A (inr since) =
        let it = since-found (λ m. HasRead m × Ends A m) HasRead past since in
        (it.0, by it.0 it.1 it.2.0 it.3, upto-next it.0 past x it.1, it.2.1)
      where
        by : (last : History) → IsUpTo last past → HasRead last → HoldsFrom last past HasRead → IsUpTo begun (before last)
        by last up some each = elim (upto-either last begun past up begun-past) [
          | inl low ↦ absurd (elim (each begun low begun-past) [
            | inl same ↦ some (subst (λ k. read_of k actor folder ≡ nothing_read) same listing.begins)
            | inr more ↦ more listing.begins
          ])
          | inr from ↦ from
        ]

  -- ---- what a whole reading shows of a message

  -- at a moment of a reading the message was not there
  abbrev pub Misses : List ℕ → Place → History → Type 0
  Misses unique place m = During (looker place) (IsWithout (looker place) unique) (before m)

  -- the reading shows it
  abbrev pub Lists : List ℕ → Place → History → Type 0
  Lists unique place m =
      ShowsOne (looker place) (IsNameOf (looker place) unique) m ⊎ HasShown (looker place) (IsNameOf (looker place) unique) (before m)

  module _ (unique : List ℕ) where
    -- a whole reading ends with the last step of a history, and this holds of it
    abbrev Wholly : (History → Place → Type 0) → History → Type 0
    Wholly P last = (first : History) × (place : Place) × (place ≢ Tmp) × IsWholeReading first last (looker place) × P first place

    abbrev pub MissesWholly : History → Type 0
    MissesWholly last = Wholly (λ first place. (m : History) × IsMomentOf m first last × (IsThere (at m) folder unique → ⊥)) last

    abbrev pub ListsWholly : History → Type 0
    ListsWholly last = Wholly (λ first place. (name : List ℕ) × Shows first last (looker place) name
        × IsOf (path_of folder place name) folder unique) last

    -- what is so of the reading that ends is so of a whole reading
    pub misses-to : (last : History) → Ends (Misses unique) last → MissesWholly last
    misses-to (opening s) (place, shown, out, reads, holds) = absurd (let none = reads.0.1 in cc)
    misses-to (next p y) (place, shown, out, reads, holds) =
        let it = first-of p y (looker place) reply.Ok shown reads in
        (it.0, place, out, (it.1, (shown, reads)), since-moment (looker place) it.0 p y it.1 (IsWithout (looker place) unique) holds)

    pub misses-from : (last : History) → MissesWholly last → Ends (Misses unique) last
    misses-from (opening s) (first, place, out, whole, missed) = absurd (let none = whole.1.1.0.1 in cc)
    misses-from (next p y) (first, place, out, whole, (m, moment, missed)) = (
      place,
      whole.1.0,
      out,
      whole.1.1,
      moment-since (looker place) first p y whole.0 (IsWithout (looker place) unique) m moment missed,
    )

    pub lists-to : (last : History) → Ends (Lists unique) last → ListsWholly last
    lists-to (opening s) (place, shown, out, reads, holds) = absurd (let none = reads.0.1 in cc)
    lists-to (next p y) (place, shown, out, reads, holds) =
        let it = first-of p y (looker place) reply.Ok shown reads in
        (it.0, place, out, (it.1, (shown, reads)), shown-from (looker place) it.0 p y it.1 (IsNameOf (looker place) unique) holds)

    pub lists-from : (last : History) → ListsWholly last → Ends (Lists unique) last
    lists-from (opening s) (first, place, out, whole, listed) = absurd (let none = whole.1.1.0.1 in cc)
    lists-from (next p y) (first, place, out, whole, listed) = (
      place,
      whole.1.0,
      out,
      whole.1.1,
      shown-to (looker place) first p y whole.0 (IsNameOf (looker place) unique) listed,
    )

-- What is kept of listings goes on as the monitor's.
use Rattle.std.proofs.Common.{ℕ, ◌≡◌, ◌+◌, ◌≤◌, ◌==◌, ◌&&◌, ◌||◌, ◌++◌, cond, not, List, [], ◌∷◌, Option, Some, None, unwrap_or, Bool, true, false, is_some, refl, sym, ap, subst, ◌∙◌, arith}
use Rattle.std.specs.List.{list_any}
use Rattle.std.specs.Str.{bytes_eq}
use Rattle.std.proofs.lemmas.Bool.{true≢false}
use Rattle.std.proofs.lemmas.Bool.Decides.{Decides-eqb}
use Rattle.std.proofs.lemmas.List.Folds.{list_all-append}
use Rattle.std.proofs.lemmas.Slice.Eq.{bytes_eq-Decides}
use Rattle.indexmap.specs.IndexSet.{contains}
use Rattle.md_dirs.specs.State.{State}
use Rattle.md_dirs.specs.declared.paths.Place.{Place}
use Rattle.md_dirs.specs.declared.paths.Place.TheVariants.{Tmp, New, Cur}
use Rattle.md_log.specs.declared.line.Call.{Call}
use Rattle.md_log.specs.declared.line.Call.TheVariants as call
use Rattle.md_log.specs.declared.line.Reply.TheVariants as reply
use Rattle.md_log.specs.declared.line.Step.{Step}
use Rattle.md_law.specs.History.{Moment, opening}
use Rattle.md_law.specs.Messages.{is_tmp}
use Rattle.md_law.specs.Readings.{Looker, Read, nothing_read, with_place, with_call}
use Rattle.md_monitor.specs.Messages.{is_there}
use Rattle.md_monitor.specs.Readings.{ReadingKept, is_name_of}
use Rattle.md_monitor.specs.Listings as listings
use Rattle.md_monitor.specs.Listings.{ListingKept, has_read, listings_kept, listing_after, completes_by, breaks_unlisted}
use Rattle.md_watch.specs.declared.listings.Listing.{Listing}
use Rattle.md_watch.specs.declared.listings.Listings.{Listings}
use Rattle.md_watch.specs.declared.presences.Presences.{Presences}
use Rattle.md_watch.specs.declared.readings.Reading.{Reading}
use Rattle.md_watch.specs.declared.spells.Spell.{Spell}
use Rattle.md_kept.specs.declared.table.Table.{Table}
use Rattle.md_watch.specs.Listings.{read_in, spans_in, shows_in, AreWithin, always_during, IsListingKept, unbroken, listing_in, HasBegunBy, IsListingIn, AreListings, Joins, joining, Completes, Breaks}
use Rattle.md_watch.specs.Presences.{ArePresences}
use Rattle.md_watch.specs.Spells.{IsTimely, Passes, always_by, spell_at}
use Rattle.md_kept.specs.Tables.{value_at, count_at, is_key}
use Rattle.md_kept.proofs.Keys.{key-is}
use Rattle.md_watch.proofs.Joining.{unbroken-past}
use Rattle.md_watch.proofs.Passing.{PassesAll}
use Rattle.md_watch.proofs.Spelling.{always-stays}
use Rattle.md_watch.proofs.Whole.{IsWhole, is_completing, is_list}

-- a listing is kept just where one has read something
pub read-there : (o : Option Listing) → has_read (read_in o) ≡ is_some o
read-there None = refl
read-there (Some l) = elim l.of_cur as (λ b. (not b || b) ≡ true) [ true ↦ refl | false ↦ refl ]

-- at the beginning nothing is kept
pub listings-begin : (m : Moment) (p : Presences) (w : Listings) → ((folder : ℕ) (actor : List ℕ) → value_at w.all folder actor ≡ None)
    → AreListings 0 m.state p (listings_kept (opening m)) w
unfolding listings_kept
listings-begin m p w none actor folder = record {
  listing = subst (IsListingKept 0 m.state p folder (listings_kept (opening m) actor folder))
      (sym (ap (unbroken (count_at w.breaks 0 actor)) (none folder actor))) (record {
        read = refl;
        was_always = λ unique. refl;
        is_shown = λ unique. refl;
        within = tt;
      });
  begun = subst (HasBegunBy (count_at w.breaks 0 actor)) (sym (none folder actor)) tt;
}

begun-as : (c c' : ℕ) (o o' : Option Listing) → c' ≡ c → o' ≡ o → HasBegunBy c o → HasBegunBy c' o'
begun-as c c' o o' counts same begun = subst (HasBegunBy c') (sym same) (subst (λ k. HasBegunBy k o) (sym counts) begun)

-- ---- what is said of spans stays so

within-more : (n : ℕ) (spans : List (ℕ × ℕ)) → AreWithin n spans → AreWithin (n + 1) spans
within-more n [] within = tt
within-more n (t ∷ spans) within = (within.0, (let by = within.1 in omega arith), within-more n spans within.2)

within-push : (n : ℕ) (t : ℕ × ℕ) (spans : List (ℕ × ℕ)) → AreWithin n spans → t.0 ≤ t.1 → t.1 ≤ n → AreWithin n (spans ++ t ∷ [])
within-push n t [] within up by = (up, by, tt)
within-push n t (u ∷ spans) within up by = (within.0, within.1, within-push n t spans within.2 up by)

during-stays : (n : ℕ) (was is : Bool) (o o' : Option Spell) → IsTimely n was o → Passes was is n o o'
    → (spans : List (ℕ × ℕ)) → AreWithin n spans → always_during is o' spans ≡ always_during was o spans
during-stays n was is o o' timely passes [] within = refl
during-stays n was is o o' timely passes (t ∷ spans) within =
    (λ i. always-stays n was is o o' timely passes t.0 t.1 within.0 within.1 i && during-stays n was is o o' timely passes spans within.2 i)

during-push : (is : Bool) (o : Option Spell) (spans : List (ℕ × ℕ)) (t : ℕ × ℕ)
    → always_during is o (spans ++ t ∷ []) ≡ (always_during is o spans && always_by is o t.0 t.1)
during-push is o spans t = list_all-append (λ (u : ℕ × ℕ). always_by is o u.0 u.1) spans (t ∷ [])
    ∙ ap (λ b. always_during is o spans && b) (elim (always_by is o t.0 t.1) as (λ b. (b && true) ≡ b) [ true ↦ refl | false ↦ refl ])

-- ---- a step that completes no reading of the listing

-- by whether something was read, and what was so of that
idle-always : (read was : Bool) → (read && (true && (not read || (read && was)))) ≡ (read && was)
idle-always true was = refl
idle-always false was = refl

shown-read : (o : Option Listing) (unique : List ℕ) → shows_in o unique ≡ (is_some o && shows_in o unique)
shown-read None unique = refl
shown-read (Some l) unique = refl

module _ (x : Step) (readings : Looker → ReadingKept) (actor : List ℕ) (folder : ℕ) where
  -- it is none of the listing's
  pub record IsApart : Type 0 where
    pub read : (r : Read) → listings.read_after x readings actor folder r ≡ r
    pub misses : (unique : List ℕ) → listings.misses x readings actor folder unique ≡ false
    pub shows : (unique : List ℕ) → listings.shows x readings actor folder unique ≡ false

  -- what the monitor keeps stays, and so does what is kept here
  still : (n : ℕ) (s s' : State) (p p' : Presences) → ArePresences n s p → PassesAll s s' n p p' → IsApart
      → (kept : ListingKept) (o : Option Listing) → IsListingKept n s p folder kept o
      → IsListingKept (n + 1) s' p' folder (listing_after x readings actor folder kept) o
  still n s s' p p' there passes apart kept o is = record {
    read = apart.read kept.read ∙ is.read;
    was_always = λ unique.
        let stays = during-stays n (is_there s folder unique) (is_there s' folder unique) (spell_at p.messages folder unique)
        (spell_at p'.messages folder unique) (there.messages folder unique) (passes.messages folder unique) (spans_in o) is.within in
        (λ i. has_read (apart.read kept.read i)
        && (not (apart.misses unique i) && (not (has_read kept.read) || is.was_always unique i)))
        ∙ (λ i. has-read i && (true && (not (has-read i) || (is_some o && sym stays i))))
        ∙ idle-always (is_some o) (always_during (is_there s' folder unique) (spell_at p'.messages folder unique) (spans_in o));
    is_shown = λ unique.
        (λ i. has_read (apart.read kept.read i) && (apart.shows unique i || is.is_shown unique i))
        ∙ ap (λ b. b && shows_in o unique) has-read ∙ sym (shown-read o unique);
    within = within-more n (spans_in o) is.within;
  }
    where
      has-read : has_read kept.read ≡ is_some o
      has-read = ap has_read is.read ∙ read-there o

-- ---- which steps these are

-- a part of a reading that completes none of new or cur
no-read : (folder : ℕ) (c : Call) (r : Read) → is_list c ≡ true → is_completing c ≡ false → with_call folder c r ≡ r
no-read folder (call.List f Tmp reply.Ok shown) r list none = elim (f == folder) as (λ b. cond b r r ≡ r) [ true ↦ refl | false ↦ refl ]
no-read folder (call.List f place reply.Ok shown) r list none = absurd (cc)
no-read folder (call.List f place q shown) r list none = refl
no-read folder c r list none = absurd (cc)

completes-none : (x : Step) (readings : Looker → ReadingKept) (actor : List ℕ) (folder : ℕ) (c : Call)
    (test : Looker → List (List ℕ) → Bool) → is_completing c ≡ false → listings.completes_by x readings actor folder c test ≡ false
completes-none x readings actor folder (call.List f Tmp reply.Ok shown) test none =
    elim (f == folder) as (λ b. ((b && false) && test (record { actor = actor; folder = folder; place = Tmp }) shown) ≡ false) [
      | true ↦ refl
      | false ↦ refl
    ]
completes-none x readings actor folder (call.List f place reply.Ok shown) test none = absurd (cc)
completes-none x readings actor folder c test none = refl

and-false : (a b : Bool) → b ≡ false → (a && b) ≡ false
and-false true b is = is
and-false false b is = refl

pub apart-none : (x : Step) (readings : Looker → ReadingKept) (actor : List ℕ) (folder : ℕ) → is_list x.call ≡ true
    → is_completing x.call ≡ false → IsApart x readings actor folder
apart-none x readings actor folder list none = record {
  read = λ r. ap (λ q. cond (bytes_eq x.actor actor) q r) (no-read folder x.call r list none)
      ∙ elim (bytes_eq x.actor actor) as (λ b. cond b r r ≡ r) [ true ↦ refl | false ↦ refl ];
  misses = λ unique. and-false (bytes_eq x.actor actor) _ (completes-none x readings actor folder x.call _ none);
  shows = λ unique. and-false (bytes_eq x.actor actor) _ (completes-none x readings actor folder x.call _ none);
}

-- a reading of another folder, or by another actor
other-read : (b c : Bool) (r q : Read) → (c && b) ≡ false → cond b (cond c q r) r ≡ r
other-read true true r q apart = absurd (true≢false apart)
other-read true false r q apart = refl
other-read false c r q apart = refl

other-none : (b c d e : Bool) → (c && b) ≡ false → (b && ((c && d) && e)) ≡ false
other-none true true d e apart = absurd (true≢false apart)
other-none true false d e apart = refl
other-none false c d e apart = refl

apart-other : (readings : Looker → ReadingKept) (x : Step) (f : ℕ) (place : Place) (shown : List (List ℕ))
    → x.call ≡ call.List f place reply.Ok shown → (actor : List ℕ) (folder : ℕ) → is_key (f, x.actor) (folder, actor) ≡ false
    → IsApart x readings actor folder
apart-other readings x f place shown is actor folder apart = record {
  read = λ r. ap (λ c. cond (bytes_eq x.actor actor) (with_call folder c r) r) is
      ∙ other-read (bytes_eq x.actor actor) (f == folder) r (with_place place r) apart;
  misses = λ unique. ap (λ c. bytes_eq x.actor actor && listings.completes_by x readings actor folder c
      (λ d names. not ((readings d).message_was_always unique))) is
      ∙ other-none (bytes_eq x.actor actor) (f == folder) _ _ apart;
  shows = λ unique. ap (λ c. bytes_eq x.actor actor && listings.completes_by x readings actor folder c
      (λ d names. list_any (is_name_of d unique) names || (readings d).message_is_shown unique)) is
      ∙ other-none (bytes_eq x.actor actor) (f == folder) _ _ apart;
}

-- a step of another actor
apart-by : (x : Step) (readings : Looker → ReadingKept) (actor : List ℕ) (folder : ℕ) → bytes_eq x.actor actor ≡ false
    → IsApart x readings actor folder
apart-by x readings actor folder other = record {
  read = λ r. ap (λ b. cond b (with_call folder x.call r) r) other;
  misses = λ unique. ap (λ b. b && listings.completes_by x readings actor folder x.call
      (λ d names. not ((readings d).message_was_always unique))) other;
  shows = λ unique. ap (λ b. b && listings.completes_by x readings actor folder x.call
      (λ d names. list_any (is_name_of d unique) names || (readings d).message_is_shown unique)) other;
}

-- what is kept of listings goes on where a part of a reading completes none of new or cur
pub listings-stay : (n : ℕ) (s s' : State) (p p' : Presences) → ArePresences n s p → PassesAll s s' n p p'
    → (x : Step) (readings : Looker → ReadingKept) (kept : List ℕ → ℕ → ListingKept) (w : Listings) → is_list x.call ≡ true
    → is_completing x.call ≡ false → AreListings n s p kept w
    → AreListings (n + 1) s' p' (λ actor folder. listing_after x readings actor folder (kept actor folder)) w
listings-stay n s s' p p' there passes x readings kept w list none are actor folder = record {
  listing = still x readings actor folder n s s' p p' there passes (apart-none x readings actor folder list none) (kept actor folder)
      (listing_in w folder actor) (are actor folder).listing;
  begun = (are actor folder).begun;
}

-- ---- a call that reads nothing

breaks-read : (folder : ℕ) (c : Call) (r : Read) → is_list c ≡ false → with_call folder c r ≡ nothing_read
breaks-read folder (call.List f place q shown) r none = absurd (cc)
breaks-read folder c r none = refl

-- what is kept of listings goes on with such a call, which breaks off those of its actor
pub listings-break : (n : ℕ) (s s' : State) (p p' : Presences) → ArePresences n s p → PassesAll s s' n p p'
    → (x : Step) (readings : Looker → ReadingKept) (kept : List ℕ → ℕ → ListingKept) (w w' : Listings) → is_list x.call ≡ false
    → Breaks x.actor w w' → AreListings n s p kept w
    → AreListings (n + 1) s' p' (λ actor folder. listing_after x readings actor folder (kept actor folder)) w'
listings-break n s s' p p' there passes x readings kept w w' none breaks are actor folder = by (bytes_eq x.actor actor) refl
  where
    is : IsListingIn n s p (kept actor folder) w folder actor
    is = are actor folder

    after : ListingKept
    after = listing_after x readings actor folder (kept actor folder)

    count : ℕ
    count = count_at w.breaks 0 actor

    -- with a call of the actor's own nothing is read
    nothing : bytes_eq x.actor actor ≡ true → IsListingKept (n + 1) s' p' folder after None
    nothing own = record {
      read = read;
      was_always = λ unique. ap (λ q. has_read q && (not (listings.misses x readings actor folder unique)
          && (not (has_read (kept actor folder).read) || (kept actor folder).was_always unique))) read;
      is_shown = λ unique. ap (λ q. has_read q && (listings.shows x readings actor folder unique
          || (kept actor folder).is_shown unique)) read;
      within = tt;
    }
      where
        read : listings.read_after x readings actor folder (kept actor folder).read ≡ nothing_read
        read = ap (λ b. cond b (with_call folder x.call (kept actor folder).read) (kept actor folder).read) own
            ∙ breaks-read folder x.call (kept actor folder).read none

    value-with : (b : Bool) → bytes_eq x.actor actor ≡ b
        → value_at w'.breaks 0 actor ≡ cond b (Some (count_at w.breaks 0 x.actor + 1)) (value_at w.breaks 0 actor)
    value-with b own = breaks.breaks 0 actor
        ∙ ap (λ a. cond a (Some (count_at w.breaks 0 x.actor + 1)) (value_at w.breaks 0 actor)) own

    counted : bytes_eq x.actor actor ≡ true → count_at w'.breaks 0 actor ≡ count + 1
    counted own = ap (λ (o : Option ℕ). unwrap_or o 0) (value-with true own)
        ∙ ap (λ q. count_at w.breaks 0 q + 1) ((bytes_eq-Decides x.actor actor).0 own)

    same-count : bytes_eq x.actor actor ≡ false → count_at w'.breaks 0 actor ≡ count
    same-count other = ap (λ (o : Option ℕ). unwrap_or o 0) (value-with false other)

    more : (o : Option Listing) → HasBegunBy count o → HasBegunBy (count + 1) o
    more None begun = tt
    more (Some l) begun = let by : l.breaks ≤ count = begun in omega arith

    by : (b : Bool) → bytes_eq x.actor actor ≡ b → IsListingIn (n + 1) s' p' after w' folder actor
    by true own = record {
      listing = subst (IsListingKept (n + 1) s' p' folder after)
          (sym ((λ i. unbroken (counted own i) (value_at (breaks.all i) folder actor))
          ∙ unbroken-past count (value_at w.all folder actor) is.begun)) (nothing own);
      begun = begun-as (count + 1) (count_at w'.breaks 0 actor) (value_at w.all folder actor) (value_at w'.all folder actor)
          (counted own) (ap (λ (t : Table Listing). value_at t folder actor) breaks.all) (more (value_at w.all folder actor) is.begun);
    }
    by false other = record {
      listing = subst (IsListingKept (n + 1) s' p' folder after)
          (sym (λ i. unbroken (same-count other i) (value_at (breaks.all i) folder actor)))
          (still x readings actor folder n s s' p p' there passes (apart-by x readings actor folder other) (kept actor folder)
          (listing_in w folder actor) is.listing);
      begun = begun-as count (count_at w'.breaks 0 actor) (value_at w.all folder actor) (value_at w'.all folder actor)
          (same-count other) (ap (λ (t : Table Listing). value_at t folder actor) breaks.all) is.begun;
    }

-- ---- a reading of the listing

pub eq-self : (n : ℕ) → (n == n) ≡ true
eq-self n = (Decides-eqb n n).1 refl

pub bytes-self : (bs : List ℕ) → bytes_eq bs bs ≡ true
bytes-self bs = (bytes_eq-Decides bs bs).1 refl

not-not : (b : Bool) → not (not b) ≡ b
not-not true = refl
not-not false = refl

-- one more reading of which it is said
joined-always : (now there before : Bool) (read : Bool) → (read ≡ false → before ≡ true)
    → (there && (now && (not read || (read && before)))) ≡ (there && (before && now))
joined-always true there before true first = elim there as (λ b. (b && (true && before)) ≡ (b && (before && true))) [
  | true ↦ elim before as (λ b. b ≡ (b && true)) [ true ↦ refl | false ↦ refl ]
  | false ↦ refl
]
joined-always false there before true first = elim there as (λ b. (b && false) ≡ (b && (before && false))) [
  | true ↦ elim before as (λ b. false ≡ (b && false)) [ true ↦ refl | false ↦ refl ]
  | false ↦ refl
]
joined-always now there before false first = ap (λ b. there && b)
    (elim now as (λ b. (b && true) ≡ b) [ true ↦ refl | false ↦ refl ] ∙ ap (λ b. b && now) (sym (first refl)))

abbrev pub looker : Step → ℕ → Place → Looker
looker x folder place = record { actor = x.actor; folder = folder; place = place }

-- the step completes a reading of the directory
module _ (x : Step) (readings : Looker → ReadingKept) (folder : ℕ) (place : Place) (new : is_tmp place ≡ false) (shown : List (List ℕ))
    (is : x.call ≡ call.List folder place reply.Ok shown) where
  pub read-now : (q : Read) → listings.read_after x readings x.actor folder q ≡ with_place place q
  read-now q = (λ i. cond (bytes-self x.actor i) (with_call folder (is i) q) q) ∙ ap (λ b. cond b (with_place place q) q) (eq-self folder)

  by-now : (test : Looker → List (List ℕ) → Bool)
      → (bytes_eq x.actor x.actor && listings.completes_by x readings x.actor folder x.call test) ≡ test (looker x folder place) shown
  by-now test = (λ i. bytes-self x.actor i && listings.completes_by x readings x.actor folder (is i) test)
      ∙ (λ i. (eq-self folder i && not (new i)) && test (looker x folder place) shown)

  module _ (n : ℕ) (s : State) (p : Presences) (r : Reading)
      (whole : IsWhole n s p (looker x folder place) (readings (looker x folder place)) shown r) where
    pub misses-now : (unique : List ℕ) → not (listings.misses x readings x.actor folder unique)
        ≡ always_by (is_there s folder unique) (spell_at p.messages folder unique) r.begun n
    misses-now unique = ap not (by-now (λ d names. not ((readings d).message_was_always unique)))
        ∙ not-not ((readings (looker x folder place)).message_was_always unique) ∙ whole.was_always unique

    pub shows-now : (unique : List ℕ) → listings.shows x readings x.actor folder unique ≡ contains bytes_eq r.uniques unique
    shows-now unique = by-now (λ d names. list_any (is_name_of d unique) names || (readings d).message_is_shown unique)
        ∙ sym (whole.is_shown unique)

-- a listing goes on with a reading, or is over
module _ (n : ℕ) (s s' : State) (p p' : Presences) (there : ArePresences n s p) (passes : PassesAll s s' n p p')
    (x : Step) (readings : Looker → ReadingKept) (folder : ℕ) (place : Place) (new : is_tmp place ≡ false) (shown : List (List ℕ))
    (is : x.call ≡ call.List folder place reply.Ok shown) (r : Reading)
    (whole : IsWhole n s p (looker x folder place) (readings (looker x folder place)) shown r) where
  abbrev span : ℕ × ℕ
  span = (r.begun, n)

  module _ (kept : ListingKept) (o o' : Option Listing) (before : IsListingKept n s p folder kept o) (joins : Joins place r n o o') where
    read-next : listings.read_after x readings x.actor folder kept.read ≡ read_in o'
    read-next = read-now x readings folder place new shown is kept.read ∙ ap (with_place place) before.read ∙ sym joins.read

    is-on : has_read (listings.read_after x readings x.actor folder kept.read) ≡ is_some o'
    is-on = ap has_read read-next ∙ read-there o'

    was-on : has_read kept.read ≡ is_some o
    was-on = ap has_read before.read ∙ read-there o

    pushed : AreWithin n (spans_in o ++ span ∷ [])
    pushed = within-push n span (spans_in o) before.within whole.begun (omega arith)

    joined : IsListingKept (n + 1) s' p' folder (listing_after x readings x.actor folder kept) o'
    joined = record {
      read = read-next;
      was_always = λ unique.
          let was = is_there s folder unique in
          let o-was = spell_at p.messages folder unique in
          let during = always_during was o-was (spans_in o) in
          let at-now = always_by was o-was r.begun n in
          (λ i. is-on i && (misses-now x readings folder place new shown is n s p r whole unique i
          && (not (was-on i) || before.was_always unique i)))
          ∙ joined-always at-now (is_some o') during (is_some o) (none-before was o-was o)
          ∙ spanned o o' joins.spans (is_there s' folder unique) (spell_at p'.messages folder unique) (during && at-now)
          (during-stays n was (is_there s' folder unique) o-was (spell_at p'.messages folder unique) (there.messages folder unique)
          (passes.messages folder unique) (spans_in o ++ span ∷ []) pushed ∙ during-push was o-was (spans_in o) span);
      is_shown = λ unique.
          (λ i. is-on i && (shows-now x readings folder place new shown is n s p r whole unique i || before.is_shown unique i))
          ∙ sym (joins.shows unique);
      within = subst (AreWithin (n + 1)) (sym joins.spans)
          (elim (is_some o') as (λ b. AreWithin (n + 1) (cond b (spans_in o ++ span ∷ []) [])) [
            | true ↦ within-more n (spans_in o ++ span ∷ []) pushed
            | false ↦ tt
          ]);
    }
      where
        none-before : (is : Bool) (sp : Option Spell) (o : Option Listing) → is_some o ≡ false → always_during is sp (spans_in o) ≡ true
        none-before is sp None none = refl
        none-before is sp (Some l) none = absurd (cc)

        spanned : (o o' : Option Listing) → spans_in o' ≡ cond (is_some o') (spans_in o ++ span ∷ []) [] → (is : Bool) (sp : Option Spell)
            (so : Bool) → always_during is sp (spans_in o ++ span ∷ []) ≡ so
            → (is_some o' && so) ≡ (is_some o' && always_during is sp (spans_in o'))
        spanned o None spans is sp so same = refl
        spanned o (Some l) spans is sp so same = sym (ap (always_during is sp) spans ∙ same)

-- ---- which step completes a reading

-- what holds at a key, and at each other
at-key : (folder : ℕ) (actor : List ℕ) (P : ℕ → List ℕ → Type 0) → P folder actor
    → ((m : ℕ) (q : List ℕ) → is_key (folder, actor) (m, q) ≡ false → P m q) → (m : ℕ) (q : List ℕ) → P m q
at-key folder actor P here others m q = by (is_key (folder, actor) (m, q)) refl
  where
    by : (b : Bool) → is_key (folder, actor) (m, q) ≡ b → P m q
    by true same = let both = (key-is (folder, actor) (m, q)).0 same in
        subst (λ u. P m u) both.1 (subst (λ k. P k actor) both.0 here)
    by false apart = others m q apart

-- What is kept of listings goes on where a step completes a reading of a directory.
pub listings-complete : (n : ℕ) (s s' : State) (p p' : Presences) → ArePresences n s p → PassesAll s s' n p p'
    → (x : Step) (readings : Looker → ReadingKept) (kept : List ℕ → ℕ → ListingKept) (w w' : Listings)
    (folder : ℕ) (place : Place) (shown : List (List ℕ)) (r : Reading) → x.call ≡ call.List folder place reply.Ok shown
    → IsWhole n s p (looker x folder place) (readings (looker x folder place)) shown r
    → Completes x.actor folder place r n w w' → AreListings n s p kept w
    → AreListings (n + 1) s' p' (λ actor f. listing_after x readings actor f (kept actor f)) w'
listings-complete n s s' p p' there passes x readings kept w w' folder place shown r is whole done are actor f = by place is whole done.here
  where
    after : ℕ → List ℕ → ListingKept
    after m q = listing_after x readings q m (kept q m)

    After : ℕ → List ℕ → Type 0
    After m q = IsListingIn (n + 1) s' p' (after m q) w' m q

    counts : (q : List ℕ) → count_at w'.breaks 0 q ≡ count_at w.breaks 0 q
    counts q = ap (λ (t : Table ℕ). count_at t 0 q) done.breaks

    elsewhere : (m : ℕ) (q : List ℕ) → is_key (folder, x.actor) (m, q) ≡ false → After m q
    elsewhere m q apart = record {
      listing = subst (IsListingKept (n + 1) s' p' m (after m q)) (sym (λ i. unbroken (counts q i) (done.others m q apart i)))
          (still x readings q m n s s' p p' there passes (apart-other readings x folder place shown is q m apart) (kept q m)
          (listing_in w m q) (are q m).listing);
      begun = begun-as (count_at w.breaks 0 q) (count_at w'.breaks 0 q) (value_at w.all m q) (value_at w'.all m q) (counts q)
          (done.others m q apart) (are q m).begun;
    }

    here-with : IsListingKept (n + 1) s' p' folder (after folder x.actor) (listing_in w' folder x.actor) → After folder x.actor
    here-with listing = record {
      listing = listing;
      begun = subst (λ c. HasBegunBy c (value_at w'.all folder x.actor)) (sym (counts x.actor))
          (done.begun (are x.actor folder).begun);
    }

    by : (to : Place) → x.call ≡ call.List folder to reply.Ok shown
        → IsWhole n s p (looker x folder to) (readings (looker x folder to)) shown r
        → joining to r n (listing_in w folder x.actor) (listing_in w' folder x.actor) → After f actor
    by Tmp is whole here = at-key folder x.actor After (here-with
        (subst (IsListingKept (n + 1) s' p' folder (after folder x.actor)) (sym here)
        (listings-stay n s s' p p' there passes x readings kept w (ap is_list is) (ap is_completing is) are x.actor folder).listing))
        elsewhere f actor
    by New is whole here = at-key folder x.actor After (here-with
        (joined n s s' p p' there passes x readings folder New refl shown is r whole (kept x.actor folder) (listing_in w folder x.actor)
        (listing_in w' folder x.actor) (are x.actor folder).listing here)) elsewhere f actor
    by Cur is whole here = at-key folder x.actor After (here-with
        (joined n s s' p p' there passes x readings folder Cur refl shown is r whole (kept x.actor folder) (listing_in w folder x.actor)
        (listing_in w' folder x.actor) (are x.actor folder).listing here)) elsewhere f actor

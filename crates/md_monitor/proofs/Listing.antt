-- What a monitor keeps of listings is what the history tells, and what it finds at a listing is what the law has.
use Rattle.std.proofs.Common.{ℕ, ◌≡◌, ◌≢◌, ◌⊎◌, inl, inr, ◌&&◌, ◌||◌, cond, not, List, Some, nat_lt, Bool, true, false, refl, sym, ap, subst, ◌∙◌}
use Rattle.std.specs.Bool.{Decides}
use Rattle.std.specs.List.{list_any}
use Rattle.std.specs.Str.{bytes_eq}
use Rattle.std.proofs.lemmas.Bool.Decides.{Decides-eqb, Decides-and, Decides-or, Decides-not, Decides-like}
use Rattle.std.proofs.lemmas.Slice.Eq.{bytes_eq-Decides}
use Rattle.md_dirs.specs.State.{file_at}
use Rattle.md_dirs.specs.declared.paths.Path.{Path}
use Rattle.md_dirs.specs.declared.paths.Place.{Place}
use Rattle.md_dirs.specs.declared.paths.Place.TheVariants.{Tmp}
use Rattle.md_name.specs.Names.{unique_of}
use Rattle.md_log.specs.declared.line.Call.{Call}
use Rattle.md_log.specs.declared.line.Call.TheVariants as call
use Rattle.md_log.specs.declared.line.Reply.{Reply}
use Rattle.md_log.specs.declared.line.Reply.TheVariants as reply
use Rattle.md_log.specs.declared.line.Step.{Step}
use Rattle.md_law.specs.History.{Moment, History, opening, next, at, before, Since}
use Rattle.md_law.specs.Messages.{is_message, IsThere}
use Rattle.md_law.specs.Readings.{Looker, Reads, IsPart, nothing_read, with_call, read_of, IsListing, IsMomentOf, IsOfListing}
use Rattle.md_law.specs.Clauses.{WasThere, WasListed, Unlisted}
use Rattle.md_monitor.specs.Files.{count_where}
use Rattle.md_monitor.specs.Messages.{is_there}
use Rattle.md_monitor.specs.Readings.{readings_kept, is_name_of}
use Rattle.md_monitor.specs.Listings as found
use Rattle.md_monitor.specs.Listings.{ListingKept, listings_kept, listing_first, listing_after, has_read, reads_folder, breaks_unlisted}
use Rattle.md_monitor.proofs.Tests.{and-then, tmp-is}
use Rattle.md_monitor.proofs.Seeing.{some-where}
use Rattle.md_monitor.proofs.Stepping.{is-call, is-by}
use Rattle.md_monitor.proofs.Noticing.{is-there}
use Rattle.md_monitor.proofs.Moments.{upto-itself}
use Rattle.md_monitor.proofs.Parts.{before-past}
use Rattle.md_monitor.proofs.Reading.{IsNameOf, reading-kept, name-of, first-of, shows-is}
use Rattle.md_monitor.proofs.Wholes.{HasRead, Ends, HasEnded, Misses, Lists, looker, read-is, none-read, opening-reads, ends-listing, begins, begun-past, ended-to, ended-from, misses-to, misses-from, lists-to, lists-from}

-- ---- what is kept

-- What is kept of a listing is what the history tells.
pub record IsListingKept (h : History) (actor : List ℕ) (folder : ℕ) (k : ListingKept) : Type 0 where
  pub read : k.read ≡ read_of h actor folder
  pub was_always : (unique : List ℕ) → Decides (k.was_always unique)
      (HasRead actor folder h × (HasEnded actor folder (Misses actor folder unique) h → ⊥))
  pub is_shown : (unique : List ℕ) → Decides (k.is_shown unique) (HasEnded actor folder (Lists actor folder unique) h)

module _ (actor : List ℕ) (folder : ℕ) where
  ended-first : (m : Moment) (A : Place → History → Type 0) → Decides false (HasEnded actor folder A (opening m))
  unfolding Since
  ended-first m A = (λ t. absurd (cc), λ ended. absurd (opening-reads actor folder m ended.0))

  listing-first : (m : Moment) → IsListingKept (opening m) actor folder listing_first
  unfolding read_of
  listing-first m = record {
    read = refl;
    was_always = λ unique. (λ t. absurd (cc), λ always. absurd (opening-reads actor folder m always.0));
    is_shown = λ unique. ended-first m (Lists actor folder unique);
  }

  -- a listing with a reading has read something
  ended-read : (A : Place → History → Type 0) (m : History) → HasEnded actor folder A m → HasRead actor folder m
  unfolding Since
  ended-read A (opening m) ended = ended.0
  ended-read A (next past x) (inl ended) = ended.0
  ended-read A (next past x) (inr ended) = ended.0

  module _ (past : History) (x : Step) where
    abbrev h : History
    h = next past x

    abbrev kept : ListingKept
    kept = listings_kept past actor folder

    -- the call is the end of a reading of new or cur, of which the test holds
    ended-by : (c : Call) (test : Looker → List (List ℕ) → Bool) (A : Place → Type 0)
        → ((place : Place) (shown : List (List ℕ)) → c ≡ call.List folder place reply.Ok shown
        → Decides (test (looker actor folder place) shown) (A place))
        → Decides (found.completes_by x (readings_kept past) actor folder c test)
        ((place : Place) × (shown : List (List ℕ)) × (c ≡ call.List folder place reply.Ok shown) × (place ≢ Tmp) × A place)
    ended-by (call.List f place reply.Ok shown) test A each = Decides-like _
        (λ both. (place, shown, ap (λ (g : ℕ). call.List g place reply.Ok shown) both.0.0, both.0.1, both.1))
        (λ (q, names, is, out, holds).
        let same : q ≡ place = sym (cc is) in
        ((cc is, λ tmp. out (same ∙ tmp)), subst A same holds))
        (and-then _ _ (Decides-and _ _ (Decides-eqb f folder) (Decides-not _ (tmp-is place)))
        (λ here. each place shown (ap (λ (g : ℕ). call.List g place reply.Ok shown) here.0)))
    ended-by c test A each = (λ t. absurd (cc), λ (q, names, is, out, holds). absurd (cc is))

    -- so is the step
    ends-is : (test : Looker → List (List ℕ) → Bool) (A : Place → History → Type 0)
        → ((place : Place) (shown : List (List ℕ)) → Reads h (looker actor folder place) reply.Ok shown
        → Decides (test (looker actor folder place) shown) (A place h))
        → Decides (bytes_eq x.actor actor && found.completes_by x (readings_kept past) actor folder x.call test) (Ends actor folder A h)
    ends-is test A each = Decides-like _
        (λ (by, (place, shown, is, out, holds)). (place, shown, out, ((is-by past x actor).1 by, (is-call past x _).1 is), holds))
        (λ (place, shown, out, reads, holds). ((is-by past x actor).0 reads.0, (place, shown, (is-call past x _).0 reads.1, out, holds)))
        (and-then _ _ (bytes_eq-Decides x.actor actor) (λ by. ended-by x.call test (λ place. A place h)
        (λ place shown is. each place shown ((is-by past x actor).1 by, (is-call past x _).1 is))))

    misses-is : (unique : List ℕ)
        → Decides (found.misses x (readings_kept past) actor folder unique) (Ends actor folder (Misses actor folder unique) h)
    misses-is unique = ends-is (λ d shown. not ((readings_kept past d).message_was_always unique)) (Misses actor folder unique)
        (λ place shown reads. (reading-kept past (looker actor folder place)).message_was_always unique)

    lists-is : (unique : List ℕ)
        → Decides (found.shows x (readings_kept past) actor folder unique) (Ends actor folder (Lists actor folder unique) h)
    lists-is unique = ends-is (λ d shown. list_any (is_name_of d unique) shown || (readings_kept past d).message_is_shown unique)
        (Lists actor folder unique) (λ place shown reads.
        let d : Looker = looker actor folder place in
        Decides-or _ _ (shows-is past x d reply.Ok shown reads (is_name_of d unique) (IsNameOf d unique) (name-of d unique))
        ((reading-kept past d).message_is_shown unique))

    -- what the listing has read
    read-next : kept.read ≡ read_of past actor folder
        → found.read_after x (readings_kept past) actor folder kept.read ≡ read_of h actor folder
    unfolding read_of
    read-next same = ap (λ r. cond (bytes_eq x.actor actor) (with_call folder x.call r) r) same

    has-read : kept.read ≡ read_of past actor folder
        → Decides (has_read (found.read_after x (readings_kept past) actor folder kept.read)) (HasRead actor folder h)
    has-read same = subst (λ r. Decides (has_read (found.read_after x (readings_kept past) actor folder kept.read)) (r ≢ nothing_read))
        (read-next same) (read-is (found.read_after x (readings_kept past) actor folder kept.read))

    had-read : kept.read ≡ read_of past actor folder → Decides (has_read kept.read) (HasRead actor folder past)
    had-read same = subst (λ r. Decides (has_read kept.read) (r ≢ nothing_read)) same (read-is kept.read)

    -- a reading of it ended of which this holds
    ended-next : (A : Place → History → Type 0) (reads now old : Bool) → Decides reads (HasRead actor folder h)
        → Decides now (Ends actor folder A h) → Decides old (HasEnded actor folder A past)
        → Decides (reads && (now || old)) (HasEnded actor folder A h)
    unfolding Since
    ended-next A reads now old read step before = Decides-like _
        (λ (on, either). elim either [ inl one ↦ inl (on, one) | inr rest ↦ inr (on, rest) ])
        (λ either. elim either [ inl both ↦ (both.0, inl both.1) | inr both ↦ (both.0, inr both.1) ])
        (Decides-and _ _ read (Decides-or _ _ step before))

    -- none has done so
    always-next : (A : Place → History → Type 0) (reads now read old : Bool) → Decides reads (HasRead actor folder h)
        → Decides now (Ends actor folder A h) → Decides read (HasRead actor folder past)
        → Decides old (HasRead actor folder past × (HasEnded actor folder A past → ⊥))
        → Decides (reads && (not now && (not read || old))) (HasRead actor folder h × (HasEnded actor folder A h → ⊥))
    unfolding Since
    always-next A reads now read old reading step had before = Decides-like _
        (λ (on, (not, never)). (on, λ ended. elim ended [ inl both ↦ not both.1 | inr both ↦ never both.1 ]))
        (λ (on, never). (on, (λ ends. never (inl (on, ends)), λ ended. never (inr (on, ended)))))
        (Decides-and _ _ reading (Decides-and _ _ (Decides-not _ step) (unless read had)))
      where
        unless : (b : Bool) → Decides b (HasRead actor folder past) → Decides (not b || old) (HasEnded actor folder A past → ⊥)
        unless true is = Decides-like _ (λ both. both.1) (λ never. (is.0 refl, never)) before
        unless false is = (λ t ended. let some = is.1 (ended-read A past ended) in cc, λ never. refl)

    listing-next : IsListingKept past actor folder kept
        → IsListingKept h actor folder (listing_after x (readings_kept past) actor folder kept)
    listing-next was = record {
      read = read-next was.read;
      was_always = λ unique. always-next (Misses actor folder unique) _ _ _ _ (has-read was.read) (misses-is unique) (had-read was.read)
          (was.was_always unique);
      is_shown = λ unique. ended-next (Lists actor folder unique) _ _ _ (has-read was.read) (lists-is unique) (was.is_shown unique);
    }

pub listing-kept : (h : History) (actor : List ℕ) (folder : ℕ) → IsListingKept h actor folder (listings_kept h actor folder)
unfolding listings_kept
listing-kept (opening m) actor folder = listing-first actor folder m
listing-kept (next past x) actor folder = listing-next actor folder past x (listing-kept past actor folder)

-- ---- what is found

module _ (past : History) (x : Step) (actor : List ℕ) (folder : ℕ) where
  abbrev last : History
  last = next past x

  abbrev listing : ListingKept
  listing = listings_kept past actor folder

  -- the step completes the listing
  abbrev IsComplete : Type 0
  IsComplete = HasRead actor folder past × (HasRead actor folder last → ⊥)

  -- at a moment of a reading of the listing the message was not there, or a reading shows it
  abbrev IsMissed : List ℕ → Type 0
  IsMissed unique = Ends actor folder (Misses actor folder unique) last ⊎ HasEnded actor folder (Misses actor folder unique) past

  abbrev IsListed : List ℕ → Type 0
  IsListed unique = Ends actor folder (Lists actor folder unique) last ⊎ HasEnded actor folder (Lists actor folder unique) past

  -- neither is so
  abbrev IsLeftOut : List ℕ → Type 0
  IsLeftOut unique = (HasRead actor folder past × (IsMissed unique → ⊥)) × (IsListed unique → ⊥)

  complete-is : Decides (found.is_complete x (readings_kept past) actor folder listing) IsComplete
  complete-is =
      let same = (listing-kept past actor folder).read in
      Decides-and _ _ (had-read actor folder past x same) (Decides-not _ (has-read actor folder past x same))

  left_out-is : (unique : List ℕ) → Decides (found.is_left_out x (readings_kept past) actor folder listing unique) (IsLeftOut unique)
  left_out-is unique = Decides-and _ _ (Decides-like _
      (λ (not, (on, never)). (on, λ either. elim either [ inl ends ↦ not ends | inr ended ↦ never ended ]))
      (λ (on, never). (λ ends. never (inl ends), (on, λ ended. never (inr ended))))
      (Decides-and _ _ (Decides-not _ (misses-is actor folder past x unique)) ((listing-kept past actor folder).was_always unique)))
      (Decides-not _ (Decides-or _ _ (lists-is actor folder past x unique) ((listing-kept past actor folder).is_shown unique)))

  -- it was there at each moment, and no reading shows it
  abbrev IsLacking : History → List ℕ → Type 0
  IsLacking begun unique = WasThere begun last actor folder unique × (WasListed begun last actor folder unique → ⊥)

  module _ (begun : History) (is : IsListing begun last actor folder) (unique : List ℕ) where
    -- what is left out is what is lacking
    to-lacking : IsLeftOut unique → IsLacking begun unique
    to-lacking ((on, here), hidden) = (
      λ first end place of m moment. there first end place of m moment (is_there (at m) folder unique) refl,
      λ (first, end, place, name, of, shows, names). hidden (ended-to actor folder begun past x is (Lists actor folder unique)
          (end, of.0, of.1, lists-from actor folder unique end (first, place, of.2, of.3, (name, shows, names)))),
    )
      where
        there : (first end : History) (place : Place) → IsOfListing begun last first end (looker actor folder place) → (m : History)
            → IsMomentOf m first end → (b : Bool) → is_there (at m) folder unique ≡ b → IsThere (at m) folder unique
        there first end place of m moment true t = (is-there m folder unique).0 t
        there first end place of m moment false f = absurd (here (ended-to actor folder begun past x is (Misses actor folder unique) (
          end,
          of.0,
          of.1,
          misses-from actor folder unique end (
            first,
            place,
            of.2,
            of.3,
            (m, moment, λ some. let t = (is-there m folder unique).1 some in cc),
          ),
        )))

    from-lacking : IsLacking begun unique → IsLeftOut unique
    from-lacking (there, unlisted) = (
      (
        is.more,
        λ missed.
            let it = ended-from actor folder begun past x is (Misses actor folder unique) missed in
            let w = misses-to actor folder unique it.0 it.3 in
            w.4.2 (there w.0 it.0 w.1 (it.1, it.2, w.2, w.3) w.4.0 w.4.1),
      ),
      λ listed.
          let it = ended-from actor folder begun past x is (Lists actor folder unique) listed in
          let w = lists-to actor folder unique it.0 it.3 in
          unlisted (w.0, it.0, w.1, w.4.0, (it.1, it.2, w.2, w.3), w.4.1, w.4.2),
    )

    -- a message that is lacking is there when the listing is completed
    is-there-now : IsLacking begun unique → IsThere (at past) folder unique
    is-there-now (there, unlisted) =
        let end = ends-listing actor folder begun past x is in
        let reads : Reads last (looker actor folder end.1.0) reply.Ok end.1.1 = (end.0, (is-call past x _).1 end.1.2) in
        let it = first-of past x (looker actor folder end.1.0) reply.Ok end.1.1 reads in
        there it.0 last end.1.0
        (begun-past actor folder begun past x is, upto-itself last, end.1.3, (it.1, (end.1.1, reads)))
        past (before-past (looker actor folder end.1.0) it.0 past x it.1, upto-itself past)

  -- a message of the folder that is left out
  abbrev IsUnlisted : Path → Type 0
  IsUnlisted p = ((is_message p ≡ true) × (p.folder ≡ folder)) × IsLeftOut (unique_of p.name)

  -- a part of a reading that completes the listing ends that reading
  ends-reading : (place : Place) (r : Reply) (shown : List (List ℕ)) → x.call ≡ call.List folder place r shown → IsComplete
      → IsPart last (looker actor folder place) reply.Ok
  unfolding read_of
  ends-reading place r shown is complete = by (bytes_eq x.actor actor) refl r is
    where
      same : (b : Bool) (c : Call) → (bytes_eq x.actor actor) ≡ b → x.call ≡ c
          → read_of last actor folder ≡ cond b (with_call folder c (read_of past actor folder)) (read_of past actor folder)
      same b c is call-is = λ i. cond (is i) (with_call folder (call-is i) (read_of past actor folder)) (read_of past actor folder)

      still : read_of last actor folder ≡ read_of past actor folder → IsPart last (looker actor folder place) reply.Ok
      still same = absurd (complete.1 (λ none. complete.0 (sym same ∙ none)))

      by : (b : Bool) → bytes_eq x.actor actor ≡ b → (q : Reply) → x.call ≡ call.List folder place q shown
          → IsPart last (looker actor folder place) reply.Ok
      by false other q call-is = still (same false x.call other refl)
      by true own reply.Ok call-is = (shown, ((is-by past x actor).1 ((bytes_eq-Decides x.actor actor).0 own), (is-call past x _).1 call-is))
      by true own q call-is = still (same true (call.List folder place q shown) own call-is)

  unlisted-by : (place : Place) (r : Reply) (shown : List (List ℕ)) → x.call ≡ call.List folder place r shown
      → Decides (found.is_complete x (readings_kept past) actor folder listing
      && nat_lt 0 (count_where (λ e. found.is_unlisted x (readings_kept past) actor folder listing e.0) (at past)))
      ((begun : History) × (unique : List ℕ) × IsListing begun last actor folder × IsLacking begun unique)
  unlisted-by place r shown call-is = Decides-like _ to from (Decides-and _ _ complete-is (some-where _ (λ p n. IsUnlisted p)
      (λ e. Decides-and _ _ (Decides-and (is_message e.0) _ (λ t. t, λ t. t) (Decides-eqb e.0.folder folder))
      (left_out-is (unique_of e.0.name))) (at past)))
    where
      nothing : (HasRead actor folder last → ⊥) → (b : Bool) → has_read (read_of last actor folder) ≡ b
          → read_of last actor folder ≡ nothing_read
      nothing none true t = absurd (none ((read-is (read_of last actor folder)).0 t))
      nothing none false f = none-read (read_of last actor folder) f

      to : IsComplete × ((p : Path) × (n : ℕ) × (file_at (at past) p ≡ Some n) × IsUnlisted p)
          → (begun : History) × (unique : List ℕ) × IsListing begun last actor folder × IsLacking begun unique
      to (complete, (p, n, there, lacks)) =
          let it = begins actor folder past complete.0 in
          let is : IsListing it.0 last actor folder = record {
            begins = it.1;
            goes_on = it.2;
            more = complete.0;
            reads = (place, ends-reading place r shown call-is complete);
            ends = nothing complete.1 (has_read (read_of last actor folder)) refl;
          } in
          (it.0, unique_of p.name, is, to-lacking it.0 is (unique_of p.name) lacks.1)

      from : (begun : History) × (unique : List ℕ) × IsListing begun last actor folder × IsLacking begun unique
          → IsComplete × ((p : Path) × (n : ℕ) × (file_at (at past) p ≡ Some n) × IsUnlisted p)
      from (begun, unique, is, lacking) =
          let now = is-there-now begun is unique lacking in (
            (is.more, λ some. some is.ends),
            (
              now.0,
              now.1,
              now.2.0,
              (
                (now.2.1.0, now.2.1.1),
                subst IsLeftOut (sym now.2.1.2) (from-lacking begun is unique lacking),
              ),
            ),
          )

module _ (past : History) (x : Step) where
  -- the call reads a directory of a folder of which the test holds
  folder-is : (c : Call) (test : ℕ → Bool) (P : ℕ → Type 0)
      → ((folder : ℕ) (place : Place) (r : Reply) (shown : List (List ℕ)) → c ≡ call.List folder place r shown
      → Decides (test folder) (P folder))
      → Decides (reads_folder c test)
      ((folder : ℕ) × ((place : Place) × (r : Reply) × (shown : List (List ℕ)) × (c ≡ call.List folder place r shown)) × P folder)
  folder-is (call.List f place r shown) test P each = Decides-like _
      (λ holds. (f, (place, r, shown, refl), holds))
      (λ (folder, (q, e, names, is), holds). subst P (let same : f ≡ folder = cc is in sym same) holds)
      (each f place r shown refl)
  folder-is c test P each = (λ t. absurd (cc), λ (folder, (q, e, names, is), holds). absurd (cc is))

  pub unlisted : Decides (breaks_unlisted (at past) (readings_kept past) (listings_kept past) x) (Unlisted (next past x))
  unlisted = Decides-like _
      (λ (folder, reads, (begun, unique, is, lacking)). (begun, x.actor, folder, unique, is, lacking.0, lacking.1))
      (λ (begun, actor, folder, unique, is, there, hidden).
      let end = ends-listing actor folder begun past x is in
      let same : actor ≡ x.actor = sym ((is-by past x actor).0 end.0) in (
        folder,
        (end.1.0, reply.Ok, end.1.1, end.1.2),
        (
          begun,
          unique,
          subst (λ a. IsListing begun (next past x) a folder) same is,
          subst (λ a. IsLacking past x a folder begun unique) same (there, hidden),
        ),
      ))
      (folder-is x.call _ (λ folder. (begun : History) × (unique : List ℕ) × IsListing begun (next past x) x.actor folder
      × IsLacking past x x.actor folder begun unique) (λ folder place r shown is. unlisted-by past x x.actor folder place r shown is))

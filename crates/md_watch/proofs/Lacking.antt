-- What is found of a listing that is complete is what the monitor finds.
use Rattle.std.proofs.Common.{ℕ, ◌≡◌, ◌==◌, ◌&&◌, ◌||◌, not, nat_lt, List, [], ◌∷◌, Option, Some, None, Bool, true, false, inl, inr, is_some, refl, sym, ap, subst, ◌∙◌}
use Rattle.std.specs.Bool.{Decides}
use Rattle.std.specs.List.{list_any}
use Rattle.std.specs.Str.{bytes_eq}
use Rattle.std.proofs.lemmas.Bool.{and_parts, and_from, or_cases, or_left, or_right, true≢false}
use Rattle.std.proofs.lemmas.Bool.Decides.{Decides-eqb}
use Rattle.std.proofs.lemmas.Slice.Eq.{bytes_eq-Decides}
use Rattle.indexmap.specs.IndexSet.{contains}
use Rattle.md_dirs.specs.Path.{path_of}
use Rattle.md_dirs.specs.State.{State, file_at}
use Rattle.md_dirs.specs.declared.paths.Path.{Path}
use Rattle.md_dirs.specs.declared.paths.Place.{Place}
use Rattle.md_dirs.specs.declared.paths.Place.TheVariants.{Tmp, New, Cur}
use Rattle.md_name.specs.Names.{unique_of, is_message_name}
use Rattle.md_log.specs.declared.line.Call.{Call}
use Rattle.md_log.specs.declared.line.Call.TheVariants as call
use Rattle.md_log.specs.declared.line.Reply.TheVariants as reply
use Rattle.md_log.specs.declared.line.Step.{Step}
use Rattle.md_law.specs.Messages.{is_message, is_tmp}
use Rattle.md_law.specs.Readings.{Looker, with_place}
use Rattle.md_monitor.specs.Files.{count_where}
use Rattle.md_monitor.specs.Messages.{is_of, is_there}
use Rattle.md_monitor.specs.Readings.{ReadingKept}
use Rattle.md_monitor.specs.Listings as listings
use Rattle.md_monitor.specs.Listings.{ListingKept, has_read, listings_kept, listing_after, completes_by, breaks_unlisted}
use Rattle.md_monitor.proofs.Seeing.{some-where}
use Rattle.md_watch.specs.declared.listings.Listing.{Listing}
use Rattle.md_watch.specs.declared.listings.Listings.{Listings}
use Rattle.md_watch.specs.declared.listings.Present.{Present}
use Rattle.md_watch.specs.declared.presences.Presences.{Presences}
use Rattle.md_watch.specs.declared.readings.Reading.{Reading}
use Rattle.md_watch.specs.Listings.{read_in, always_during, IsListingKept, listing_in, AreListings, is_completed_by, is_left_out, is_lacked, is_unlisted}
use Rattle.md_watch.specs.Spells.{always_by, spell_at}
use Rattle.md_kept.proofs.Keys.{same-tests}
use Rattle.md_watch.proofs.Listing.{looker, read-there, apart-none, eq-self, bytes-self, read-now, misses-now, shows-now}
use Rattle.md_watch.proofs.Whole.{IsWhole, is_completing, is_list, AreNames, IsPresent}

-- one of some names
any-is : (test : List ℕ → Bool) (names : List (List ℕ))
    → Decides (list_any test names) ((name : List ℕ) × (list_any (bytes_eq name) names ≡ true) × (test name ≡ true))
any-is test [] = (λ some. absurd (cc), λ h. absurd (true≢false (sym h.1)))
any-is test (x ∷ names) =
    let rest = any-is test names in (
      λ some. elim (or_cases (test x) (list_any test names) some) [
        | inl here ↦ (x, or_left (bytes_eq x x) _ (bytes-self x), here)
        | inr later ↦ let it = rest.0 later in (it.0, or_right (bytes_eq it.0 x) _ it.1, it.2)
      ],
      λ (name, among, holds). elim (or_cases (bytes_eq name x) (list_any (bytes_eq name) names) among) [
        | inl same ↦ or_left (test x) _ (ap test (sym ((bytes_eq-Decides name x).0 same)) ∙ holds)
        | inr later ↦ or_right (test x) _ (rest.1 (name, later, holds))
      ],
    )

some-of : {A : Type 0} (o : Option A) → is_some o ≡ true → (a : A) × (o ≡ Some a)
some-of None some = absurd (true≢false (sym some))
some-of (Some a) some = (a, refl)

-- the two orders in which it is asked whether a message is left out
asked-first : (one before shown showed : Bool)
    → ((one && (true && before)) && not (shown || showed)) ≡ (not (shown || showed) && (one && before))
asked-first true true true showed = refl
asked-first true true false true = refl
asked-first true true false false = refl
asked-first true false true showed = refl
asked-first true false false true = refl
asked-first true false false false = refl
asked-first false before true showed = refl
asked-first false before false true = refl
asked-first false before false false = refl

-- a reading completes a listing
abbrev completed : Place → Option Listing → Bool
completed place None = false
completed place (Some l) = is_completed_by place l

by-place : (place : Place) (o : Option Listing) → is_tmp place ≡ false
    → (is_some o && not (has_read (with_place place (read_in o)))) ≡ completed place o
by-place Tmp o new = absurd (true≢false new)
by-place place None new = refl
by-place New (Some l) new = elim l.of_cur as (λ b. not (has_read (with_place New (record { new = not b; cur = b }))) ≡ b) [
  | true ↦ refl
  | false ↦ refl
]
by-place Cur (Some l) new = elim l.of_cur as (λ b. not (has_read (with_place Cur (record { new = not b; cur = b }))) ≡ not b) [
  | true ↦ refl
  | false ↦ refl
]

-- the step completes a reading of a directory of a folder
module _ (n : ℕ) (s : State) (p : Presences) (x : Step) (readings : Looker → ReadingKept) (listed : List ℕ → ℕ → ListingKept)
    (there : Present) (present : IsPresent s p there) (place : Place) (new : is_tmp place ≡ false) (shown : List (List ℕ))
    (is : x.call ≡ call.List there.folder place reply.Ok shown) (r : Reading)
    (whole : IsWhole n s p (looker x there.folder place) (readings (looker x there.folder place)) shown r) where
  abbrev folder : ℕ
  folder = there.folder

  abbrev kept : ListingKept
  kept = listed x.actor folder

  complete-is : (o : Option Listing) → IsListingKept n s p folder kept o
      → listings.is_complete x readings x.actor folder kept ≡ completed place o
  complete-is o before =
      (λ i. has_read (before.read i) && not (has_read (read-now x readings folder place new shown is (before.read i) i)))
      ∙ ap (λ b. b && not (has_read (with_place place (read_in o)))) (read-there o) ∙ by-place place o new

  module _ (l : Listing) (before : IsListingKept n s p folder kept (Some l)) where
    abbrev test : List ℕ → Bool
    test = is_lacked l r n there

    -- of a message that is there
    left-is : (unique : List ℕ) → is_there s folder unique ≡ true
        → listings.is_left_out x readings x.actor folder kept unique ≡ is_left_out l r n there unique
    left-is unique here =
        (λ i. (misses-now x readings folder place new shown is n s p r whole unique i && before.was_always unique i)
        && not (shows-now x readings folder place new shown is n s p r whole unique i || before.is_shown unique i))
        ∙ asked-first (always_by (is_there s folder unique) (spell_at p.messages folder unique) r.begun n)
        (always_during (is_there s folder unique) (spell_at p.messages folder unique) l.spans.items)
        (contains bytes_eq r.uniques unique) (contains bytes_eq l.uniques unique)
        ∙ (λ i. let o = spell_at (sym present.presences i).messages folder unique in
        not (contains bytes_eq r.uniques unique || contains bytes_eq l.uniques unique)
        && (always_by (here i) o r.begun n && always_during (here i) o l.spans.items))

    there-is : (q : Path) (m : ℕ) → file_at s q ≡ Some m → is_message q ≡ true → q.folder ≡ folder
        → is_there s folder (unique_of q.name) ≡ true
    there-is q m file message same =
        let u = unique_of q.name in
        (some-where (λ e. is_of folder u e.0) (λ p n. is_of folder u p ≡ true) (λ e. (λ t. t, λ t. t)) s).1
        (q, m, file, and_from _ _ (and_from _ _ message ((Decides-eqb q.folder folder).1 same)) (bytes-self u))

    -- the names of one of the directories
    module _ (to : Place) (out : is_tmp to ≡ false) (names : List (List ℕ)) (are : AreNames s folder to names) where
      from-names : list_any test names ≡ true → (q : Path) × (m : ℕ) × (file_at s q ≡ Some m)
          × (listings.is_unlisted x readings x.actor folder kept q ≡ true)
      from-names some =
          let it = (any-is test names).0 some in
          let file = some-of (file_at s (path_of folder to it.0)) (sym (are it.0) ∙ it.1) in
          let parts = and_parts (is_message_name it.0) _ it.2 in
          let message : is_message (path_of folder to it.0) ≡ true = (λ i. not (out i) && is_message_name it.0) ∙ parts.0 in (
            path_of folder to it.0,
            file.0,
            file.1,
            and_from _ _ (and_from _ _ message (eq-self folder))
                (left-is (unique_of it.0) (there-is (path_of folder to it.0) file.0 file.1 message refl) ∙ parts.1),
          )

      to-names : (name : List ℕ) (m : ℕ) → file_at s (path_of folder to name) ≡ Some m
          → listings.is_unlisted x readings x.actor folder kept (path_of folder to name) ≡ true → list_any test names ≡ true
      to-names name m file lacks =
          let parts = and_parts (is_message (path_of folder to name) && folder == folder) _ lacks in
          let message = (and_parts (is_message (path_of folder to name)) (folder == folder) parts.0).0 in
          (any-is test names).1 (
            name,
            are name ∙ ap is_some file,
            and_from _ _ (and_parts (not (is_tmp to)) (is_message_name name) message).1
                (sym (left-is (unique_of name) (there-is (path_of folder to name) m file message refl)) ∙ parts.1),
          )

    to-some : (f : ℕ) (to : Place) (name : List ℕ) (m : ℕ) → f ≡ folder → file_at s (path_of f to name) ≡ Some m
        → listings.is_unlisted x readings x.actor folder kept (path_of f to name) ≡ true
        → (list_any test there.new.now || list_any test there.cur.now) ≡ true
    to-some f Tmp name m same file lacks = absurd (true≢false (sym lacks))
    to-some f New name m same file lacks = or_left _ _ (to-names New refl there.new.now present.new name m
        (subst (λ k. file_at s (path_of k New name) ≡ Some m) same file)
        (subst (λ k. listings.is_unlisted x readings x.actor folder kept (path_of k New name) ≡ true) same lacks))
    to-some f Cur name m same file lacks = or_right _ _ (to-names Cur refl there.cur.now present.cur name m
        (subst (λ k. file_at s (path_of k Cur name) ≡ Some m) same file)
        (subst (λ k. listings.is_unlisted x readings x.actor folder kept (path_of k Cur name) ≡ true) same lacks))

    -- some path is one of a message that is left out
    lacks-is : nat_lt 0 (count_where (λ e. listings.is_unlisted x readings x.actor folder kept e.0) s)
        ≡ (list_any test there.new.now || list_any test there.cur.now)
    lacks-is = same-tests _ _
        (some-where (λ e. listings.is_unlisted x readings x.actor folder kept e.0)
        (λ q m. listings.is_unlisted x readings x.actor folder kept q ≡ true) (λ e. (λ t. t, λ t. t)) s) (
          λ some. elim (or_cases (list_any test there.new.now) (list_any test there.cur.now) some) [
            | inl in_new ↦ from-names New refl there.new.now present.new in_new
            | inr in_cur ↦ from-names Cur refl there.cur.now present.cur in_cur
          ],
          λ (q, m, file, lacks).
              let parts = and_parts (is_message q && q.folder == folder) _ lacks in
              let same = (Decides-eqb q.folder folder).0 (and_parts (is_message q) (q.folder == folder) parts.0).1 in
              to-some q.folder q.place q.name m same file lacks,
        )

  reads : breaks_unlisted s readings listed x ≡ (listings.is_complete x readings x.actor folder kept
      && nat_lt 0 (count_where (λ e. listings.is_unlisted x readings x.actor folder kept e.0) s))
  reads = ap (λ c. listings.reads_folder c (λ f. listings.is_complete x readings x.actor f (listed x.actor f)
      && nat_lt 0 (count_where (λ e. listings.is_unlisted x readings x.actor f (listed x.actor f) e.0) s))) is

  unlisted-by : (o : Option Listing) → IsListingKept n s p folder kept o
      → breaks_unlisted s readings listed x ≡ is_unlisted o place r n there
  unlisted-by None before = reads ∙ ap (λ b. b && nat_lt 0 (count_where (λ e. listings.is_unlisted x readings x.actor folder kept e.0) s))
      (complete-is None before)
  unlisted-by (Some l) before = reads ∙ (λ i. complete-is (Some l) before i && lacks-is l before i)

-- a step that completes no reading of new or cur completes no listing
pub unlisted-none : (s : State) (readings : Looker → ReadingKept) (listed : List ℕ → ℕ → ListingKept) (x : Step)
    → is_completing x.call ≡ false → breaks_unlisted s readings listed x ≡ false
unlisted-none s readings listed x none = by x.call refl
  where
    on-and-off : (b c : Bool) → ((b && not b) && c) ≡ false
    on-and-off true c = refl
    on-and-off false c = refl

    by : (c : Call) → x.call ≡ c → listings.reads_folder c (λ f. listings.is_complete x readings x.actor f (listed x.actor f)
        && nat_lt 0 (count_where (λ e. listings.is_unlisted x readings x.actor f (listed x.actor f) e.0) s)) ≡ false
    by (call.List f place r shown) is =
        let kept = listed x.actor f in
        (λ i. (has_read kept.read && not (has_read ((apart-none x readings x.actor f (ap is_list is) none).read kept.read i)))
        && nat_lt 0 (count_where (λ e. listings.is_unlisted x readings x.actor f kept e.0) s))
        ∙ on-and-off (has_read kept.read) _
    by c is = refl

-- What is found of a step that completes a reading of a directory is what the monitor finds.
pub unlisted : (n : ℕ) (s : State) (p : Presences) (x : Step) (readings : Looker → ReadingKept) (listed : List ℕ → ℕ → ListingKept)
    (w : Listings) (there : Present) (place : Place) (shown : List (List ℕ)) (r : Reading)
    → AreListings n s p listed w → IsPresent s p there → x.call ≡ call.List there.folder place reply.Ok shown
    → IsWhole n s p (looker x there.folder place) (readings (looker x there.folder place)) shown r
    → breaks_unlisted s readings listed x ≡ is_unlisted (listing_in w there.folder x.actor) place r n there
unlisted n s p x readings listed w there place shown r are present is whole = by place is whole
  where
    none : (o : Option Listing) → is_unlisted o Tmp r n there ≡ false
    none None = refl
    none (Some l) = refl

    by : (to : Place) → x.call ≡ call.List there.folder to reply.Ok shown
        → IsWhole n s p (looker x there.folder to) (readings (looker x there.folder to)) shown r
        → breaks_unlisted s readings listed x ≡ is_unlisted (listing_in w there.folder x.actor) to r n there
    by Tmp is whole = unlisted-none s readings listed x (ap is_completing is) ∙ sym (none (listing_in w there.folder x.actor))
    by New is whole = unlisted-by n s p x readings listed there present New refl shown is r whole
        (listing_in w there.folder x.actor) (are x.actor there.folder).listing
    by Cur is whole = unlisted-by n s p x readings listed there present Cur refl shown is r whole
        (listing_in w there.folder x.actor) (are x.actor there.folder).listing

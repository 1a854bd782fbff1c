-- What is kept of listings that are not complete, and how a reading that is complete goes into one.
use Rattle.std.specs.Prelude.{ℕ, ◌≡◌, ◌+◌, ◌≤◌, ◌==◌, ◌&&◌, ◌||◌, ◌++◌, ◌∷◌, [], List, Option, Some, None, Bool, true, false, not, is_some, if◌then◌else◌}
use Rattle.std.specs.List.{list_any, list_all}
use Rattle.std.specs.Str.{bytes_eq}
use Rattle.indexmap.specs.IndexSet.{contains}
use Rattle.md_law.specs.Values.{State, Place, Tmp, New, Cur}
use Rattle.md_name.specs.Names.{unique_of, is_message_name}
use Rattle.md_law.specs.Readings.{Read, nothing_read, with_place}
use Rattle.md_monitor.specs.Messages.{is_there}
use Rattle.md_monitor.specs.Listings.{ListingKept}
use Rattle.md_watch.specs.declared.listings.Listing.{Listing}
use Rattle.md_watch.specs.declared.listings.Listings.{Listings}
use Rattle.md_watch.specs.declared.listings.Present.{Present}
use Rattle.md_watch.specs.declared.presences.Presences.{Presences}
use Rattle.md_watch.specs.declared.readings.Reading.{Reading}
use Rattle.md_watch.specs.declared.spells.Spell.{Spell}
use Rattle.md_watch.specs.Spells.{always_by, spell_at}
use Rattle.md_kept.specs.Tables.{value_at, count_at, is_key, Puts}

-- ---- what is kept of a listing

-- which of new and cur it has read
abbrev pub read_in : Option Listing → Read
read_in None = nothing_read
read_in (Some l) = record { new = not l.of_cur; cur = l.of_cur }

-- from when to when each of its readings went
abbrev pub spans_in : Option Listing → List (ℕ × ℕ)
spans_in None = []
spans_in (Some l) = l.spans.items

-- they showed the message
abbrev pub shows_in : Option Listing → List ℕ → Bool
shows_in None unique = false
shows_in (Some l) unique = contains bytes_eq l.uniques unique

-- each span ends no earlier than it begins, and by a moment
abbrev pub AreWithin : ℕ → List (ℕ × ℕ) → Type 0
AreWithin n [] = Unit {0}
AreWithin n (t ∷ spans) = (t.0 ≤ t.1) × (t.1 ≤ n) × AreWithin n spans

-- it was there at each moment of each span, where it is there now or not
abbrev pub always_during : Bool → Option Spell → List (ℕ × ℕ) → Bool
always_during is o spans = list_all (λ (t : ℕ × ℕ). always_by is o t.0 t.1) spans

-- What is kept is so of an actor's listing of a folder, after so many steps.
pub record IsListingKept (n : ℕ) (s : State) (p : Presences) (folder : ℕ) (kept : ListingKept) (o : Option Listing) : Type 0 where
  pub read : kept.read ≡ read_in o
  pub was_always : (unique : List ℕ) → kept.was_always unique
      ≡ (is_some o && always_during (is_there s folder unique) (spell_at p.messages folder unique) (spans_in o))
  pub is_shown : (unique : List ℕ) → kept.is_shown unique ≡ shows_in o unique
  pub within : AreWithin n (spans_in o)

-- the listing, where its actor has made no more breaks than when it began
abbrev pub unbroken : ℕ → Option Listing → Option Listing
unbroken breaks None = None
unbroken breaks (Some l) = if l.breaks == breaks then Some l else None

-- the actor's listing of the folder that is not broken off
abbrev pub listing_in : Listings → ℕ → List ℕ → Option Listing
listing_in w folder actor = unbroken (count_at w.breaks 0 actor) (value_at w.all folder actor)

-- a listing began after no more breaks than these
abbrev pub HasBegunBy : ℕ → Option Listing → Type 0
HasBegunBy breaks None = Unit {0}
HasBegunBy breaks (Some l) = l.breaks ≤ breaks

-- What is kept is so of the listing of a folder by an actor.
pub record IsListingIn (n : ℕ) (s : State) (p : Presences) (kept : ListingKept) (w : Listings) (folder : ℕ) (actor : List ℕ) : Type 0 where
  pub listing : IsListingKept n s p folder kept (listing_in w folder actor)
  pub begun : HasBegunBy (count_at w.breaks 0 actor) (value_at w.all folder actor)

abbrev pub AreListings : ℕ → State → Presences → (List ℕ → ℕ → ListingKept) → Listings → Type 0
AreListings n s p kept w = (actor : List ℕ) (folder : ℕ) → IsListingIn n s p (kept actor folder) w folder actor

-- ---- how it goes into a listing

abbrev pub place_of : Bool → Place
place_of false = New
place_of true = Cur

-- a reading of the place, which a step of a number completed, is one of the listing's
pub record Joins (place : Place) (r : Reading) (now : ℕ) (old new : Option Listing) : Type 0 where
  pub read : read_in new ≡ with_place place (read_in old)
  pub spans : spans_in new ≡ (if is_some new then spans_in old ++ (r.begun, now) ∷ [] else [])
  pub shows : (unique : List ℕ) → shows_in new unique ≡ (is_some new && (contains bytes_eq r.uniques unique || shows_in old unique))

-- one of tmp is none
abbrev pub joining : Place → Reading → ℕ → Option Listing → Option Listing → Type 0
joining Tmp r now old new = new ≡ old
joining place r now old new = Joins place r now old new

-- The listing of one actor and folder goes on so, and nothing else is changed.
pub record Completes (actor : List ℕ) (folder : ℕ) (place : Place) (r : Reading) (now : ℕ) (old new : Listings) : Type 0 where
  pub here : joining place r now (listing_in old folder actor) (listing_in new folder actor)
  pub begun : HasBegunBy (count_at old.breaks 0 actor) (value_at old.all folder actor)
      → HasBegunBy (count_at old.breaks 0 actor) (value_at new.all folder actor)
  pub breaks : new.breaks ≡ old.breaks
  pub others : (m : ℕ) (q : List ℕ) → is_key (folder, actor) (m, q) ≡ false → value_at new.all m q ≡ value_at old.all m q

-- A call of the actor, which reads nothing, breaks its listings off.
pub record Breaks (actor : List ℕ) (old new : Listings) : Type 0 where
  pub all : new.all ≡ old.all
  pub breaks : Puts 0 actor (Some (count_at old.breaks 0 actor + 1)) old.breaks new.breaks

-- ---- what it breaks

-- a reading of the place completes the listing
abbrev pub is_completed_by : Place → Listing → Bool
is_completed_by Tmp l = false
is_completed_by New l = l.of_cur
is_completed_by Cur l = not l.of_cur

-- the reading shows the message, or one before it does
abbrev pub is_shown : Listing → Reading → List ℕ → Bool
is_shown l r unique = contains bytes_eq r.uniques unique || contains bytes_eq l.uniques unique

-- a listing, and a reading that completes it by the step of a number
module _ (l : Listing) (r : Reading) (now : ℕ) (there : Present) where
  -- the message is there, and was at each moment of each of the readings
  abbrev pub was_always : List ℕ → Bool
  was_always unique =
      let o = spell_at there.presences.now.messages there.folder unique in
      always_by true o r.begun now && always_during true o l.spans.items

  -- and none of them shows it
  abbrev pub is_left_out : List ℕ → Bool
  is_left_out unique = not (is_shown l r unique) && was_always unique

  -- the name is one of a message that is left out
  abbrev pub is_lacked : List ℕ → Bool
  is_lacked name = is_message_name name && is_left_out (unique_of name)

-- the reading completes the listing, which lacks a message
abbrev pub is_unlisted : Option Listing → Place → Reading → ℕ → Present → Bool
is_unlisted None place r now there = false
is_unlisted (Some l) place r now there =
    is_completed_by place l && (list_any (is_lacked l r now there) there.new.now || list_any (is_lacked l r now there) there.cur.now)

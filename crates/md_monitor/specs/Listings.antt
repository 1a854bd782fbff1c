-- What a monitor keeps of listings of folders, what of it changes with a step, and which clause a listing breaks by that.
use Rattle.std.specs.Prelude.{ℕ, List, Bool, false, not, ◌&&◌, ◌||◌, ◌==◌, nat_lt, if◌then◌else◌}
use Rattle.std.specs.List.{list_any}
use Rattle.std.specs.Str.{bytes_eq}
use Rattle.md_law.specs.Values.{State, Path, Call, Step}
use Rattle.md_name.specs.Names.{unique_of}
use Rattle.md_log.specs.declared.line.Call.TheVariants as call
use Rattle.md_log.specs.declared.line.Reply.TheVariants as reply
use Rattle.md_law.specs.History.{History, opening, next}
use Rattle.md_law.specs.Messages.{is_message, is_tmp}
use Rattle.md_law.specs.Readings.{Looker, Read, nothing_read, with_call}
use Rattle.md_monitor.specs.Files.{count_where}
use Rattle.md_monitor.specs.Readings.{ReadingKept, readings_kept, is_name_of}

-- What is kept of an actor's listing of a folder.
pub record ListingKept : Type 0 where
  -- which of new and cur it has read
  pub read : Read
  -- it has read one of them, and at each moment of each of its readings so far the message of a unique name was in the folder
  pub was_always : List ℕ → Bool
  -- a reading of it so far shows the message
  pub is_shown : List ℕ → Bool

-- it has read one of them
abbrev pub has_read : Read → Bool
has_read r = r.new || r.cur

-- nothing is read
abbrev pub listing_first : ListingKept
listing_first = record { read = nothing_read; was_always = λ unique. false; is_shown = λ unique. false }

-- a step, what was kept of readings before it, and an actor that lists a folder
module _ (x : Step) (readings : Looker → ReadingKept) (actor : List ℕ) (folder : ℕ) where
  -- what the listing has read after the step
  abbrev pub read_after : Read → Read
  read_after r = if bytes_eq x.actor actor then with_call folder x.call r else r

  -- a call completes a reading of new or cur, and the test holds of the directory and the names that the call shows
  abbrev pub completes_by : Call → (Looker → List (List ℕ) → Bool) → Bool
  completes_by (call.List f place reply.Ok shown) test =
      (f == folder && not (is_tmp place)) && test (record { actor = actor; folder = folder; place = place }) shown
  completes_by c test = false

  -- the step completes a reading of the listing with a moment at which the message was not there
  abbrev pub misses : List ℕ → Bool
  misses unique = bytes_eq x.actor actor && completes_by x.call (λ d shown. not ((readings d).message_was_always unique))

  -- it completes one that shows the message
  abbrev pub shows : List ℕ → Bool
  shows unique = bytes_eq x.actor actor
      && completes_by x.call (λ d shown. list_any (is_name_of d unique) shown || (readings d).message_is_shown unique)

  module _ (kept : ListingKept) where
    -- what is kept after the step
    abbrev pub listing_after : ListingKept
    listing_after = record {
      read = read_after kept.read;
      was_always = λ unique.
          has_read (read_after kept.read) && (not (misses unique) && (not (has_read kept.read) || kept.was_always unique));
      is_shown = λ unique. has_read (read_after kept.read) && (shows unique || kept.is_shown unique);
    }

    -- the step completes the listing, where it is a part of a reading; else it breaks the listing off
    abbrev pub is_complete : Bool
    is_complete = has_read kept.read && not (has_read (read_after kept.read))

    -- with it the message was there at each moment of each reading of the listing, and none shows it
    abbrev pub is_left_out : List ℕ → Bool
    is_left_out unique = (not (misses unique) && kept.was_always unique) && not (shows unique || kept.is_shown unique)

    -- the path is one of a message of the folder that is left out
    abbrev pub is_unlisted : Path → Bool
    is_unlisted p = (is_message p && p.folder == folder) && is_left_out (unique_of p.name)

unfoldable pub listings_kept : History → List ℕ → ℕ → ListingKept
listings_kept (opening m) actor folder = listing_first
listings_kept (next past x) actor folder = listing_after x (readings_kept past) actor folder (listings_kept past actor folder)

-- ---- what a listing breaks

-- the folder whose directory a call reads, where it is one of which the test holds
abbrev pub reads_folder : Call → (ℕ → Bool) → Bool
reads_folder (call.List folder place r shown) test = test folder
reads_folder c test = false

-- the step completes a listing of the folder that lacks a message which was there all the while
abbrev pub breaks_unlisted : State → (Looker → ReadingKept) → (List ℕ → ℕ → ListingKept) → Step → Bool
breaks_unlisted s readings listings x = reads_folder x.call (λ folder.
    let kept = listings x.actor folder in
    is_complete x readings x.actor folder kept && nat_lt 0 (count_where (λ e. is_unlisted x readings x.actor folder kept e.0) s))

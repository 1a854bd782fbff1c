-- What a monitor keeps of readings of directories, what of it changes with a step, and which clause a reading breaks by that.
use Rattle.std.specs.Prelude.{ℕ, List, Bool, true, false, not, ◌&&◌, ◌||◌, ◌==◌, nat_lt, is_some}
use Rattle.std.specs.List.{list_any}
use Rattle.std.specs.Str.{bytes_eq}
use Rattle.md_dirs.specs.Path.{path_of, place_index}
use Rattle.md_law.specs.Values.{State, file_at, Path, Place, Call, Reply, Step}
use Rattle.md_log.specs.declared.line.Call.TheVariants as call
use Rattle.md_log.specs.declared.line.Reply.TheVariants as reply
use Rattle.md_law.specs.History.{History, opening, next, at, now, after_call}
use Rattle.md_law.specs.Readings.{Looker}
use Rattle.md_monitor.specs.Files.{count_where}
use Rattle.md_monitor.specs.Messages.{is_of, is_there}

-- What is kept of the reading of a directory by an actor that the next part would go on with. Where none is open, that part would begin
-- one, and this is what the directories show.
pub record ReadingKept : Type 0 where
  -- the last part so far says that more follows
  pub is_open : Bool
  -- at a moment of the reading the directory had the name
  pub was_there : List ℕ → Bool
  -- at each moment of it the directory had the name
  pub was_always : List ℕ → Bool
  -- a part so far shows the name
  pub is_shown : List ℕ → Bool
  -- at each moment of the reading the message of a unique name was in the folder
  pub message_was_always : List ℕ → Bool
  -- a part so far shows a name of the message
  pub message_is_shown : List ℕ → Bool

-- ---- directories, and calls that read them

abbrev pub has_name : State → Looker → List ℕ → Bool
has_name s d name = is_some (file_at s (path_of d.folder d.place name))

-- the two are one directory of maildirs
abbrev pub is_place : Place → Place → Bool
is_place p q = place_index p == place_index q

abbrev pub is_more : Reply → Bool
is_more reply.More = true
is_more r = false

-- the call is a part of a reading of the directory, and the test holds of its answer and the names that it shows
abbrev pub reads_by : Call → Looker → (Reply → List (List ℕ) → Bool) → Bool
reads_by (call.List folder place r shown) d test = (folder == d.folder && is_place place d.place) && test r shown
reads_by c d test = false

-- the name is among these
abbrev pub is_among : List (List ℕ) → List ℕ → Bool
is_among shown name = list_any (λ other. bytes_eq other name) shown

-- in the directory the name is one of the message of a unique name
abbrev pub is_name_of : Looker → List ℕ → List ℕ → Bool
is_name_of d unique name = is_of d.folder unique (path_of d.folder d.place name)

-- ---- what is kept

-- of a reading that would begin at these directories
abbrev pub reading_first : State → Looker → ReadingKept
reading_first s d = record {
  is_open = false;
  was_there = has_name s d;
  was_always = has_name s d;
  is_shown = λ name. false;
  message_was_always = is_there s d.folder;
  message_is_shown = λ unique. false;
}

-- a step, by the directories before it and the clock after it, and a directory as an actor reads it
module _ (s : State) (now : ℕ) (x : Step) (d : Looker) where
  -- it is a part of a reading of the directory
  abbrev pub is_part : (Reply → List (List ℕ) → Bool) → Bool
  is_part test = bytes_eq x.actor d.actor && reads_by x.call d test

  -- a reading is open after it, if one was open before or not
  abbrev pub is_open_after : Bool → Bool
  is_open_after was_open = is_part (λ r shown. is_more r) || (not (is_part (λ r shown. true)) && was_open)

  -- it was so at a moment of the reading
  abbrev pub during_after : (State → Bool) → Bool → Bool → Bool
  during_after is was_open old = is (after_call x.call now s) || (is_open_after was_open && old)

  -- it was so at each moment of the reading
  abbrev pub always_after : (State → Bool) → Bool → Bool → Bool
  always_after is was_open old = is (after_call x.call now s) && (not (is_open_after was_open) || old)

  -- a part so far shows a name of which the test holds
  abbrev pub shown_after : (List ℕ → Bool) → Bool → Bool → Bool
  shown_after test was_open old = is_open_after was_open && (is_part (λ r shown. list_any test shown) || old)

  -- what is kept after the step, by what was kept before it
  abbrev pub reading_after : ReadingKept → ReadingKept
  reading_after kept = record {
    is_open = is_open_after kept.is_open;
    was_there = λ name. during_after (λ m. has_name m d name) kept.is_open (kept.was_there name);
    was_always = λ name. always_after (λ m. has_name m d name) kept.is_open (kept.was_always name);
    is_shown = λ name. shown_after (λ other. bytes_eq other name) kept.is_open (kept.is_shown name);
    message_was_always = λ unique. always_after (λ m. is_there m d.folder unique) kept.is_open (kept.message_was_always unique);
    message_is_shown = λ unique. shown_after (is_name_of d unique) kept.is_open (kept.message_is_shown unique);
  }

unfoldable pub readings_kept : History → Looker → ReadingKept
readings_kept (opening m) d = reading_first m.state d
readings_kept (next past x) d = reading_after (at past) (now (next past x)) x d (readings_kept past d)

-- ---- what a reading breaks

module _ (s : State) (d : Looker) (kept : ReadingKept) where
  -- a part shows a name that its directory had at no moment of the reading
  abbrev pub shows_wrongly : List (List ℕ) → Bool
  shows_wrongly shown = list_any (λ name. not (kept.was_there name)) shown

  -- the path is one of the directory that was there at each moment of the reading, and no part shows its name
  abbrev pub is_lacked : List (List ℕ) → Path → Bool
  is_lacked shown p = (p.folder == d.folder && is_place p.place d.place)
      && (kept.was_always p.name && not (is_among shown p.name || kept.is_shown p.name))

  -- a part is answered so, and shows these names, as no directory does
  abbrev pub is_wrong_reading : Reply → List (List ℕ) → Bool
  is_wrong_reading reply.Ok shown = shows_wrongly shown || nat_lt 0 (count_where (λ e. is_lacked shown e.0) s)
  is_wrong_reading reply.More shown = shows_wrongly shown
  is_wrong_reading reply.NotFound shown = true
  is_wrong_reading r shown = false

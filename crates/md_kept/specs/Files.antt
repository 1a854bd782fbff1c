-- What is kept of files, and how a turn of paths changes it.
use Rattle.std.specs.Prelude.{ℕ, ◌≡◌, ◌+◌, ◌-◌, ◌==◌, ◌&&◌, ◌||◌, List, Option, Some, None, Bool, true, false, nat_lt, slice_get, length, if◌then◌else◌}
use Rattle.std.specs.Borrow.{Bor}
use Rattle.std.specs.Option.{option_map}
use Rattle.std.specs.Str.{bytes_eq}
use Rattle.md_law.specs.Values.{Path}
use Rattle.md_law.specs.Messages.{is_message}
use Rattle.md_monitor.specs.Files.{is_some_and, is_cur}
use Rattle.md_kept.specs.declared.files.FileKept.{FileKept}
use Rattle.md_kept.specs.Changes.{Turn, lent}

-- what is kept of a file that was made
abbrev pub made_by : Option (List ℕ) → ℕ → FileKept
made_by maker stamp = record {
  maker = maker;
  stamp = stamp;
  is_unflushed = false;
  is_cut = false;
  was_cur = false;
  was_seen = false;
  times = 0;
}

-- ---- what is kept of the file of a number

abbrev pub maker_of : Option FileKept → Option (List ℕ)
maker_of None = None
maker_of (Some f) = f.maker

-- who made it
abbrev pub maker_in : List FileKept → ℕ → Option (List ℕ)
maker_in files n = maker_of (slice_get files n)

-- an actor made it
abbrev pub is_maker_in : List FileKept → ℕ → List ℕ → Bool
is_maker_in files n actor = is_some_and (maker_in files n) (λ maker. bytes_eq maker actor)

-- it was written to, and not flushed since
abbrev pub is_unflushed_in : List FileKept → ℕ → Bool
is_unflushed_in files n = is_some_and (slice_get files n) (λ f. f.is_unflushed)

-- the last write to it failed
abbrev pub is_cut_in : List FileKept → ℕ → Bool
is_cut_in files n = is_some_and (slice_get files n) (λ f. f.is_cut)

-- it was a message in cur
abbrev pub was_cur_in : List FileKept → ℕ → Bool
was_cur_in files n = is_some_and (slice_get files n) (λ f. f.was_cur)

-- readers saw it
abbrev pub was_seen_in : List FileKept → ℕ → Bool
was_seen_in files n = is_some_and (slice_get files n) (λ f. f.was_seen)

abbrev pub times_of : Option FileKept → ℕ
times_of None = 0
times_of (Some f) = f.times

-- by how many paths readers see it
abbrev pub times_in : List FileKept → ℕ → ℕ
times_in files n = times_of (slice_get files n)

-- readers see it
abbrev pub is_seen_in : List FileKept → ℕ → Bool
is_seen_in files n = nat_lt 0 (times_in files n)

abbrev pub stamp_of : Option FileKept → ℕ
stamp_of None = 0
stamp_of (Some f) = f.stamp

-- when it was last made or written to
abbrev pub stamp_in : List FileKept → ℕ → ℕ
stamp_in files n = stamp_of (slice_get files n)

-- ---- how it changes

-- a write that is done
abbrev pub written : ℕ → FileKept → FileKept
written now f = record f { stamp = now; is_unflushed = true; is_cut = false }

-- a write that fails
abbrev pub cut : FileKept → FileKept
cut f = record f { is_cut = true }

-- a flush that is done
abbrev pub flushed : FileKept → FileKept
flushed f = record f { is_unflushed = false }

-- a path of a message came to name it, and one went
abbrev pub shown : Bool → FileKept → FileKept
shown in_cur f = record f { times = f.times + 1; was_seen = true; was_cur = in_cur || f.was_cur }

abbrev pub hidden : FileKept → FileKept
hidden f = record f { times = f.times - 1 }

-- One file is changed so, and the others are as they were.
pub record Changes (file : ℕ) (f : FileKept → FileKept) (old new : List FileKept) : Type 0 where
  pub kept : (n : ℕ) → slice_get new n ≡ (if n == file then option_map f (slice_get old n) else slice_get old n)
  pub many : length new ≡ length old

-- a file of a path that has one
abbrev pub changing : (FileKept → FileKept) → Option ℕ → List FileKept → List FileKept → Type 0
changing f None old new = new ≡ old
changing f (Some n) old new = Changes n f old new

-- One more file is there.
pub record Adds (f : FileKept) (old new : List FileKept) : Type 0 where
  pub kept : (n : ℕ) → slice_get new n ≡ (if n == length old then Some f else slice_get old n)
  pub many : length new ≡ length old + 1

-- a file to which a message's path came, or from which one went
abbrev pub come : Option (Path × ℕ) → ℕ → Option FileKept → Option FileKept
come None n o = o
come (Some e) n o = if is_message e.0 && n == e.1 then option_map (shown (is_cur e.0.place)) o else o

abbrev pub gone : Option (Path × ℕ) → ℕ → Option FileKept → Option FileKept
gone None n o = o
gone (Some e) n o = if is_message e.0 && n == e.1 then option_map hidden o else o

-- each file is changed so
pub record Turns (f : ℕ → Option FileKept → Option FileKept) (old new : List FileKept) : Type 0 where
  pub kept : (n : ℕ) → slice_get new n ≡ f n (slice_get old n)
  pub many : length new ≡ length old

-- a path that is lent, with its file, where there is one
abbrev pub lent_as : Option (Bor Path × ℕ) → Option (Path × ℕ)
lent_as named = option_map lent named

-- files are kept so after a turn
abbrev pub Follows : Turn → List FileKept → List FileKept → Type 0
Follows t = Turns (λ n o. gone t.turned n (gone t.taken n (come t.named n o)))

-- What a monitor keeps of files, and what of it changes with a step.
use Rattle.std.specs.Prelude.{ℕ, List, Option, Some, None, Bool, true, false, not, ◌&&◌, ◌||◌, ◌==◌, nat_lt, if◌then◌else◌, length}
use Rattle.std.specs.List.{count_by}
use Rattle.std.specs.Option.{option_map}
use Rattle.std.specs.FinMap as finmap
use Rattle.md_law.specs.Values.{State, file_at, Path, Place, New, Cur, Call, Reply, Step}
use Rattle.md_log.specs.declared.line.Call.TheVariants as call
use Rattle.md_log.specs.declared.line.Deed.TheVariants as deed
use Rattle.md_log.specs.declared.line.Reply.TheVariants as reply
use Rattle.md_law.specs.History.{History, opening, next, at}
use Rattle.md_law.specs.Messages.{is_message}
use Rattle.md_monitor.specs.Changes.{change_of, is_file}

-- What is kept of a file.
pub record FileKept : Type 0 where
  -- the actor that made it, where a step did
  pub maker : Option (List ℕ)
  -- it was written to, and not flushed since
  pub is_unflushed : Bool
  -- the last write to it failed
  pub is_cut : Bool
  -- it was a message in cur
  pub was_cur : Bool
  -- readers saw it
  pub was_seen : Bool

-- there is one of which the test holds
abbrev pub is_some_and : {A : Type 0} → Option A → (A → Bool) → Bool
is_some_and None test = false
is_some_and (Some x) test = test x

-- ---- what directories show of a file

-- how many paths there are, each with its file, of which the test holds
abbrev pub count_where : (Path × ℕ → Bool) → State → ℕ
count_where test s = count_by test (finmap.entries s.names)

-- how many of the file's paths there are of which the test holds
abbrev pub times : (Path → Bool) → State → ℕ → ℕ
times test s n = count_where (λ e. e.1 == n && test e.0) s

-- by how many paths readers see the file
abbrev pub seen_times : State → ℕ → ℕ
seen_times s n = times is_message s n

abbrev pub is_seen : State → ℕ → Bool
is_seen s n = nat_lt 0 (seen_times s n)

-- the place is new
abbrev pub is_new : Place → Bool
is_new New = true
is_new p = false

-- the place is cur
abbrev pub is_cur : Place → Bool
is_cur Cur = true
is_cur p = false

-- the path is one of a message in cur
abbrev pub is_cur_message : Path → Bool
is_cur_message p = is_message p && is_cur p.place

-- ---- what a call does to a file by a path of it

abbrev pub is_ok : Reply → Bool
is_ok reply.Ok = true
is_ok r = false

abbrev pub is_fault : Reply → Bool
is_fault reply.Fault = true
is_fault r = false

abbrev pub is_not_found : Reply → Bool
is_not_found reply.NotFound = true
is_not_found r = false

-- the file to which a call writes, and what the write answers
abbrev pub written_by : State → Call → Option (ℕ × Reply)
written_by s (call.At deed.Write p r) = option_map (λ n. (n, r)) (file_at s p)
written_by s c = None

-- the file that a call flushes, and the one that it makes
abbrev pub flushed_by : State → Call → Option ℕ
flushed_by s (call.At deed.Flush p reply.Ok) = file_at s p
flushed_by s c = None

abbrev pub made_by : State → Call → Option ℕ
made_by s (call.At deed.Create p reply.Ok) = Some (length s.files)
made_by s c = None

-- it is a write to the file, and answers so
abbrev pub is_write : Option (ℕ × Reply) → (Reply → Bool) → ℕ → Bool
is_write written answer n = is_some_and written (λ w. w.0 == n && answer w.1)

-- the file comes to have a path of which the test holds
abbrev pub comes_to : Option (Path × ℕ) → (Path → Bool) → ℕ → Bool
comes_to named test n = is_some_and named (λ e. e.1 == n && test e.0)

-- ---- what is kept

-- what is kept of a file at the beginning
abbrev pub kept_first : State → ℕ → FileKept
kept_first s n = record {
  maker = None;
  is_unflushed = false;
  is_cut = false;
  was_cur = nat_lt 0 (times is_cur_message s n);
  was_seen = is_seen s n;
}

-- what is kept of a file after a step, by the directories before it and what was kept then
abbrev pub kept_after : State → Step → (ℕ → FileKept) → ℕ → FileKept
kept_after s x kept n =
    let written = written_by s x.call in
    let named = (change_of s x.call).named in
    record {
      maker = if is_file (made_by s x.call) n then Some x.actor else (kept n).maker;
      is_unflushed = is_write written is_ok n || (not (is_file (flushed_by s x.call) n) && (kept n).is_unflushed);
      is_cut = is_write written is_fault n || (not (is_write written is_ok n) && (kept n).is_cut);
      was_cur = comes_to named is_cur_message n || (kept n).was_cur;
      was_seen = comes_to named is_message n || (kept n).was_seen;
    }

unfoldable pub files_kept : History → ℕ → FileKept
files_kept (opening m) n = kept_first m.state n
files_kept (next past x) n = kept_after (at past) x (files_kept past) n

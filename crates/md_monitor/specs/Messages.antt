-- What a monitor keeps of messages and of paths of tmp, what of it changes with a step, and which clauses a step breaks by that.
use Rattle.std.specs.Prelude.{ℕ, List, Option, Some, None, Bool, false, not, ◌&&◌, ◌||◌, ◌==◌, nat_lt, is_some, if◌then◌else◌}
use Rattle.std.specs.Option.{option_or}
use Rattle.std.specs.Ordering.{eq_by_cmp}
use Rattle.std.specs.Str.{bytes_eq}
use Rattle.std.specs.FinSet as set
use Rattle.md_dirs.specs.Path.{path_cmp}
use Rattle.md_law.specs.Values.{State, file_at, Path, Call, Step}
use Rattle.md_name.specs.Names.{unique_of, info_of, flags_of}
use Rattle.md_log.specs.declared.line.Call.TheVariants as call
use Rattle.md_log.specs.declared.line.Deed.TheVariants as deed
use Rattle.md_log.specs.declared.line.Reply.TheVariants as reply
use Rattle.md_law.specs.History.{History, opening, next, at, after_call}
use Rattle.md_law.specs.Messages.{is_message, is_tmp}
use Rattle.md_monitor.specs.Changes.{change_of}
use Rattle.md_monitor.specs.Files.{is_some_and, is_cur, count_where, times}

-- ---- what directories show of a message

-- it is a path of the message of a unique name, in a folder or in any
abbrev pub is_of : ℕ → List ℕ → Path → Bool
is_of folder unique p = is_message p && p.folder == folder && bytes_eq (unique_of p.name) unique

abbrev pub is_of_any : List ℕ → Path → Bool
is_of_any unique p = is_message p && bytes_eq (unique_of p.name) unique

-- how many paths the message has in the folder
abbrev pub paths_of : State → ℕ → List ℕ → ℕ
paths_of s folder unique = count_where (λ e. is_of folder unique e.0) s

abbrev pub is_there : State → ℕ → List ℕ → Bool
is_there s folder unique = nat_lt 0 (paths_of s folder unique)

-- how many it has in other folders
abbrev pub paths_beside : State → ℕ → List ℕ → ℕ
paths_beside s folder unique = count_where (λ e. is_of_any unique e.0 && not (e.0.folder == folder)) s

-- how many paths name the file as a message of the unique name, in any folder
abbrev pub paths_as : State → List ℕ → ℕ → ℕ
paths_as s unique n = times (is_of_any unique) s n

-- ---- what is kept

-- What is kept of a path of tmp.
pub record PathKept : Type 0 where
  -- the file that it named first
  pub first : Option ℕ
  -- it named another
  pub has_other : Bool

-- What is kept of messages.
pub record MessagesKept : Type 0 where
  -- the message of a unique name was in the folder; it was there as this file
  pub was_there : ℕ → List ℕ → Bool
  pub was_file : ℕ → List ℕ → ℕ → Bool
  -- the same of any folder
  pub was_any : List ℕ → Bool
  pub was_any_file : List ℕ → ℕ → Bool
  -- the paths of tmp; of others nothing is kept
  pub paths : Path → PathKept

abbrev pub no_path : PathKept
no_path = record { first = None; has_other = false }

abbrev pub path_first : State → Path → PathKept
path_first s p = if is_tmp p.place then record { first = file_at s p; has_other = false } else no_path

abbrev pub messages_first : State → MessagesKept
messages_first s = record {
  was_there = is_there s;
  was_file = λ folder unique n. nat_lt 0 (times (is_of folder unique) s n);
  was_any = λ unique. nat_lt 0 (count_where (λ e. is_of_any unique e.0) s);
  was_any_file = λ unique n. nat_lt 0 (paths_as s unique n);
  paths = path_first s;
}

-- the path once named another file than this
abbrev pub named_other : PathKept → ℕ → Bool
named_other kept n = kept.has_other || is_some_and kept.first (λ m. not (m == n))

-- what is kept of a path that comes to name the file
abbrev pub path_named : PathKept → ℕ → PathKept
path_named kept n = record { first = option_or kept.first (Some n); has_other = named_other kept n }

-- what is kept of a path, after a path came to name a file
abbrev pub path_after : Option (Path × ℕ) → Path → PathKept → PathKept
path_after None p kept = kept
path_after (Some named) p kept = if eq_by_cmp path_cmp named.0 p then path_named kept named.1 else kept

abbrev pub messages_after : State → Step → MessagesKept → MessagesKept
messages_after s x kept =
    let named = (change_of s x.call).named in
    record {
      was_there = λ folder unique. is_some_and named (λ e. is_of folder unique e.0) || kept.was_there folder unique;
      was_file = λ folder unique n. is_some_and named (λ e. e.1 == n && is_of folder unique e.0) || kept.was_file folder unique n;
      was_any = λ unique. is_some_and named (λ e. is_of_any unique e.0) || kept.was_any unique;
      was_any_file = λ unique n. is_some_and named (λ e. e.1 == n && is_of_any unique e.0) || kept.was_any_file unique n;
      paths = λ p. if is_tmp p.place then path_after named p (kept.paths p) else no_path;
    }

unfoldable pub messages_kept : History → MessagesKept
messages_kept (opening m) = messages_first m.state
messages_kept (next past x) = messages_after (at past) x (messages_kept past)

-- ---- what a step breaks

-- the call unlinks a path in cur that shows the flag T
abbrev pub empties_trash : Call → Bool
empties_trash (call.At deed.Unlink p reply.Ok) = is_cur p.place && is_some_and (flags_of (info_of p.name)) (λ flags. set.contains flags 84)
empties_trash c = false

module _ (s : State) (now : ℕ) (kept : MessagesKept) (x : Step) where
  abbrev named : Option (Path × ℕ)
  named = (change_of s x.call).named

  abbrev after : State
  after = after_call x.call now s

  -- a path of a message is added, of which the test holds
  abbrev pub adds_message : (Path × ℕ → Bool) → Bool
  adds_message test = is_some_and named (λ e. not (is_some (file_at s e.0)) && is_message e.0 && test e)

  abbrev pub breaks_two_names : Bool
  breaks_two_names = adds_message (λ e. nat_lt 1 (paths_of after e.0.folder (unique_of e.0.name)))

  abbrev pub breaks_gone : Bool
  breaks_gone = is_some_and (change_of s x.call).taken (λ e.
      is_message e.0 && not (is_there after e.0.folder (unique_of e.0.name)) && not (empties_trash x.call)
      && not (nat_lt 0 (paths_as after (unique_of e.0.name) e.1)))

  abbrev pub breaks_used_again : Bool
  breaks_used_again = adds_message (λ e.
      not (is_there s e.0.folder (unique_of e.0.name)) && kept.was_there e.0.folder (unique_of e.0.name)
      && not (kept.was_file e.0.folder (unique_of e.0.name) e.1))

  abbrev pub breaks_in_two_folders : Bool
  breaks_in_two_folders = adds_message (λ e. nat_lt 0 (paths_beside after e.0.folder (unique_of e.0.name)))

  abbrev pub breaks_used_twice : Bool
  breaks_used_twice = is_some_and named (λ e.
      is_message e.0 && kept.was_any (unique_of e.0.name) && not (kept.was_any_file (unique_of e.0.name) e.1))

  abbrev pub breaks_made_again : Bool
  breaks_made_again = is_some_and named (λ e. is_tmp e.0.place && named_other (kept.paths e.0) e.1)

-- What is kept of messages, and how a turn of paths changes it.
use Rattle.std.specs.Prelude.{ℕ, ◌≡◌, ◌+◌, ◌-◌, ◌==◌, ◌&&◌, ◌||◌, List, Option, Some, None, Bool, false, is_some, unwrap_or, if◌then◌else◌}
use Rattle.std.specs.Option.{option_map}
use Rattle.md_law.specs.Values.{Path}
use Rattle.md_monitor.specs.Files.{is_some_and}
use Rattle.md_monitor.specs.Messages.{is_of, is_of_any}
use Rattle.md_kept.specs.declared.messages.InFolder.{InFolder}
use Rattle.md_kept.specs.declared.messages.Message.{Message}
use Rattle.md_kept.specs.declared.messages.Messages.{Messages}
use Rattle.md_kept.specs.Few.{few_at, times_at}
use Rattle.md_kept.specs.Tables.{value_at}
use Rattle.md_kept.specs.Changes.{Turn}

-- ---- what is kept of one message, if anything is

-- by how many paths it is in any folder
abbrev pub times_by : Option Message → Option ℕ
times_by o = option_map (λ k. k.times) o

abbrev pub folder_by : Option Message → ℕ → Option InFolder
folder_by None folder = None
folder_by (Some k) folder = few_at k.folders folder

-- by how many paths a file is it
abbrev pub file_by : Option Message → ℕ → Option ℕ
file_by None n = None
file_by (Some k) n = few_at k.files n

-- by how many paths it is in a folder
abbrev pub times_in : Option InFolder → Option ℕ
times_in o = option_map (λ f. f.times) o

-- it was a file there
abbrev pub was_in_as : Option InFolder → ℕ → Bool
was_in_as None n = false
was_in_as (Some f) n = is_some (few_at f.files n)

-- ---- by unique names

abbrev pub kept_of : Messages → List ℕ → Option Message
kept_of m unique = value_at m.all 0 unique

abbrev pub in_folder_of : Messages → ℕ → List ℕ → Option InFolder
in_folder_of m folder unique = folder_by (kept_of m unique) folder

-- by how many paths the message is in the folder
abbrev pub count_in_folder : Messages → ℕ → List ℕ → ℕ
count_in_folder m folder unique = unwrap_or (times_in (in_folder_of m folder unique)) 0

-- by how many it is in any folder
abbrev pub count_anywhere : Messages → List ℕ → ℕ
count_anywhere m unique = unwrap_or (times_by (kept_of m unique)) 0

-- by how many paths the file is the message
abbrev pub count_as_file : Messages → List ℕ → ℕ → ℕ
count_as_file m unique n = unwrap_or (file_by (kept_of m unique) n) 0

-- the message was in the folder
abbrev pub was_in_folder : Messages → ℕ → List ℕ → Bool
was_in_folder m folder unique = is_some (in_folder_of m folder unique)

-- it was this file there
abbrev pub was_in_folder_as : Messages → ℕ → List ℕ → ℕ → Bool
was_in_folder_as m folder unique n = was_in_as (in_folder_of m folder unique) n

-- it was in any folder
abbrev pub was_anywhere : Messages → List ℕ → Bool
was_anywhere m unique = is_some (kept_of m unique)

-- it was this file there
abbrev pub was_as_file : Messages → List ℕ → ℕ → Bool
was_as_file m unique n = is_some (file_by (kept_of m unique) n)

-- Nothing is kept of any message.
abbrev pub KeepsNone : Messages → Type 0
KeepsNone m = (unique : List ℕ) → kept_of m unique ≡ None

-- ---- how one message changes

-- one more path of its folder is it, as a file
pub record IsIn (n : ℕ) (old new : InFolder) : Type 0 where
  pub times : new.times ≡ old.times + 1
  pub files : (m : ℕ) → is_some (few_at new.files m) ≡ (n == m || is_some (few_at old.files m))

-- one more path of the folder is it, as a file
pub record ComesTo (folder n : ℕ) (old new : Message) : Type 0 where
  pub times : new.times ≡ old.times + 1
  pub folders : (f : ℕ) → times_in (few_at new.folders f)
      ≡ (if folder == f then Some (unwrap_or (times_in (few_at old.folders f)) 0 + 1) else times_in (few_at old.folders f))
  pub files : (m : ℕ) → few_at new.files m ≡ (if n == m then Some (times_at old.files m + 1) else few_at old.files m)
  pub was_file : (f m : ℕ) → was_in_as (few_at new.folders f) m ≡ ((n == m && folder == f) || was_in_as (few_at old.folders f) m)

-- one path less is
pub record GoesFrom (folder n : ℕ) (old new : Message) : Type 0 where
  pub times : new.times ≡ old.times - 1
  pub folders : (f : ℕ) → times_in (few_at new.folders f)
      ≡ (if folder == f then option_map (λ t. t - 1) (times_in (few_at old.folders f)) else times_in (few_at old.folders f))
  pub files : (m : ℕ) → few_at new.files m ≡ (if n == m then option_map (λ t. t - 1) (few_at old.files m) else few_at old.files m)
  pub was_file : (f m : ℕ) → was_in_as (few_at new.folders f) m ≡ was_in_as (few_at old.folders f) m

-- ---- how it changes

-- it is a path of the message as this file
abbrev pub is_as : List ℕ → ℕ → Path × ℕ → Bool
is_as unique n e = e.1 == n && is_of_any unique e.0

abbrev pub is_in_as : ℕ → List ℕ → ℕ → Path × ℕ → Bool
is_in_as folder unique n e = e.1 == n && is_of folder unique e.0

-- what is counted, after a path came of which the test holds, and after one went
abbrev pub come : (Path × ℕ → Bool) → Option (Path × ℕ) → Option ℕ → Option ℕ
come test None o = o
come test (Some e) o = if test e then Some (unwrap_or o 0 + 1) else o

abbrev pub gone : (Path × ℕ → Bool) → Option (Path × ℕ) → Option ℕ → Option ℕ
gone test None o = o
gone test (Some e) o = if test e then option_map (λ n. n - 1) o else o

-- what is counted after a turn
abbrev pub turning : (Path × ℕ → Bool) → Turn → Option ℕ → Option ℕ
turning test t o = gone test t.turned (gone test t.taken (come test t.named o))

-- Messages are kept so after a turn.
pub record Follows (t : Turn) (old new : Messages) : Type 0 where
  pub in_folder : (f : ℕ) (u : List ℕ)
      → times_in (in_folder_of new f u) ≡ turning (λ e. is_of f u e.0) t (times_in (in_folder_of old f u))
  pub anywhere : (u : List ℕ) → times_by (kept_of new u) ≡ turning (λ e. is_of_any u e.0) t (times_by (kept_of old u))
  pub as_file : (n : ℕ) (u : List ℕ) → file_by (kept_of new u) n ≡ turning (is_as u n) t (file_by (kept_of old u) n)
  pub files : (f : ℕ) (u : List ℕ) (n : ℕ)
      → was_in_folder_as new f u n ≡ (is_some_and t.named (is_in_as f u n) || was_in_folder_as old f u n)

-- a path came to name a file
abbrev pub Comes : Option (Path × ℕ) → Messages → Messages → Type 0
Comes named = Follows (record { named = named; taken = None; turned = None })

-- a path went
abbrev pub Goes : Option (Path × ℕ) → Messages → Messages → Type 0
Goes went = Follows (record { named = None; taken = went; turned = None })

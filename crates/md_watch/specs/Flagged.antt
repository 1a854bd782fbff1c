-- By how many names in cur each message shows each set of flags, when it did, and how paths that come and go change it. A set of flags is
-- known by its word.
use Rattle.std.specs.Prelude.{ℕ, ◌≡◌, ◌+◌, ◌-◌, ◌==◌, ◌&&◌, List, Option, Some, None, Bool, true, false, nat_eq, nat_lt, if◌then◌else◌}
use Rattle.std.specs.Borrow.{Bor}
use Rattle.std.specs.Option.{option_map}
use Rattle.indexmap.specs.IndexMap.{get}
use Rattle.md_law.specs.Values.{State, Path}
use Rattle.md_name.specs.Letters.{Set, IsOfLetters, is_same_set}
use Rattle.md_name.specs.Names.{unique_of, info_of, flags_of, is_message_name}
use Rattle.md_name.specs.Words.{word_of}
use Rattle.md_law.specs.Answers.{Claim}
use Rattle.md_monitor.specs.Files.{is_some_and, is_cur, count_where}
use Rattle.md_monitor.specs.Messages.{is_of}
use Rattle.md_monitor.specs.Answers.{is_flagged}
use Rattle.md_watch.specs.declared.flagged.Showing.{Showing}
use Rattle.md_watch.specs.declared.flagged.Shown.{Shown}
use Rattle.md_watch.specs.declared.flagged.Flagged.{Flagged}
use Rattle.md_watch.specs.declared.spells.Spell.{Spell}
use Rattle.md_kept.specs.Changes.{Turn}
use Rattle.md_watch.specs.Spells.{since_of, ended_of, Passes, IsSame, IsTimely}
use Rattle.md_kept.specs.Tables.{value_at, is_key}

-- ---- what paths show

-- the path is in cur, names the message of the folder, and shows the flags of the word
abbrev pub shows : ℕ → ℕ → List ℕ → Path → Bool
shows word folder unique p = is_of folder unique p
    && (is_cur p.place && is_some_and (flags_of (info_of p.name)) (λ flags. word_of flags == word))

-- how many of a path there are that shows them
abbrev pub times : ℕ → ℕ → List ℕ → Option (Path × ℕ) → ℕ
times word folder unique o = if is_some_and o (λ e. shows word folder unique e.0) then 1 else 0

-- the unique name and the word that a path of cur shows, where it is a message's with flags
abbrev pub mark_of : Path → Option (List ℕ × ℕ)
mark_of p =
    if is_cur p.place && is_message_name p.name
    then option_map (λ flags. (unique_of p.name, word_of flags)) (flags_of (info_of p.name)) else None

abbrev pub lent_mark : Bor (List ℕ) × ℕ → List ℕ × ℕ
lent_mark e = (e.0.now, e.1)

-- ---- what is kept

-- of one message and one set of flags
abbrev pub names_of : Option Showing → ℕ
names_of None = 0
names_of (Some k) = k.names

abbrev pub spell_in_it : Option Showing → Option Spell
spell_in_it o = option_map (λ k. k.spell) o

-- What is kept is what a record says, which tells of nothing where nothing is kept.
pub record IsOf (o : Option Showing) (k : Showing) : Type 0 where
  pub names : names_of o ≡ k.names
  pub since : since_of (spell_in_it o) ≡ since_of (Some k.spell)
  pub ended : ended_of (spell_in_it o) ≡ ended_of (Some k.spell)

-- of one set of flags
abbrev pub showing_of : Option Shown → ℕ → List ℕ → Option Showing
showing_of None folder unique = None
showing_of (Some k) folder unique = value_at k.all folder unique

abbrev pub count_of : Option Shown → ℕ → List ℕ → ℕ
count_of o folder unique = names_of (showing_of o folder unique)

abbrev pub spell_of : Option Shown → ℕ → List ℕ → Option Spell
spell_of o folder unique = spell_in_it (showing_of o folder unique)

-- of the set of a word
abbrev pub set_at : Flagged → ℕ → Option Shown
set_at w word = get nat_eq w.sets word

abbrev pub count_by : Flagged → ℕ → ℕ → List ℕ → ℕ
count_by w word folder unique = count_of (set_at w word) folder unique

abbrev pub spell_by : Flagged → ℕ → ℕ → List ℕ → Option Spell
spell_by w word folder unique = spell_of (set_at w word) folder unique

-- of a set of letters
abbrev pub count_in : Flagged → ℕ → List ℕ → Set → ℕ
count_in w folder unique flags = count_by w (word_of flags) folder unique

abbrev pub is_in : Flagged → ℕ → List ℕ → Set → Bool
is_in w folder unique flags = nat_lt 0 (count_in w folder unique flags)

abbrev pub spell_in : Flagged → ℕ → List ℕ → Set → Option Spell
spell_in w folder unique flags = spell_by w (word_of flags) folder unique

-- ---- how it changes

-- a count after some came, or went
abbrev pub count_after : Bool → ℕ → ℕ → ℕ
count_after comes count times = if comes then count + times else count - times

-- at one key one came, or went, and at others the count stays
abbrev pub count_after_at : Bool → ℕ → List ℕ → ℕ → List ℕ → ℕ → ℕ
count_after_at comes folder unique m q count = if is_key (folder, unique) (m, q) then count_after comes count 1 else count

-- In a step of a number the counts of one set of flags change so, and its spells go with them.
pub record Changes (f : ℕ → List ℕ → ℕ → ℕ) (n : ℕ) (old new : Option Shown) : Type 0 where
  pub counts : (m : ℕ) (q : List ℕ) → count_of new m q ≡ f m q (count_of old m q)
  pub spells : (m : ℕ) (q : List ℕ)
      → Passes (nat_lt 0 (count_of old m q)) (nat_lt 0 (count_of new m q)) n (spell_of old m q) (spell_of new m q)

-- At the beginning one more name of the key shows one set of flags; no spell changes.
pub record Adds (folder : ℕ) (unique : List ℕ) (old new : Option Shown) : Type 0 where
  pub counts : (m : ℕ) (q : List ℕ) → count_of new m q ≡ count_after_at true folder unique m q (count_of old m q)
  pub spells : (m : ℕ) (q : List ℕ) → IsSame (spell_of old m q) (spell_of new m q)

-- What is kept of the set of a word is lent, where nothing is kept as nothing, and of the others all is kept.
pub record Lends (word : ℕ) (lent : Shown) (old new : Flagged) : Type 0 where
  pub showing : (m : ℕ) (q : List ℕ) → showing_of (Some lent) m q ≡ showing_of (set_at old word) m q
  pub others : (v : ℕ) → nat_eq word v ≡ false → set_at new v ≡ set_at old v

-- A path came to name a file, or one went, in a step of a number.
abbrev pub Turns : Option (Path × ℕ) → Bool → ℕ → Flagged → Flagged → Type 0
Turns named comes n old new =
    (word : ℕ) → Changes (λ m q count. count_after comes count (times word m q named)) n (set_at old word) (set_at new word)

-- First a path comes, and then one goes, and one.
pub record Follows (t : Turn) (n : ℕ) (old new : Flagged) : Type 0 where
  pub come : Flagged
  pub gone : Flagged
  pub comes : Turns t.named true n old come
  pub goes : Turns t.taken false n come gone
  pub turns : Turns t.turned false n gone new

-- At the beginning a path names a file.
pub record Puts (p : Path) (old new : Flagged) : Type 0 where
  pub counts : (word m : ℕ) (q : List ℕ) → count_by new word m q ≡ count_by old word m q + (if shows word m q p then 1 else 0)
  pub spells : (word m : ℕ) (q : List ℕ) → IsSame (spell_by old word m q) (spell_by new word m q)

-- ---- what is kept is so

-- by how many names in cur the message shows the flags
abbrev pub flagged_times : State → Claim → Set → ℕ
flagged_times s c flags = count_where (λ e. is_of c.folder c.unique e.0
    && (is_cur e.0.place && is_some_and (flags_of (info_of e.0.name)) (λ shown. is_same_set shown flags))) s

-- What is kept is so of these directories at a moment of a number.
pub record AreFlagged (n : ℕ) (s : State) (w : Flagged) : Type 0 where
  pub counts : (c : Claim) (flags : Set) → IsOfLetters flags → count_in w c.folder c.unique flags ≡ flagged_times s c flags
  pub timely : (c : Claim) (flags : Set) → IsOfLetters flags → IsTimely n (is_flagged s c flags) (spell_in w c.folder c.unique flags)
  -- at the beginning nothing was there before
  pub begun : n ≡ 0 → (word folder : ℕ) (unique : List ℕ) → IsSame None (spell_by w word folder unique)

-- Legal histories: lists of effects over the names of a mailbox. They speak of names alone: of no call, no directory and no step.
use Rattle.std.specs.Prelude.{ℕ, ◌≡◌, ◌≢◌, ◌<◌, ◌++◌, List, [], ◌∷◌, Option, Some, None, map, take, length, slice_get, IsTrue}
use Rattle.std.specs.Option.{option_map_or}
use Rattle.std.specs.FinMap as finmap
use Rattle.std.specs.FinSet as set
use Rattle.md_dirs.specs.declared.paths.Place.{Place}
use Rattle.md_dirs.specs.declared.paths.Place.TheVariants.{Tmp, New, Cur}
use Rattle.md_name.specs.Letters.{Set}
use Rattle.md_name.specs.Names.{unique_of, info_text, info_of, flags_of, flagged, is_message_name}
use Rattle.md_core.specs.Mailbox.{Entry, Mailbox, name_cmp}
use Rattle.md_jobs.specs.declared.answer.Answer.{Answer}
use Rattle.md_jobs.specs.declared.answer.Answer.TheVariants as answer
use Rattle.md_jobs.specs.declared.effect.Change.{Change}
use Rattle.md_jobs.specs.declared.effect.Change.TheVariants as change
use Rattle.md_jobs.specs.declared.effect.Effect.{Effect}

-- what a listing can see of a message: its folder, its place, its whole file name, and its size in bytes
pub record Listed : Type 0 where
  pub folder : ℕ
  pub place : Place
  pub name : List ℕ
  pub size : ℕ

-- what can be seen of each message, by its unique name
abbrev pub Names : Type 0
Names = finmap.FinMap name_cmp Listed

-- the name of a message: its unique name, and after a colon its info, if it has one
abbrev pub name_of : List ℕ → Option (List ℕ) → List ℕ
name_of u None = u
name_of u (Some info) = u ++ 58 ∷ info

-- what can be seen of the message of a unique name
abbrev pub as_listed : List ℕ → Entry → Listed
as_listed u e = record { folder = e.folder; place = e.place; name = name_of u e.info; size = length e.bytes }

-- the names of a mailbox
abbrev pub names_of : Mailbox → Names
names_of m = finmap.from_entries (map (λ x. (x.0, as_listed x.0 x.1)) (finmap.entries m))

-- the size of the message of a unique name, in bytes
abbrev pub size_in : Names → List ℕ → ℕ
size_in m u = option_map_or (λ (x : Listed). x.size) (finmap.get m u) 0

-- the names after a change
abbrev pub names_after_change : Names → Change → Names
names_after_change m (change.Add folder place name size) =
    finmap.insert m (unique_of name) (record { folder = folder; place = place; name = name; size = size })
names_after_change m (change.Rename folder place name to_folder to_place to_name) =
    finmap.insert (finmap.remove m (unique_of name)) (unique_of to_name)
    (record { folder = to_folder; place = to_place; name = to_name; size = size_in m (unique_of name) })
names_after_change m (change.Remove folder place name) = finmap.remove m (unique_of name)
names_after_change m change.Same = m

-- the names at the end of a history
abbrev pub names_after : Names → List Effect → Names
names_after m [] = m
names_after m (e ∷ es) = names_after (names_after_change m e.change) es

-- a message has this name in this directory
pub record IsThere (m : Names) (folder : ℕ) (place : Place) (name : List ℕ) : Type 0 where
  pub size : ℕ
  pub at : finmap.get m (unique_of name) ≡ Some (record { folder = folder; place = place; name = name; size = size })

-- the unique name is nowhere
abbrev pub IsNowhere : Names → List ℕ → Type 0
IsNowhere m u = finmap.get m u ≡ None

-- the unique name is nowhere after any prefix of the history
abbrev pub WasNowhere : Names → List Effect → List ℕ → Type 0
WasNowhere opening history u = (k : ℕ) → IsNowhere (names_after opening (take k history)) u

-- the name shows these flags
abbrev pub ShowsFlags : List ℕ → Set → Type 0
ShowsFlags name flags = flags_of (info_of name) ≡ Some flags

-- a name in cur shows some flags, or one in new shows some of these
abbrev pub MayGetFlags : Place → List ℕ → Set → Type 0
MayGetFlags Tmp name flags = ⊥
MayGetFlags New name flags = (had : Set) × ShowsFlags name had × IsTrue (set.is_subset had flags)
MayGetFlags Cur name flags = (had : Set) × ShowsFlags name had

-- What an effect may be, by its answer, among these names and where a unique name is fresh if no message ever had it:
-- Delivered adds a message to new, its name all unique part and fresh;
-- Flags(s) gives a name that is there, without other info, its flags and leaves it in cur, or finds them there already;
-- Copied adds a message to new or cur, its unique name fresh, and without other info;
-- Moved takes a name that is there to another folder; Expunged takes away a name of cur that shows the flag T.
abbrev pub IsAllowed : ℕ → Names → (List ℕ → Type 0) → Answer → Change → Type 0
IsAllowed folders m IsFresh answer.Delivered (change.Add folder place name size) =
    (folder < folders) × (place ≡ New) × IsTrue (is_message_name name) × (unique_of name ≡ name) × (info_text name ≡ None) × IsFresh name
IsAllowed folders m IsFresh (answer.Flags s) (change.Rename folder place name to_folder to_place to_name) =
    (folder < folders) × (to_folder ≡ folder) × (to_place ≡ Cur) × (to_name ≡ flagged (unique_of name) s)
    × IsThere m folder place name × MayGetFlags place name s
IsAllowed folders m IsFresh (answer.Flags s) change.Same =
    (folder : ℕ) × (name : List ℕ) × (folder < folders) × IsThere m folder Cur name × ShowsFlags name s
IsAllowed folders m IsFresh answer.Copied (change.Add folder place name size) =
    (folder < folders) × (place ≢ Tmp) × IsTrue (is_message_name name) × ((had : Set) × ShowsFlags name had) × IsFresh (unique_of name)
IsAllowed folders m IsFresh answer.Moved (change.Rename folder place name to_folder to_place to_name) =
    (folder < folders) × (to_folder < folders) × (folder ≢ to_folder) × (to_place ≡ place) × (to_name ≡ name) × IsThere m folder place name
IsAllowed folders m IsFresh answer.Expunged (change.Remove folder place name) =
    (folder < folders) × (place ≡ Cur) × IsThere m folder place name × ((had : Set) × ShowsFlags name had × IsTrue (set.contains had 84))
IsAllowed folders m IsFresh a c = ⊥

-- an effect is allowed after a history from the opening names
abbrev pub IsAllowedAfter : ℕ → Names → List Effect → Effect → Type 0
IsAllowedAfter folders opening history e = IsAllowed folders (names_after opening history) (WasNowhere opening history) e.answer e.change

-- no job has two effects, and each effect is allowed after those before it
pub record IsLegal (folders : ℕ) (opening : Names) (history : List Effect) : Type 0 where
  pub once : (i j : ℕ) (a b : Effect) → slice_get history i ≡ Some a → slice_get history j ≡ Some b → a.job ≡ b.job → i ≡ j
  pub each : (i : ℕ) (e : Effect) → slice_get history i ≡ Some e → IsAllowedAfter folders opening (take i history) e

-- What is kept of readings and of paths gives what listings go by.
use Rattle.std.proofs.Common.{ℕ, ◌≡◌, ◌≤◌, ◌||◌, not, List, Option, Some, None, Bool, is_some, true, false, refl, sym, ap, subst, ◌∙◌}
use Rattle.std.specs.List.{list_any}
use Rattle.std.specs.Str.{bytes_eq}
use Rattle.std.proofs.lemmas.Map.Made.{is_some-lookup}
use Rattle.indexmap.specs.IndexSet.{contains}
use Rattle.md_dirs.specs.Index.{directory_number}
use Rattle.md_dirs.specs.Path.{path_of}
use Rattle.md_dirs.specs.State.{State, file_at}
use Rattle.md_dirs.specs.declared.paths.Path.{Path}
use Rattle.md_dirs.specs.declared.paths.Place.{Place}
use Rattle.md_dirs.specs.declared.paths.Place.TheVariants.{New, Cur}
use Rattle.md_log.specs.declared.line.Call.{Call}
use Rattle.md_log.specs.declared.line.Call.TheVariants as call
use Rattle.md_log.specs.declared.line.Reply.{Reply}
use Rattle.md_log.specs.declared.line.Reply.TheVariants as reply
use Rattle.md_law.specs.Messages.{is_tmp}
use Rattle.md_law.specs.Readings.{Looker}
use Rattle.md_monitor.specs.Messages.{is_there}
use Rattle.md_monitor.specs.Readings.{ReadingKept, is_name_of}
use Rattle.md_kept.specs.declared.directory.Directory.{Directory}
use Rattle.md_watch.specs.declared.listings.Present.{Present}
use Rattle.md_kept.specs.declared.paths.Paths.{Paths}
use Rattle.md_watch.specs.declared.presences.Presences.{Presences}
use Rattle.md_watch.specs.declared.readings.Reading.{Reading}
use Rattle.md_kept.specs.Changes.{file_in}
use Rattle.md_kept.specs.Directories.{names_by, file_by, names_in, directory_in}
use Rattle.md_watch.specs.Readings.{IsReadingKept, TakesIn, Leaves}
use Rattle.md_watch.specs.Spells.{always_by, spell_at}

-- the call is a part of a reading
abbrev pub is_list : Call → Bool
is_list (call.List folder place r shown) = true
is_list c = false

-- ---- a reading that is complete

-- The reading of a directory is complete with a part that shows these names, by the step of a number.
pub record IsWhole (n : ℕ) (s : State) (p : Presences) (d : Looker) (kept : ReadingKept) (shown : List (List ℕ)) (r : Reading)
    : Type 0 where
  pub begun : r.begun ≤ n
  pub was_always : (unique : List ℕ) → kept.message_was_always unique
      ≡ always_by (is_there s d.folder unique) (spell_at p.messages d.folder unique) r.begun n
  pub is_shown : (unique : List ℕ) → contains bytes_eq r.uniques unique
      ≡ (list_any (is_name_of d unique) shown || kept.message_is_shown unique)

-- the call completes a reading of new or cur
abbrev pub is_completing : Call → Bool
is_completing (call.List folder place reply.Ok shown) = not (is_tmp place)
is_completing c = false

-- a part of a reading gives a whole one just where it is the last
module _ (n : ℕ) (d : Looker) (shown : List (List ℕ)) (o : Option Reading) (left : Option Reading) where
  pub is-whole : (to : Reply) (r : Reading) → Leaves n d shown o to left (Some r) → (to ≡ reply.Ok) × TakesIn n d shown o r
  is-whole reply.Ok r leaves = (refl, leaves.1)
  is-whole reply.More r leaves = let none = leaves.1 in absurd (cc)
  is-whole to r leaves = let none = leaves.1 in absurd (cc)

  pub no-whole : (folder : ℕ) (place : Place) (to : Reply) → Leaves n d shown o to left None
      → is_completing (call.List folder place to shown) ≡ false
  no-whole folder place reply.Ok leaves = absurd leaves.1
  no-whole folder place to leaves = refl

-- the whole reading, by what was kept of it before its last part
pub whole-is : (n : ℕ) (s : State) (p : Presences) (d : Looker) (kept : ReadingKept) (o : Option Reading) (shown : List (List ℕ))
    (r : Reading) → IsReadingKept n s p d kept o → TakesIn n d shown o r → IsWhole n s p d kept shown r
whole-is n s p d kept o shown r was takes = record {
  begun = subst (λ m. m ≤ n) (sym takes.begun) was.begun;
  was_always = λ unique. was.message_was_always unique
      ∙ ap (λ m. always_by (is_there s d.folder unique) (spell_at p.messages d.folder unique) m n) (sym takes.begun);
  is_shown = λ unique. takes.uniques unique ∙ ap (λ b. list_any (is_name_of d unique) shown || b) (sym (was.message_is_shown unique));
}

-- ---- directories

-- these are the names of a directory
abbrev pub AreNames : State → ℕ → Place → List (List ℕ) → Type 0
AreNames s folder place names = (name : List ℕ) → list_any (bytes_eq name) names ≡ is_some (file_at s (path_of folder place name))

-- what is there of a folder
pub record IsPresent (s : State) (p : Presences) (there : Present) : Type 0 where
  pub new : AreNames s there.folder New there.new.now
  pub cur : AreNames s there.folder Cur there.cur.now
  pub presences : there.presences.now ≡ p

-- a directory has the names that name files
names-are : (o : Option Directory) (name : List ℕ) → list_any (bytes_eq name) (names_by o) ≡ is_some (file_by o name)
names-are None name = refl
names-are (Some d) name = sym (is_some-lookup (bytes_eq name) d.files.entries)

module _ (s : State) (t : Paths) (same : (q : Path) → file_in t q ≡ file_at s q) where
  pub names-of : (folder : ℕ) (place : Place) → AreNames s folder place (names_in t (directory_number folder place))
  names-of folder place name =
      names-are (directory_in t (directory_number folder place)) name ∙ ap is_some (same (path_of folder place name))

  pub present-is : (p : Presences) (there : Present) → there.presences.now ≡ p
      → there.new.now ≡ names_in t (directory_number there.folder New) → there.cur.now ≡ names_in t (directory_number there.folder Cur)
      → IsPresent s p there
  present-is p there presences new cur = record {
    new = subst (AreNames s there.folder New) (sym new) (names-of there.folder New);
    cur = subst (AreNames s there.folder Cur) (sym cur) (names-of there.folder Cur);
    presences = presences;
  }

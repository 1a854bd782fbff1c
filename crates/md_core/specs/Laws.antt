-- The words of the laws in src/laws.rt: what names show of directories, where messages stay, and which jobs a run has.
use Rattle.std.specs.Prelude.{ℕ, ◌≡◌, ◌≢◌, ◌<◌, ◌≤◌, List, Option, Some, None, true, length, take}
use Rattle.std.specs.FinMap as finmap
use Rattle.md_dirs.specs.State.{State, file_at, file_by}
use Rattle.md_dirs.specs.declared.paths.Path.{Path}
use Rattle.md_dirs.specs.declared.paths.Place.{Place}
use Rattle.md_dirs.specs.declared.paths.Place.TheVariants.{Tmp, Cur}
use Rattle.md_name.specs.Names.{unique_of}
use Rattle.md_jobs.specs.declared.effect.Effect.{Effect}
use Rattle.md_core.specs.History.{Listed, Names, names_after}
use Rattle.md_core.specs.Mailbox.{bytes_of}
use Rattle.md_used.specs.Paths.{is_message}
use Rattle.md_core.specs.Runs.{Run, jobs_of}

-- what can be seen of a path whose file has this number
abbrev pub listed_at : State → Path → ℕ → Listed
listed_at s p n = record { folder = p.folder; place = p.place; name = p.name; size = length (bytes_of (file_by s.files n)) }

-- a message of this unique name has a path, of which this can be seen
pub record HasPath (s : State) (u : List ℕ) (x : Listed) : Type 0 where
  pub path : Path
  pub file : ℕ
  pub there : file_at s path ≡ Some file
  pub message : is_message path ≡ true
  pub unique : unique_of path.name ≡ u
  pub shown : listed_at s path file ≡ x

-- a message is in such a place, or nowhere
abbrev pub IsPlaced : (Place → Type 0) → Option Listed → Type 0
IsPlaced P None = Unit {0}
IsPlaced P (Some message) = P message.place

-- a message is in cur, or gone
abbrev pub IsInCur : Option Listed → Type 0
IsInCur = IsPlaced (λ p. p ≡ Cur)

-- a message is in new or cur, or nowhere
abbrev pub IsNotInTmp : Option Listed → Type 0
IsNotInTmp = IsPlaced (λ p. p ≢ Tmp)

-- along a history no name comes to tmp, and a message that is in cur at a moment is in cur at each later one, or gone
pub record KeepsPlaces (opening : Names) (history : List Effect) : Type 0 where
  pub never_in_tmp : (u : List ℕ) → IsNotInTmp (finmap.get opening u) → (k : ℕ)
      → IsNotInTmp (finmap.get (names_after opening (take k history)) u)
  pub stays_in_cur : (i j : ℕ) → i ≤ j → (u : List ℕ) (x : Listed) → finmap.get (names_after opening (take i history)) u ≡ Some x
      → x.place ≡ Cur → IsInCur (finmap.get (names_after opening (take j history)) u)

-- a run has a job of this number
pub record HasJob (r : Run) (job : ℕ) : Type 0 where
  pub from : 0 < job
  pub within : job ≤ length (jobs_of r)

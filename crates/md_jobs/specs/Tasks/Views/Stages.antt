-- What the definitions see of how far the code's tasks have come.
use Rattle.std.specs.Prelude.{ℕ, List, [], ◌∷◌, drop}
use Rattle.md_dirs.specs.declared.paths.Path.{Path}
use Rattle.md_jobs.specs.Tasks.Errand as errand
use Rattle.md_jobs.specs.Tasks.Cleaning as cleaning
use Rattle.md_jobs.specs.declared.errand.Stage.{Stage as ErrandStage}
use Rattle.md_jobs.specs.declared.errand.Stage.TheVariants as errand_at
use Rattle.md_jobs.specs.declared.cleaning.Stage.{Stage as CleaningStage}
use Rattle.md_jobs.specs.declared.cleaning.Stage.TheVariants as cleaning_at

-- how far an errand has come, by the path where it looks, or that it found, as the definitions see it
abbrev pub errand_stage : Path → ErrandStage → errand.Stage
errand_stage path (errand_at.Look tries) = errand.Look path.place tries
errand_stage path (errand_at.Act stamp size tries) = errand.Act path.place (record { name = path.name; stamp = stamp; size = size }) tries

-- the name that is next, and no byte where none is left
abbrev pub next_of : List (List ℕ) → List ℕ
next_of [] = []
next_of (name ∷ rest) = name

-- how far a clean has come, as the definitions see it
abbrev pub cleaning_stage : CleaningStage → cleaning.Stage
cleaning_stage cleaning_at.Look = cleaning.Look
cleaning_stage (cleaning_at.Remove old files) = cleaning.Remove (next_of old.items) (drop 1 old.items) files

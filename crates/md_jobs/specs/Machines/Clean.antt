-- The machine of a clean: it lists tmp of its folder, and takes away each name whose file has not been used for 36 hours, one at a turn, in
-- their order.
use Rattle.std.specs.Prelude.{ℕ, ◌+◌, ◌-◌, List, [], ◌∷◌, Bool, nat_le, map, filter, length}
use Rattle.md_dirs.specs.Path.{path_of as path}
use Rattle.md_dirs.specs.Rows.{rows_of}
use Rattle.md_dirs.specs.State.{State}
use Rattle.md_dirs.specs.declared.paths.Path.{Path}
use Rattle.md_dirs.specs.declared.paths.Place.TheVariants.{Tmp}
use Rattle.md_dirs.specs.declared.rows.Row.{Row}
use Rattle.md_jobs.specs.Turn.{Turn, After, goes_on, ends}
use Rattle.md_jobs.specs.Asked.{list, unlink}
use Rattle.md_jobs.specs.declared.answer.Answer.TheVariants as answer
use Rattle.md_jobs.specs.Machines.Refusals.{refuses}
use Rattle.md_jobs.specs.declared.refusal.Refusal.TheVariants.{Fault}
use Rattle.md_jobs.specs.Tasks.Cleaning.{Cleaning, Stage, Look, Remove}
use Rattle.md_jobs.specs.declared.step.DirReply.{DirReply}
use Rattle.md_jobs.specs.declared.step.DirReply.TheVariants as reply

-- a clean of a folder, not begun
abbrev pub new_cleaning : ℕ → Cleaning
new_cleaning folder = record { folder = folder; stage = Look }

-- the clean, at another stage
abbrev pub at_stage : Cleaning → Stage → Cleaning
at_stage c stage = record c { stage = stage }

-- the path of a name in tmp
abbrev pub tmp : Cleaning → List ℕ → Path
tmp c name = path c.folder Tmp name

-- a file of tmp may be removed that has not been used for 36 hours, in seconds
abbrev pub least_seconds : ℕ
least_seconds = 129600

-- whether a row's file has not been used for so long, by the clock of the job. A clock that is before the stamp counts as no time
abbrev pub is_old : ℕ → Row → Bool
is_old own row = nat_le least_seconds (own - row.stamp)

-- the rows whose files are old
abbrev pub old_rows : ℕ → List Row → List Row
old_rows own rows = filter (is_old own) rows

-- the names of the rows whose files are old
abbrev pub old_names : ℕ → List Row → List (List ℕ)
old_names own rows = map (λ row. row.name) (old_rows own rows)

-- The names that are left are taken away one by one. So many files will be removed by then, if none of those that are left is gone before.
abbrev pub after_next : Cleaning → List (List ℕ) → ℕ → After Cleaning
after_next c [] files = ends c (answer.Cleaned files)
after_next c (name ∷ rest) files = goes_on (at_stage c (Remove name rest files))

-- how it goes on from the names of old files in the listing; so many files will be removed
abbrev pub after_old : Cleaning → List (List ℕ) → After Cleaning
after_old c old = after_next c old (length old)

-- how it goes on after the listing; directories that can't be listed end it with Fault
abbrev pub after_look : Cleaning → ℕ → DirReply → List Row → After Cleaning
after_look c own reply.Ok rows = after_old c (old_names own rows)
after_look c own reply.Exists rows = refuses c Fault
after_look c own reply.NotFound rows = refuses c Fault
after_look c own reply.Fault rows = refuses c Fault

-- a name that is gone was not removed by this job
abbrev pub after_unlink : Cleaning → List (List ℕ) → ℕ → DirReply → After Cleaning
after_unlink c rest files reply.Ok = after_next c rest files
after_unlink c rest files reply.Exists = refuses c Fault
after_unlink c rest files reply.NotFound = after_next c rest (files - 1)
after_unlink c rest files reply.Fault = refuses c Fault

-- the listing of tmp
abbrev pub look_turn : Cleaning → ℕ → Turn Cleaning
look_turn c own = record { asked = list c.folder Tmp; follows = λ r rows. after_look c own r rows }

-- the unlink of a name of tmp
abbrev pub unlink_turn : Cleaning → List ℕ → List (List ℕ) → ℕ → Turn Cleaning
unlink_turn c name rest files = record { asked = unlink (tmp c name); follows = λ r rows. after_unlink c rest files r }

-- the turn at a stage
abbrev pub stage_turn : Cleaning → ℕ → Stage → Turn Cleaning
stage_turn c own Look = look_turn c own
stage_turn c own (Remove name rest files) = unlink_turn c name rest files

-- the turn of a clean that has no answer, at the moment of its own clock
abbrev pub cleaning_turn : Cleaning → ℕ → Turn Cleaning
cleaning_turn c own = stage_turn c own c.stage

-- How many steps a clean takes at most from a stage to its answer: the listing, and one for each name of tmp.
abbrev pub steps_left : State → ℕ → Stage → ℕ
steps_left s folder Look = 1 + length (rows_of s folder Tmp)
steps_left s folder (Remove name rest files) = 1 + length rest

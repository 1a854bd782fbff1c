-- What is checked of a call when it is submitted, and in which order.
use Rattle.std.specs.Prelude.{ℕ, List, [], ◌∷◌, Option, Some, None, Bool, false}
use Rattle.std.specs.Prelude.{◌&&◌, ◌||◌, ◌==◌, not, nat_lt, nat_le, ◌++◌, if◌then◌else◌, length}
use Rattle.std.specs.List.{list_any}
use Rattle.std.specs.Str.{bytes_eq}
use Rattle.std.specs.FinMap as finmap
use Rattle.md_dirs.specs.declared.paths.Path.{Path}
use Rattle.md_name.specs.Names.{unique_of, is_unique_name}
use Rattle.md_jobs.specs.declared.error.CoreError.{CoreError}
use Rattle.md_jobs.specs.declared.error.CoreError.TheVariants as core
use Rattle.md_jobs.specs.declared.call.Call.{Call}
use Rattle.md_jobs.specs.declared.call.Call.TheVariants.{Deliver, Seen, Flag, Move, Expunge, Copy, Clean}
use Rattle.md_used.specs.Paths.{is_tmp, is_message}
use Rattle.md_core.specs.Runs.{Run}

-- a body has at most 16 MiB
abbrev pub most_bytes : ℕ
most_bytes = 16777216

-- the most jobs of a store
abbrev pub most_jobs : ℕ
most_jobs = 10000

-- the most tries of a call
abbrev pub most_tries : ℕ
most_tries = 16

-- the name that a path uses up: all of it in tmp, and the unique part of a message
abbrev pub uses : List ℕ → Path → Bool
uses u p = if is_tmp p.place then bytes_eq p.name u else is_message p && bytes_eq (unique_of p.name) u

-- whether a call makes a message of the name: a delivery or a copy
abbrev pub makes : List ℕ → Call → Bool
makes u (Deliver folder unique body chunk) = bytes_eq unique u
makes u (Copy folder unique to fresh tries) = bytes_eq fresh u
makes u call = false

-- a name is used from the submit of its delivery or copy on, for the rest of the run, and so are those of the directories at its beginning
abbrev pub is_used : Run → List ℕ → Bool
is_used r u = list_any (λ e. uses u e.0) (finmap.entries r.image.names) || list_any (makes u) r.calls

-- the error of the first check that fails
abbrev pub first_met : List (Bool × CoreError) → Option CoreError
first_met [] = None
first_met (check ∷ checks) = if check.0 then Some check.1 else first_met checks

-- no folder of that number is there, where there are so many
abbrev pub no_folder : ℕ → ℕ → Bool
no_folder folders folder = nat_le folders folder

-- no try, or more than the most
abbrev pub bad_tries : ℕ → Bool
bad_tries tries = tries == 0 || nat_lt most_tries tries

-- as many jobs are there as may be
abbrev pub too_many : Run → Bool
too_many r = nat_le most_jobs (length r.calls)

-- the checks of a call that looks for one message and acts on it, by its words and by how many folders there are
abbrev pub checks_of_look_up : ℕ → ℕ → List ℕ → ℕ → List (Bool × CoreError)
checks_of_look_up folders folder unique tries =
    (no_folder folders folder, core.NoFolder) ∷ (not (is_unique_name unique), core.BadUnique) ∷ (bad_tries tries, core.BadTries) ∷ []

-- the checks of a call by its words, and by how many folders there are, in their order: each with the error that it gives where it is met
abbrev pub checks_of_words : ℕ → Call → List (Bool × CoreError)
checks_of_words folders (Deliver folder unique body chunk) =
    (no_folder folders folder, core.NoFolder) ∷ (not (is_unique_name unique), core.BadUnique) ∷ (chunk == 0, core.BadChunk)
    ∷ (nat_lt most_bytes (length body), core.BodyTooLong) ∷ []
checks_of_words folders (Seen folder unique flags tries) = checks_of_look_up folders folder unique tries
checks_of_words folders (Flag folder unique add remove tries) = checks_of_look_up folders folder unique tries
checks_of_words folders (Move folder unique to tries) =
    (no_folder folders folder || no_folder folders to, core.NoFolder) ∷ (to == folder, core.SameFolder)
    ∷ (not (is_unique_name unique), core.BadUnique) ∷ (bad_tries tries, core.BadTries) ∷ []
checks_of_words folders (Expunge folder unique tries) = checks_of_look_up folders folder unique tries
checks_of_words folders (Copy folder unique to fresh tries) =
    (no_folder folders folder || no_folder folders to, core.NoFolder)
    ∷ (not (is_unique_name unique) || not (is_unique_name fresh), core.BadUnique) ∷ (bad_tries tries, core.BadTries) ∷ []
checks_of_words folders (Clean folder) = (no_folder folders folder, core.NoFolder) ∷ []

-- all checks of a call but that of the name that it makes
abbrev pub early_checks : Run → Call → List (Bool × CoreError)
early_checks r call = checks_of_words r.image.folders call ++ (too_many r, core.TooManyJobs) ∷ []

-- that one, which comes last
abbrev pub late_checks : Run → Call → List (Bool × CoreError)
late_checks r (Deliver folder unique body chunk) = (is_used r unique, core.NameUsed) ∷ []
late_checks r (Copy folder unique to fresh tries) = (is_used r fresh, core.NameUsed) ∷ []
late_checks r call = []

-- all its checks, in their order
abbrev pub checks : Run → Call → List (Bool × CoreError)
checks r call = early_checks r call ++ late_checks r call

-- where a call is refused, out of memory aside
abbrev pub submit_refusal : Run → Call → Option CoreError
submit_refusal r call = first_met (checks r call)

-- where it is refused by its early checks
abbrev pub early_refusal : Run → Call → Option CoreError
early_refusal r call = first_met (early_checks r call)

-- why it is refused where it is not: by the last check, or else by want of memory
abbrev pub late_refusal : Run → Call → CoreError
late_refusal r (Deliver folder unique body chunk) = if is_used r unique then core.NameUsed else core.NoMemory
late_refusal r (Copy folder unique to fresh tries) = if is_used r fresh then core.NameUsed else core.NoMemory
late_refusal r call = core.NoMemory

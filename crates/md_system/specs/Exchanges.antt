-- Directory calls that were made, with what was heard of each, and what they are of a job.
use Rattle.std.specs.Prelude.{ℕ, ◌≡◌, ◌++◌, List, [], ◌∷◌, None, Some, map}
use Rattle.md_dirs.specs.Rows.{old_names}
use Rattle.md_dirs.specs.declared.paths.Place.TheVariants.{Tmp}
use Rattle.md_dirs.specs.declared.rows.Row.{Row}
use Rattle.md_jobs.specs.Asked.{Asked, list}
use Rattle.md_jobs.specs.Made.{Heard, made, answer_in}
use Rattle.md_jobs.specs.Turn.{Turn}
use Rattle.md_jobs.specs.declared.answer.Answer.{Answer}
use Rattle.md_jobs.specs.declared.step.DirReply.{DirReply}
use Rattle.md_jobs.specs.declared.step.Moment.{Moment}

-- a directory call that was made, and what was heard of it
pub record Exchange : Type 0 where
  pub asked : Asked
  pub heard : Heard

-- a call at a second by the clock of this host, its reply, and of a reading its rows
abbrev pub exchange : Asked → ℕ → DirReply → List Row → Exchange
exchange asked second reply rows =
    record { asked = asked; heard = record { at = record { clock = second; own = second }; reply = reply; rows = rows } }

-- Tmp of a folder was read at a second, and these are the names of the rows whose files were not used for so many seconds.
pub record ReadsOld (folder seconds second : ℕ) (old new : List Exchange) (reply : DirReply) (names : List (List ℕ)) : Type 0 where
  pub rows : List Row
  pub logged : new ≡ old ++ exchange (list folder Tmp) second reply rows ∷ []
  pub unused : names ≡ old_names second seconds rows

-- what was heard of calls, in their order
abbrev pub heard_of : List Exchange → List Heard
heard_of calls = map (λ c. c.heard) calls

-- A job made these calls: it asked for each of them as it heard what was replied to those before.
abbrev pub IsRun : {T : Type 0} → (T → Moment → Turn T) → T → List Exchange → Type 0
IsRun turn t calls = map (λ m. m.asked) (made turn t (heard_of calls)) ≡ map (λ c. c.asked) calls

-- A job was run to its answer: these are all its calls, and none besides was made meanwhile.
pub record Ran {T : Type 0} (turn : T → Moment → Turn T) (t : T) (old new : List Exchange) (answer : Answer) : Type 0 where
  pub calls : List Exchange
  pub logged : new ≡ old ++ calls
  pub run : IsRun turn t calls
  pub answered : answer_in (made turn t (heard_of calls)) ≡ Some answer

-- A job was run for a while, and then memory was wanting: before the next call, never after one that was made.
pub record Began {T : Type 0} (turn : T → Moment → Turn T) (t : T) (old new : List Exchange) : Type 0 where
  pub calls : List Exchange
  pub logged : new ≡ old ++ calls
  pub run : IsRun turn t calls
  pub unanswered : answer_in (made turn t (heard_of calls)) ≡ None

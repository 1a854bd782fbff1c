-- What a job does over a list of replies, whatever they are: the calls that it makes until it has its answer.
use Rattle.std.specs.Prelude.{◌&&◌, List, [], ◌∷◌, Option, Some, None, Bool, true, false, is_some, if◌then◌else◌}
use Rattle.std.specs.List.{filter_map}
use Rattle.md_dirs.specs.declared.paths.Path.{Path}
use Rattle.md_dirs.specs.declared.rows.Row.{Row}
use Rattle.md_jobs.specs.Asked.{Asked, unlink}
use Rattle.md_jobs.specs.Turn.{Turn}
use Rattle.md_jobs.specs.declared.answer.Answer.{Answer}
use Rattle.md_jobs.specs.declared.effect.Effect.{Effect}
use Rattle.md_jobs.specs.declared.step.DirReply.{DirReply}
use Rattle.md_jobs.specs.declared.step.DirReply.TheVariants as reply
use Rattle.md_jobs.specs.declared.step.Moment.{Moment}

-- what a job hears at a call: the moment, the reply, and of a listing that was done its rows
pub record Heard : Type 0 where
  pub at : Moment
  pub reply : DirReply
  pub rows : List Row

-- a call that a job made: what it asked, the reply, and the job's answer and its effect where they came with it
pub record Made : Type 0 where
  pub asked : Asked
  pub reply : DirReply
  pub answer : Option Answer
  pub effect : Option Effect

-- the calls that a job makes as it hears one reply after another, up to its answer
unfoldable pub made : {T : Type 0} → (T → Moment → Turn T) → T → List Heard → List Made
made turn t [] = []
made turn t (h ∷ hs) =
    let now = turn t h.at in
    let after = now.follows h.reply h.rows in
    record { asked = now.asked; reply = h.reply; answer = after.answer; effect = after.effect }
    ∷ (if is_some after.answer then [] else made turn after.task hs)

-- the effects of calls
abbrev pub effects : List Made → List Effect
effects calls = filter_map (λ m. m.effect) calls

-- the answer that came with one of the calls
unfoldable pub answer_in : List Made → Option Answer
answer_in [] = None
answer_in (m ∷ ms) = if is_some m.answer then m.answer else answer_in ms

-- the path of an unlink
abbrev pub unlinked : Asked → Option Path
unlinked (unlink p) = Some p
unlinked asked = None

-- the paths that calls take away, or try to, in their order
abbrev pub unlinks : List Made → List Path
unlinks calls = filter_map (λ m. unlinked m.asked) calls

-- whether a call was done
abbrev pub is_done : DirReply → Bool
is_done reply.Ok = true
is_done r = false

-- whether a call took a name away
abbrev pub takes_away : Made → Bool
takes_away m = is_some (unlinked m.asked) && is_done m.reply

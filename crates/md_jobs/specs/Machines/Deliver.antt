-- The machine of a delivery: "Using maildir format", steps 3 to 6. It makes tmp/unique, writes it piece by piece, links it to
-- new/unique, which is where the message is delivered, and then takes tmp/unique away. It gives up 24 hours after its first step.
use Rattle.std.specs.Prelude.{ℕ, ◌+◌, ◌-◌, List, Bool, nat_lt, min, take, drop, length, if◌then◌else◌}
use Rattle.md_dirs.specs.declared.paths.Path.{Path}
use Rattle.md_dirs.specs.declared.paths.Place.TheVariants.{Tmp, New}
use Rattle.md_dirs.specs.Path.{path_of as path}
use Rattle.md_jobs.specs.Turn.{Turn, After, goes_on, ends, acts}
use Rattle.md_jobs.specs.Asked.{create, append, link, unlink}
use Rattle.md_jobs.specs.Pieces.{pieces_of}
use Rattle.md_jobs.specs.declared.answer.Answer.{Answer}
use Rattle.md_jobs.specs.declared.answer.Answer.TheVariants as answer
use Rattle.md_jobs.specs.declared.effect.Change.TheVariants.{Add}
use Rattle.md_jobs.specs.declared.effect.Effect.{Effect}
use Rattle.md_jobs.specs.declared.step.Moment.{Moment}
use Rattle.md_jobs.specs.declared.step.DirReply.{DirReply}
use Rattle.md_jobs.specs.declared.step.DirReply.TheVariants as reply
use Rattle.md_jobs.specs.Machines.Refusals.{refused_by, refuses}
use Rattle.md_jobs.specs.declared.refusal.Refusal.TheVariants.{NameTaken, TimedOut, TmpGone, Fault}
use Rattle.md_jobs.specs.Tasks.Delivery.{Delivery, Stage, Start, Writing, Linked, Undo}

-- a delivery of a body under a unique name, not begun
abbrev pub new_delivery : ℕ → List ℕ → List ℕ → ℕ → Delivery
new_delivery folder unique body chunk = record { tmp = path folder Tmp unique; body = body; chunk = chunk; stage = Start }

-- the delivery, at another stage
abbrev pub at_stage : Delivery → Stage → Delivery
at_stage d stage = record d { stage = stage }

-- the path at which the message is delivered
abbrev pub target : Delivery → Path
target d = path d.tmp.folder New d.tmp.name

-- how many bytes are written next, after the first k
abbrev pub piece_len : Delivery → ℕ → ℕ
piece_len d k = min d.chunk (length d.body - k)

-- the bytes that are written next
abbrev pub piece : Delivery → ℕ → List ℕ
piece d k = take (piece_len d k) (drop k d.body)

-- the effect of a delivery: the message is in new
abbrev pub delivery_effect : ℕ → Delivery → Effect
delivery_effect job d = record { job = job; answer = answer.Delivered; change = Add d.tmp.folder New d.tmp.name (length d.body) }

-- a delivery is given up after 24 hours, in seconds
abbrev pub most_seconds : ℕ
most_seconds = 86400

-- whether a delivery that began at this moment is in time at that one, both by its own clock. A clock that went back counts as none
abbrev pub is_in_time : ℕ → ℕ → Bool
is_in_time start own = nat_lt (own - start) most_seconds

-- how it goes on after the create
abbrev pub after_create : Delivery → ℕ → DirReply → After Delivery
after_create d own reply.Ok = goes_on (at_stage d (Writing own 0))
after_create d own reply.Exists = refuses d NameTaken
after_create d own reply.NotFound = refuses d Fault
after_create d own reply.Fault = refuses d Fault

-- how it goes on after an append; a fault is answered once its file is unlinked
abbrev pub after_append : Delivery → ℕ → ℕ → DirReply → After Delivery
after_append d start k reply.Ok = goes_on (at_stage d (Writing start (k + piece_len d k)))
after_append d start k reply.Exists = refuses d Fault
after_append d start k reply.NotFound = refuses d TmpGone
after_append d start k reply.Fault = goes_on (at_stage d (Undo Fault))

-- how it goes on after the link, which is its effect where it is done
abbrev pub after_link : ℕ → Delivery → DirReply → After Delivery
after_link job d reply.Ok = acts (at_stage d Linked) (delivery_effect job d)
after_link job d reply.Exists = goes_on (at_stage d (Undo NameTaken))
after_link job d reply.NotFound = refuses d TmpGone
after_link job d reply.Fault = goes_on (at_stage d (Undo Fault))

-- the create of its path in tmp
abbrev pub create_turn : Delivery → ℕ → Turn Delivery
create_turn d own = record { asked = create d.tmp; follows = λ r rows. after_create d own r }

-- the append of the next piece
abbrev pub append_turn : Delivery → ℕ → ℕ → Turn Delivery
append_turn d start k = record { asked = append d.tmp (piece d k); follows = λ r rows. after_append d start k r }

-- the link from tmp to new
abbrev pub link_turn : ℕ → Delivery → Turn Delivery
link_turn job d = record { asked = link d.tmp (target d); follows = λ r rows. after_link job d r }

-- whatever the reply is
abbrev pub unlink_turn : Delivery → Answer → Turn Delivery
unlink_turn d a = record { asked = unlink d.tmp; follows = λ r rows. ends d a }

-- the next piece, or the link after the last; and once it is not in time, the unlink
abbrev pub writing_turn : ℕ → Delivery → ℕ → ℕ → ℕ → Turn Delivery
writing_turn job d own start k =
    if is_in_time start own then (if nat_lt k (length d.body) then append_turn d start k else link_turn job d)
    else unlink_turn d (refused_by TimedOut)

-- the turn at a stage
abbrev pub stage_turn : ℕ → Delivery → Moment → Stage → Turn Delivery
stage_turn job d at Start = create_turn d at.own
stage_turn job d at (Writing start k) = writing_turn job d at.own start k
stage_turn job d at Linked = unlink_turn d answer.Delivered
stage_turn job d at (Undo refusal) = unlink_turn d (refused_by refusal)

-- the turn of a delivery that has no answer
abbrev pub delivery_turn : ℕ → Delivery → Moment → Turn Delivery
delivery_turn job d at = stage_turn job d at d.stage

-- how many steps a delivery takes at most from a stage to its answer
abbrev pub steps_left : Delivery → Stage → ℕ
steps_left d Start = pieces_of (length d.body) d.chunk + 3
steps_left d (Writing start k) = pieces_of (length d.body - k) d.chunk + 2
steps_left d Linked = 1
steps_left d (Undo refusal) = 1

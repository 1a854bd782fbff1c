-- What calls on paths answer, by a function from paths to files and the number of folders.
use Rattle.std.specs.Prelude.{ℕ, ◌&&◌, Option, Bool, false, not, nat_lt, is_some, if◌then◌else◌}
use Rattle.md_law.specs.Values.{Path, Call, Deed, Naming, Reply}
use Rattle.md_log.specs.declared.line.Call.TheVariants as call
use Rattle.md_log.specs.declared.line.Deed.TheVariants as deed
use Rattle.md_log.specs.declared.line.Naming.TheVariants as naming
use Rattle.md_log.specs.declared.line.Reply.TheVariants as reply
use Rattle.md_monitor.specs.Files.{is_fault}
use Rattle.md_monitor.specs.Judged.{is_reply}

-- the reply is another than the one that the directories give; any call may fail
abbrev pub is_wrong_answer : Reply → Reply → Bool
is_wrong_answer r answer = not (is_fault r) && not (is_reply r answer)

-- to a call on a path that is there
abbrev pub answer_old : (Path → Option ℕ) → Path → Reply
answer_old file_at p = if is_some (file_at p) then reply.Ok else reply.NotFound

-- to one that makes or replaces the path
abbrev pub answer_into : ℕ → Path → Reply
answer_into folders p = if nat_lt p.folder folders then reply.Ok else reply.NotFound

-- to one that makes it
abbrev pub answer_new : (Path → Option ℕ) → ℕ → Path → Reply
answer_new file_at folders p =
    if nat_lt p.folder folders then (if is_some (file_at p) then reply.Exists else reply.Ok) else reply.NotFound

-- to a call on one path
abbrev pub answer_at : (Path → Option ℕ) → ℕ → Deed → Path → Reply
answer_at file_at folders deed.Create p = answer_new file_at folders p
answer_at file_at folders d p = answer_old file_at p

-- to a link and a rename, by the new path
abbrev pub answer_by : (Path → Option ℕ) → ℕ → Naming → Path → Reply
answer_by file_at folders naming.Link new = answer_new file_at folders new
answer_by file_at folders naming.Rename new = answer_into folders new

-- and by both
abbrev pub answer_between : (Path → Option ℕ) → ℕ → Naming → Path → Path → Reply
answer_between file_at folders n old new = if is_some (file_at old) then answer_by file_at folders n new else reply.NotFound

-- a call on paths is answered as the directories never answer it
abbrev pub is_wrong : (Path → Option ℕ) → ℕ → Call → Bool
is_wrong file_at folders (call.At d p r) = is_wrong_answer r (answer_at file_at folders d p)
is_wrong file_at folders (call.Between n old new r) = is_wrong_answer r (answer_between file_at folders n old new)
is_wrong file_at folders c = false

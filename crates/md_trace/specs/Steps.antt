-- Steps and their effects, as a log has them.
use Rattle.std.specs.Prelude.{ℕ, List, [], ◌++◌, codes}
use Rattle.std.specs.Fmt.{decimal}
use Rattle.md_core.specs.declared.DirCall.{DirCall}
use Rattle.md_core.specs.declared.DirCall.TheVariants as made
use Rattle.md_core.specs.declared.DirReply.{DirReply}
use Rattle.md_core.specs.declared.DirReply.TheVariants as reply
use Rattle.md_core.specs.declared.Change.{Change}
use Rattle.md_core.specs.declared.Change.TheVariants as change
use Rattle.md_core.specs.declared.Event.{Event}
use Rattle.md_core.specs.declared.StepOut.{StepOut}
use Rattle.md_dirs.specs.Rows.{rows_of}
use Rattle.md_dirs.specs.State.{State}
use Rattle.md_text.specs.Places.{place_text}
use Rattle.md_trace.specs.declared.noted.Noted.{Noted}
use Rattle.md_trace.specs.declared.noted.Noted.TheVariants as noted
use Rattle.md_trace.specs.declared.text.Log.{Log}
use Rattle.md_trace.specs.Growing.{folder_in, path_text}
use Rattle.md_trace.specs.Rows.{names_text}

-- a call
abbrev pub call_text : DirCall → List ℕ
call_text made.Create = codes " create"
call_text (made.Append size) = codes " write"
call_text made.Link = codes " link"
call_text made.Rename = codes " rename"
call_text made.Unlink = codes " unlink"
call_text (made.List place) = codes " list"

-- a reply
abbrev pub reply_text : DirReply → List ℕ
reply_text reply.Ok = codes " ok"
reply_text reply.Exists = codes " exists"
reply_text reply.NotFound = codes " notfound"
reply_text reply.Fault = codes " fault"

-- what a call was made of
abbrev pub noted_text : Log → Noted → List ℕ
noted_text log (noted.One path) = path_text log path.folder path.place path.name
noted_text log (noted.Two old new) = path_text log old.folder old.place old.name ++ path_text log new.folder new.place new.name
noted_text log (noted.Directory folder place) = codes " " ++ folder_in log folder ++ codes " " ++ place_text place

-- the names that a listing showed, by the directories after it
abbrev pub shown_text : State → DirReply → Noted → List ℕ
shown_text s reply.Ok (noted.Directory folder place) = names_text (rows_of s folder place)
shown_text s r note = []

-- the line of a step: `MOMENT jobJOB`, the call with its paths, the reply, and what a listing showed
abbrev pub step_text : Log → State → Event → StepOut → Noted → List ℕ
step_text log s event out note =
    decimal event.now ++ codes " job" ++ decimal event.job ++ call_text out.call ++ noted_text log note ++ reply_text out.reply
    ++ shown_text s out.reply note ++ codes "\n"

-- a change
abbrev pub change_text : Log → Change → List ℕ
change_text log (change.Add folder place name size) = codes "add" ++ path_text log folder place name ++ codes " " ++ decimal size
change_text log (change.Rename folder place name to to_place to_name) =
    codes "rename" ++ path_text log folder place name ++ path_text log to to_place to_name
change_text log (change.Remove folder place name) = codes "remove" ++ path_text log folder place name
change_text log change.Same = codes "same"

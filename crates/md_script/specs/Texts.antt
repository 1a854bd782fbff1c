-- What is printed. Each line ends with a line feed.
use Rattle.std.specs.Prelude.{ℕ, ℤ, List, [], ◌∷◌, ◌++◌, Option, Some, None, flat_map, codes}
use Rattle.std.specs.Fmt.{decimal, signed_decimal}
use Rattle.md_name.specs.Letters.{Set, spelling}
use Rattle.md_name.specs.declared.info.Info.{Info}
use Rattle.md_name.specs.Names.{split_of, flags_of}
use Rattle.md_name.specs.Made.{made_unique}
use Rattle.md_head.specs.declared.shown.Summary.{Summary}
use Rattle.md_jobs.specs.declared.answer.Answer.{Answer}
use Rattle.md_jobs.specs.declared.answer.Answer.TheVariants as answer
use Rattle.md_jobs.specs.declared.step.DirCall.{DirCall}
use Rattle.md_jobs.specs.declared.step.DirCall.TheVariants as dir
use Rattle.md_jobs.specs.declared.step.DirReply.{DirReply}
use Rattle.md_jobs.specs.declared.step.DirReply.TheVariants as reply
use Rattle.md_jobs.specs.declared.step.StepOut.{StepOut}
use Rattle.md_listing.specs.declared.entry.Entry.{Entry}
use Rattle.md_text.specs.Escapes.{escape_all}
use Rattle.md_text.specs.Places.{place_text}

-- LF
abbrev pub line_end : List ℕ
line_end = 10 ∷ []

-- the words of a directory call
abbrev pub call_text : DirCall → List ℕ
call_text dir.Create = codes "create"
call_text (dir.Append n) = codes "append " ++ decimal n
call_text dir.Link = codes "link"
call_text dir.Rename = codes "rename"
call_text dir.Unlink = codes "unlink"
call_text (dir.List place) = codes "list " ++ place_text place

-- the word of a reply
abbrev pub reply_text : DirReply → List ℕ
reply_text reply.Ok = codes "ok"
reply_text reply.Exists = codes "exists"
reply_text reply.NotFound = codes "notfound"
reply_text reply.Fault = codes "fault"

-- the letters of a set in ASCII order, and a hyphen for the empty set
abbrev pub letters_text : List ℕ → List ℕ
letters_text [] = codes "-"
letters_text (c ∷ letters) = c ∷ letters

-- the words of an answer
abbrev pub answer_text : Answer → List ℕ
answer_text answer.Delivered = codes "delivered"
answer_text (answer.Flags s) = codes "flags " ++ letters_text (spelling s)
answer_text answer.Moved = codes "moved"
answer_text answer.Copied = codes "copied"
answer_text answer.Expunged = codes "expunged"
answer_text (answer.Cleaned n) = codes "cleaned " ++ decimal n
answer_text answer.NotThere = codes "notthere"
answer_text answer.NotTrashed = codes "nottrashed"
answer_text answer.OtherInfo = codes "otherinfo"
answer_text answer.Lost = codes "lost"
answer_text answer.TimedOut = codes "timedout"
answer_text answer.TmpGone = codes "tmpgone"
answer_text answer.NameTaken = codes "nametaken"
answer_text answer.Fault = codes "fault"

-- `job J`
abbrev pub job_text : ℕ → List ℕ
job_text job = codes "job " ++ decimal job ++ line_end

-- `J answer A`
abbrev pub answer_line : ℕ → Option Answer → List ℕ
answer_line job None = []
answer_line job (Some a) = decimal job ++ codes " answer " ++ answer_text a ++ line_end

-- `J CALL REPLY`, and the answer line where the job is answered
abbrev pub out_text : ℕ → StepOut → List ℕ
out_text job out =
    decimal job ++ codes " " ++ call_text out.call ++ codes " " ++ reply_text out.reply ++ line_end ++ answer_line job out.answer

-- what a step shows, where it was taken
abbrev pub shown_text : ℕ → Option StepOut → List ℕ
shown_text job None = []
shown_text job (Some out) = out_text job out

-- the flags of an entry: letters, a hyphen where there are none, a question mark for other info
abbrev pub flags_text : Option Set → List ℕ
flags_text None = codes "?"
flags_text (Some s) = letters_text (spelling s)

-- what a name says of flags: none where its info is other than flags
abbrev pub flags_by : Option (List ℕ × Info) → Option Set
flags_by None = None
flags_by (Some parts) = flags_of parts.1

-- `PLACE UNIQUE FLAGS SIZE`
abbrev pub entry_line : Entry → List ℕ
entry_line e =
    place_text e.place ++ codes " " ++ e.unique ++ codes " " ++ flags_text (flags_by (split_of e.name)) ++ codes " "
    ++ decimal e.size ++ line_end

-- the lines of a listing
abbrev pub entries_text : List Entry → List ℕ
entries_text entries = flat_map entry_line entries

-- `bytes=` and the bytes of a message, or `none`
abbrev pub bytes_text : Option (List ℕ) → List ℕ
bytes_text None = codes "none" ++ line_end
bytes_text (Some bytes) = codes "bytes=" ++ escape_all bytes ++ line_end

-- `unique` and a made unique name
abbrev pub unique_text : ℕ → ℕ → ℕ → ℕ → List ℕ → List ℕ
unique_text sec micro pid count host = codes "unique " ++ made_unique sec micro pid count host ++ line_end

-- the name of a field, `=`, and its value, where there is one
abbrev pub value_line : List ℕ → Option (List ℕ) → List ℕ
value_line name None = []
value_line name (Some value) = name ++ codes "=" ++ escape_all value ++ line_end

-- `seconds=` and the seconds, where there are some
abbrev pub seconds_line : Option ℤ → List ℕ
seconds_line None = []
seconds_line (Some seconds) = codes "seconds=" ++ signed_decimal seconds ++ line_end

-- the lines of the values of a header summary
abbrev pub values_text : Summary → List ℕ
values_text s =
    value_line (codes "subject") s.subject ++ value_line (codes "from") s.from ++ value_line (codes "message-id") s.message_id
    ++ value_line (codes "date") s.date

-- the lines of a header summary, and `end`
abbrev pub summary_text : Summary → List ℕ
summary_text s = values_text s ++ seconds_line s.seconds ++ codes "end" ++ line_end

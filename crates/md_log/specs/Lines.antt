-- The lines of a log.
use Rattle.std.specs.Prelude.{ℕ, Bool, true, false, ◌&&◌, not, List, length, nat_le, nat_lt, Option, Some, None, Result, Ok, Err, if◌then◌else◌, codes, ok_or, slice_index}
use Rattle.std.specs.Char.{is_ascii_digit}
use Rattle.std.specs.Str.{bytes_eq}
use Rattle.md_dirs.specs.declared.paths.Place.{Place}
use Rattle.md_dirs.specs.declared.paths.Path.{Path}
use Rattle.md_log.specs.declared.error.LineFault.{LineFault}
use Rattle.md_log.specs.declared.error.LineFault.TheVariants.{BadLine, BadPlace, BadNumber, BadClause, BadFlags, BadReply, TooLate}
use Rattle.md_log.specs.declared.line.ticks.Ticks.{Ticks}
use Rattle.md_log.specs.declared.clause.Clause.{Clause}
use Rattle.md_log.specs.declared.line.Line.{Line}
use Rattle.md_log.specs.declared.line.head.HeadWord.{HeadWord}
use Rattle.md_log.specs.declared.line.Said.{Said}
use Rattle.md_log.specs.declared.line.Call.{Call}
use Rattle.md_log.specs.declared.line.Reply.{Reply}
use Rattle.md_log.specs.declared.line.Deed.{Deed}
use Rattle.md_log.specs.declared.line.Naming.{Naming}
use Rattle.md_log.specs.declared.line.Step.{Step}
use Rattle.md_log.specs.declared.clause.Clause.TheVariants as clause
use Rattle.md_log.specs.declared.line.Line.TheVariants as line
use Rattle.md_log.specs.declared.line.head.HeadWord.TheVariants as head
use Rattle.md_log.specs.declared.line.Said.TheVariants as said
use Rattle.md_log.specs.declared.line.Call.TheVariants as call
use Rattle.md_log.specs.declared.line.Reply.TheVariants as reply
use Rattle.md_log.specs.declared.line.Deed.TheVariants as deed
use Rattle.md_log.specs.declared.line.Naming.TheVariants as naming
use Rattle.md_text.specs.Bind.{◌>>=◌, require}
use Rattle.md_text.specs.Words.{Rest, cut_at}
use Rattle.md_text.specs.Places.{place_named}
use Rattle.md_text.specs.Flags.{flags_in}
use Rattle.md_log.specs.Words.{word_at, parted, number_of, end_at}
use Rattle.md_log.specs.Names.{name_of, unique_name_of, names_at}
use Rattle.md_log.specs.Folders.{folder_of}
use Rattle.md_log.specs.Texts.{clause_named}

-- ---- paths: `FOLDER/PLACE/NAME`

-- the next word as a path
unfoldable pub path_at : List (List ℕ) → Rest → Result (Path × Rest) LineFault
path_at folders rest = do
  word ← word_at rest
  first ← parted 47 BadLine word.0
  second ← parted 47 BadLine first.1
  folder ← folder_of folders first.0
  place ← ok_or (place_named second.0) BadPlace
  name ← name_of second.1
  Ok (record { folder = folder; place = place; name = name }, word.1)

-- ---- when a step took effect

-- `BEGIN..END`, of which the first is no later than the second
unfoldable pub ticks_of : List ℕ → Result Ticks LineFault
ticks_of text = do
  first ← parted 46 BadNumber text
  second ← parted 46 BadNumber first.1
  _ ← require (not (nat_lt 0 (length second.0))) BadNumber
  begin ← number_of first.0
  end ← number_of second.1
  _ ← require (nat_le begin end) BadNumber
  Ok (record { begin = begin; end = end })

abbrev pub when_by : List ℕ × Rest → Result (ℕ × Option Ticks) LineFault
when_by (word, None) = do
  moment ← number_of word
  Ok (moment, None)
when_by (word, Some text) = do
  moment ← number_of word
  ticks ← ticks_of text
  Ok (moment, Some ticks)

-- a moment, and its ticks where they are known; a word that doesn't begin with a digit begins no line
unfoldable pub when_of : List ℕ → Result (ℕ × Option Ticks) LineFault
when_of word = if is_ascii_digit (slice_index word 0) then when_by (cut_at 64 word) else Err BadLine

-- ---- what there is at the beginning

-- the first word of such a line
unfoldable pub head_of : List ℕ → Option HeadWord
head_of word =
    if bytes_eq word (codes "folder") then Some head.Folder
    else (if bytes_eq word (codes "allow") then Some head.Allow
    else (if bytes_eq word (codes "file") then Some head.File
    else (if bytes_eq word (codes "also") then Some head.Also else None)))

-- the words of `folder` after the first
unfoldable pub folder_line : Rest → Result Line LineFault
folder_line rest = do
  word ← word_at rest
  name ← name_of word.0
  _ ← end_at word.1
  Ok (line.Folder name)

-- a clause that need not be judged: any but NotADirectory
abbrev pub allowed_by : Option Clause → Result Clause LineFault
allowed_by None = Err BadClause
allowed_by (Some clause.NotADirectory) = Err BadClause
allowed_by (Some c) = Ok c

-- the words of `allow` after the first
unfoldable pub allow_line : Rest → Result Line LineFault
allow_line rest = do
  word ← word_at rest
  c ← allowed_by (clause_named word.0)
  _ ← end_at word.1
  Ok (line.Allow c)

-- the words of `file` after the first
unfoldable pub file_line : List (List ℕ) → Rest → Result Line LineFault
file_line folders rest = do
  path ← path_at folders rest
  word ← word_at path.1
  stamp ← number_of word.0
  _ ← end_at word.1
  Ok (line.File path.0 stamp)

-- the words of `also` after the first
unfoldable pub also_line : List (List ℕ) → Rest → Result Line LineFault
also_line folders rest = do
  path ← path_at folders rest
  old ← path_at folders path.1
  _ ← end_at old.1
  Ok (line.Also path.0 old.0)

-- the words after the first
abbrev pub head_line : List (List ℕ) → HeadWord → Rest → Result Line LineFault
head_line folders head.Folder rest = folder_line rest
head_line folders head.Allow rest = allow_line rest
head_line folders head.File rest = file_line folders rest
head_line folders head.Also rest = also_line folders rest

-- ---- what programs told their users

-- the words after what is said of the message: a folder and a unique name
unfoldable pub about_line : List (List ℕ) → Said → Rest → Result Call LineFault
about_line folders answer rest = do
  first ← word_at rest
  folder ← folder_of folders first.0
  second ← word_at first.1
  unique ← unique_name_of second.0
  _ ← end_at second.1
  Ok (call.Answer answer folder unique)

-- the words of `answer` after it
unfoldable pub answer_line : List (List ℕ) → Rest → Result Call LineFault
answer_line folders rest = do
  first ← word_at rest
  if bytes_eq first.0 (codes "flags")
      then (word_at first.1 >>= (λ word. ok_or (flags_in word.0) BadFlags >>= (λ flags. about_line folders (said.Flags flags) word.1)))
      else (if bytes_eq first.0 (codes "moved")
      then (word_at first.1 >>= (λ word. folder_of folders word.0 >>= (λ to. about_line folders (said.Moved to) word.1)))
      else (if bytes_eq first.0 (codes "delivered") then about_line folders said.Delivered first.1
      else (if bytes_eq first.0 (codes "expunged") then about_line folders said.Expunged first.1
      else (if bytes_eq first.0 (codes "done") then about_line folders said.Done first.1
      else (if bytes_eq first.0 (codes "failed") then about_line folders said.Failed first.1
      else (if bytes_eq first.0 (codes "notthere") then about_line folders said.NotThere first.1 else Err BadLine))))))

-- ---- steps

-- The next word as the reply of a call that may find that a name exists, or not, and that may go on, or not: EEXIST is the answer of a
-- create or a link alone, and a reading of a directory alone goes on.
unfoldable pub reply_at : Bool → Bool → Rest → Result (Reply × Rest) LineFault
reply_at may_exist may_go_on rest = do
  word ← word_at rest
  if bytes_eq word.0 (codes "ok") then Ok (reply.Ok, word.1)
      else (if bytes_eq word.0 (codes "more") && may_go_on then Ok (reply.More, word.1)
      else (if bytes_eq word.0 (codes "exists") && may_exist then Ok (reply.Exists, word.1)
      else (if bytes_eq word.0 (codes "notfound") then Ok (reply.NotFound, word.1)
      else (if bytes_eq word.0 (codes "fault") then Ok (reply.Fault, word.1) else Err BadReply))))

abbrev pub is_create : Deed → Bool
is_create deed.Create = true
is_create d = false

abbrev pub is_link : Naming → Bool
is_link naming.Link = true
is_link naming.Rename = false

-- the words of a call on one path after it
unfoldable pub at_line : List (List ℕ) → Deed → Rest → Result Call LineFault
at_line folders d rest = do
  path ← path_at folders rest
  answer ← reply_at (is_create d) false path.1
  _ ← end_at answer.1
  Ok (call.At d path.0 answer.0)

-- the words of a call on two paths after it
unfoldable pub between_line : List (List ℕ) → Naming → Rest → Result Call LineFault
between_line folders n rest = do
  old ← path_at folders rest
  new ← path_at folders old.1
  answer ← reply_at (is_link n) false new.1
  _ ← end_at answer.1
  Ok (call.Between n old.0 new.0 answer.0)

-- the words of `list` after it
unfoldable pub list_line : List (List ℕ) → Rest → Result Call LineFault
list_line folders rest = do
  first ← word_at rest
  folder ← folder_of folders first.0
  second ← word_at first.1
  place ← ok_or (place_named second.0) BadPlace
  answer ← reply_at false true second.1
  shown ← names_at answer.1
  Ok (call.List folder place answer.0 shown)

-- the words after the actor: a call, its paths and its reply
unfoldable pub call_line : List (List ℕ) → Rest → Result Call LineFault
call_line folders rest = do
  verb ← word_at rest
  if bytes_eq verb.0 (codes "create") then at_line folders deed.Create verb.1
      else (if bytes_eq verb.0 (codes "write") then at_line folders deed.Write verb.1
      else (if bytes_eq verb.0 (codes "flush") then at_line folders deed.Flush verb.1
      else (if bytes_eq verb.0 (codes "unlink") then at_line folders deed.Unlink verb.1
      else (if bytes_eq verb.0 (codes "link") then between_line folders naming.Link verb.1
      else (if bytes_eq verb.0 (codes "rename") then between_line folders naming.Rename verb.1
      else (if bytes_eq verb.0 (codes "list") then list_line folders verb.1
      else (if bytes_eq verb.0 (codes "answer") then answer_line folders verb.1 else Err BadLine)))))))

-- a step, whose first word was read
unfoldable pub step_line : List (List ℕ) → List ℕ → Rest → Result Step LineFault
step_line folders first rest = do
  when ← when_of first
  actor ← word_at rest
  c ← call_line folders actor.1
  Ok (record { moment = when.0; ticks = when.1; actor = actor.0; call = c })

-- ---- lines

-- a line of the beginning comes before the first step
abbrev pub line_by : List (List ℕ) → Bool → Option HeadWord → List ℕ → Rest → Result Line LineFault
line_by folders true (Some word) first rest = Err TooLate
line_by folders false (Some word) first rest = head_line folders word rest
line_by folders has_begun None first rest = step_line folders first rest >>= (λ step. Ok (line.Step step))

-- What a line says that is not passed over, or what is said of it: by the folders that were named before it, and whether steps have begun.
unfoldable pub line_of : List (List ℕ) → Bool → List ℕ → Result Line LineFault
line_of folders has_begun text = do
  first ← word_at (Some text)
  line_by folders has_begun (head_of first.0) first.0 first.1

-- What each command of a played script does: the transcript's clauses. They speak of runs, of what their steps show and of the mailbox,
-- and of no part of the code.
use Rattle.std.specs.Prelude.{ℕ, zero, suc, ◌+◌, ◌==◌, not, filter, List, [], ◌∷◌, ◌++◌, false}
use Rattle.std.specs.Prelude.{Option, Some, None, Result, Ok, Err, if◌then◌else◌, length, is_some, is_none, ok_or}
use Rattle.std.specs.Option.{option_map}
use Rattle.std.specs.List.{find}
use Rattle.std.specs.FinMap as finmap
use Rattle.md_dirs.specs.State.{State}
use Rattle.md_dirs.specs.Image.{image_state, image_refusal}
use Rattle.md_dirs.specs.declared.image.ImageFile.{ImageFile}
use Rattle.md_name.specs.declared.error.NameError.{NameError}
use Rattle.md_name.specs.Made.{make_refusal}
use Rattle.md_head.specs.Summaries.{summary_of}
use Rattle.md_dirs.specs.Calls.{fresh}
use Rattle.md_jobs.specs.declared.error.CoreError.{CoreError}
use Rattle.md_jobs.specs.declared.call.Call.{Call}
use Rattle.md_jobs.specs.declared.step.Event.{Event}
use Rattle.md_jobs.specs.declared.step.StepOut.{StepOut}
use Rattle.md_used.specs.Loading.{load_refusal}
use Rattle.md_core.specs.Mailbox.{Entry, mailbox_of}
use Rattle.md_core.specs.Machine.{Occurrence, job_at, step_of, step_out}
use Rattle.md_core.specs.Runs.{Run, new_run, machine_of, dirs_of, jobs_of, and_event, and_call, step_refusal, steps_left}
use Rattle.md_core.specs.Submitting.{submit_refusal}
use Rattle.md_listing.specs.Law.{names_at, listing_of}
use Rattle.md_script.specs.declared.error.PlayKind.{PlayKind}
use Rattle.md_script.specs.declared.error.PlayKind.TheVariants.{SamePath, Core, Name, NoFirst}
use Rattle.md_script.specs.declared.verb.Mode.TheVariants.{Playing}
use Rattle.md_text.specs.Bind.{◌>>=◌, require}
use Rattle.md_script.specs.Commands.{Command, make_folder, make_file, submit, step, finish, list, first, second, read, make_name, summarize, command_at}
use Rattle.md_script.specs.Texts.{job_text, shown_text, entries_text, bytes_text, unique_text, summary_text}
use Rattle.md_script.specs.Transcript.{Transcript, transcript_of}

-- A first reading that is kept: new of this folder was read at this moment of the run.
pub record First : Type 0 where
  pub folder : ℕ
  pub moment : ℕ

-- An open store: its run, and the first readings that are kept, of each folder one at most.
pub record ScriptStore : Type 0 where
  pub run : Run
  pub firsts : List First

-- A session: the names of the folders and the files that the store begins with, each in the order of their lines; and the store, once it
-- was needed. From then on it has no files beside it.
pub record Session : Type 0 where
  pub folders : List (List ℕ)
  pub files : List ImageFile
  pub store : Option ScriptStore

-- the files of a session: an open store has none beside it
abbrev pub files_beside : Option ScriptStore → List ImageFile → List ImageFile
files_beside None files = files
files_beside (Some t) files = []

-- refused by the store, or done
abbrev pub unless_refused : {X : Type 0} → Option CoreError → X → Result X PlayKind
unless_refused None done = Ok done
unless_refused (Some e) done = Err (Core e)

-- The directories that files are. The folder of each is there, so that the only refusal is that two have one path.
unfoldable pub image_of : ℕ → List ImageFile → Result State PlayKind
image_of folders files = do
  _ ← require (is_none (image_refusal folders files)) SamePath
  Ok (image_state folders files)

-- a store over folders and files
unfoldable pub run_over : ℕ → List ImageFile → Result Run PlayKind
run_over folders files = do
  image ← image_of folders files
  unless_refused (load_refusal image) (new_run (fresh image))

-- a store that was just opened
abbrev pub new_store : Run → ScriptStore
new_store r = record { run = r; firsts = [] }

-- a store, which is opened where it is first needed
abbrev pub store_over : ℕ → List ImageFile → Option ScriptStore → Result ScriptStore PlayKind
store_over folders files None = run_over folders files >>= (λ r. Ok (new_store r))
store_over folders files (Some t) = Ok t

-- the store of a session, which is opened where it was not
abbrev pub store_of : Session → Result ScriptStore PlayKind
store_of s = store_over (length s.folders) s.files s.store

-- a session whose store has come to this
abbrev pub with_store : Session → ScriptStore → Session
with_store s t = record { folders = s.folders; files = []; store = Some t }

-- an event without a fault: the directories of a script never fault
abbrev pub without_fault : Event → Occurrence
without_fault event = record { event = event; faulted = false }

-- what one step of a job shows
abbrev pub shown_step : Run → Event → Option StepOut
shown_step r event = option_map step_out (step_of (machine_of r) (without_fault event))

-- what one step of a job prints
abbrev pub step_text : Run → Event → List ℕ
step_text r event = shown_text event.job (shown_step r event)

-- a text, and then what follows it
abbrev pub with_text : List ℕ → Run × List ℕ → Run × List ℕ
with_text text rest = (rest.0, text ++ rest.1)

-- where one more event is refused, out of memory aside
abbrev pub event_refusal : Run → Event → Option CoreError
event_refusal r event = step_refusal (job_at (jobs_of r) event.job)

-- at most so many steps of a job at one moment, until it is answered: the run after them, and what they print
unfoldable pub steps_of : ℕ → Run → Event → Run × List ℕ
steps_of zero r event = (r, [])
steps_of (suc more) r event =
    if is_some (event_refusal r event) then (r, [])
    else with_text (step_text r event) (steps_of more (and_event r (without_fault event)) event)

-- a call, submitted to the store
unfoldable pub submit_in : Run → Call → Result (Run × List ℕ) PlayKind
submit_in r c = unless_refused (submit_refusal r c) (and_call r c, job_text (length r.calls + 1))

-- one step of a job
unfoldable pub step_in : Run → Event → Result (Run × List ℕ) PlayKind
step_in r event = unless_refused (event_refusal r event) (and_event r (without_fault event), step_text r event)

-- a step of a job, and then more until it is answered
unfoldable pub finish_in : Run → Event → Result (Run × List ℕ) PlayKind
finish_in r event = unless_refused (event_refusal r event) (steps_of (steps_left r event.job) r event)

-- the messages of a folder: its new and its cur, both read now
unfoldable pub list_in : Run → ℕ → Result (Run × List ℕ) PlayKind
list_in r folder = Ok (r, entries_text (listing_of (names_at r) folder (length r.events) (length r.events)))

-- the bytes of the message of a unique name
unfoldable pub read_in : Run → List ℕ → Result (Run × List ℕ) PlayKind
read_in r unique = Ok (r, bytes_text (option_map (λ (e : Entry). e.bytes) (finmap.get (mailbox_of (dirs_of r)) unique)))

-- what is done to the run of a store: the readings that it keeps stay
abbrev pub on_run : ScriptStore → Result (Run × List ℕ) PlayKind → Result (ScriptStore × List ℕ) PlayKind
on_run t answer = answer >>= (λ done. Ok (record t { run = done.0 }, done.1))

-- the kept reading of a folder
abbrev pub first_of : ℕ → List First → Option First
first_of folder firsts = find (λ f. f.folder == folder) firsts

-- the kept readings of the other folders
abbrev pub others : ℕ → List First → List First
others folder firsts = filter (λ f. not (f.folder == folder)) firsts

-- reads new of a folder, and keeps the reading in place of an older one
unfoldable pub read_first : ScriptStore → ℕ → Result (ScriptStore × List ℕ) PlayKind
read_first t folder =
    let now : First = record { folder = folder; moment = length t.run.events } in
    Ok (record t { firsts = others folder t.firsts ++ now ∷ [] }, [])

-- Reads cur of a folder: the messages of the new that was read first, and of the cur that is read now. The kept reading is used up.
unfoldable pub read_second : ScriptStore → ℕ → Result (ScriptStore × List ℕ) PlayKind
read_second t folder = do
  kept ← ok_or (first_of folder t.firsts) NoFirst
  Ok (record t { firsts = others folder t.firsts }, entries_text (listing_of (names_at t.run) folder kept.moment (length t.run.events)))

-- What is done to the store of a session. It is opened where it was not, and nothing is done where it can't be.
abbrev pub in_store : Session → (ScriptStore → Result (ScriptStore × List ℕ) PlayKind) → Result (Session × List ℕ) PlayKind
in_store s act = store_of s >>= (λ t. act t >>= (λ done. Ok (with_store s done.0, done.1)))

-- what a command makes of an open store; one that asks nothing of it does nothing
abbrev pub act : ScriptStore → Command → Result (ScriptStore × List ℕ) PlayKind
act t (submit call) = on_run t (submit_in t.run call)
act t (step event) = on_run t (step_in t.run event)
act t (finish event) = on_run t (finish_in t.run event)
act t (list folder) = on_run t (list_in t.run folder)
act t (first folder) = read_first t folder
act t (second folder) = read_second t folder
act t (read unique) = on_run t (read_in t.run unique)
act t other = Ok (t, [])

-- a name that is made, unless it is refused
abbrev pub unless_bad : Option NameError → List ℕ → Result (List ℕ) PlayKind
unless_bad None text = Ok text
unless_bad (Some e) text = Err (Name e)

-- what `unique` with these parts prints, or why no name is made
unfoldable pub made_name : ℕ → ℕ → ℕ → ℕ → List ℕ → Result (List ℕ) PlayKind
made_name sec micro pid count host = unless_bad (make_refusal micro host) (unique_text sec micro pid count host)

-- what prints a text and needs no store
abbrev pub printing : Session → Result (List ℕ) PlayKind → Result (Session × List ℕ) PlayKind
printing s answer = answer >>= (λ text. Ok (s, text))

-- What a command makes of a session, and what it prints; or why it is refused. A later command adds its clause, here or to what an open
-- store does.
abbrev pub obey : Session → Command → Result (Session × List ℕ) PlayKind
obey s (make_folder name) = Ok (record s { folders = s.folders ++ name ∷ [] }, [])
obey s (make_file file) = Ok (record s { files = files_beside s.store (s.files ++ file ∷ []) }, [])
obey s (make_name sec micro pid count host) = printing s (made_name sec micro pid count host)
obey s (summarize message) = printing s (Ok (summary_text (summary_of message)))
obey s other = in_store s (λ t. act t other)

-- a line of a session: the command that it spells, and what that does
unfoldable pub session_line : Session → List ℕ → Result (Session × List ℕ) PlayKind
session_line s line = command_at s.folders (Playing (is_some s.store)) line >>= obey s

-- a session without a folder
abbrev pub new_session : Session
new_session = record { folders = []; files = []; store = None }

-- the transcript of a script: what its lines print, one after another, over a new session
abbrev pub transcript : List ℕ → Transcript Session
transcript script = transcript_of session_line new_session script

-- The program's commands, as contracts see them.
use Rattle.std.specs.Prelude.{◌≡◌, ◌≢◌, ℕ, List, Result, Ok, Err}
use Rattle.md_core.specs.Runs.{Run}
use Rattle.md_listing.specs.declared.listing.BegunListing.{BegunListing}
use Rattle.md_listing.specs.Law.{HasBegun}
use Rattle.md_script.specs.declared.error.PlayKind.{PlayKind}
use Rattle.md_script.specs.declared.error.PlayKind.TheVariants.{NoMemory}
use Rattle.md_script.specs.declared.command.Command.{Command as Held}
use Rattle.md_script.specs.declared.command.Command.TheVariants as held
use Rattle.md_name.specs.declared.unique.UniqueParts.{UniqueParts}
use Rattle.md_script.specs.Sessions.{Session, ScriptStore, First, store_of, with_store, made_name}
use Rattle.md_script.specs.Commands.{Command, make_folder, make_file, submit, step, finish, list, first, second, read, make_name, summarize}

-- a command, as contracts see it
abbrev pub command_of : Held → Command
command_of (held.Folder name) = make_folder name.now
command_of (held.File file) = make_file file
command_of (held.Submit call) = submit call
command_of (held.Step event) = step event
command_of (held.Finish event) = finish event
command_of (held.List folder) = list folder
command_of (held.First folder) = first folder
command_of (held.Second folder) = second folder
command_of (held.Read unique) = read unique.now
command_of (held.Unique parts) = make_name parts.sec parts.micro parts.pid parts.count parts.host.now
command_of (held.Summary message) = summarize message.items

-- what `unique` with these parts prints
abbrev pub named_of : UniqueParts → Result (List ℕ) PlayKind
named_of parts = made_name parts.sec parts.micro parts.pid parts.count parts.host.now

-- a listing that has begun, as a kept reading
abbrev pub first_by : BegunListing → First
first_by l = record { folder = l.folder; moment = l.begun }

-- listings that have begun in a run may be finished in the other
abbrev pub MayWait : Run → Run → Type 0
MayWait r r' = (l : BegunListing) → HasBegun r l → HasBegun r' l

-- The store of a session was opened, or it is refused, unless memory ran out.
abbrev pub Opens : Session → Session → Result (Unit {0}) PlayKind → Type 0
Opens old new (Ok done) = (t : ScriptStore) × (store_of old ≡ Ok t) × (new ≡ with_store old t)
Opens old new (Err kind) = kind ≢ NoMemory → store_of old ≡ Err kind

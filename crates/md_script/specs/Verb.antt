-- The first word of a command, what a line is read for, and whether the command may come there.
use Rattle.std.specs.Prelude.{ℕ, not, List, Option, Some, None, Result, Ok, Err, if◌then◌else◌, codes}
use Rattle.std.specs.Str.{bytes_eq}
use Rattle.md_script.specs.declared.error.PlayKind.{PlayKind}
use Rattle.md_script.specs.declared.error.PlayKind.TheVariants.{TooLate, NotInThisRun}
use Rattle.md_script.specs.declared.verb.Verb.{Verb}
use Rattle.md_script.specs.declared.verb.Verb.TheVariants as verb
use Rattle.md_script.specs.declared.verb.Mode.{Mode}
use Rattle.md_script.specs.declared.verb.Mode.TheVariants.{Playing, SettingUp}
use Rattle.md_text.specs.Bind.{require}

-- the first word of a line, as a command
unfoldable pub verb_of : List ℕ → Option Verb
verb_of word =
    if bytes_eq word (codes "folder") then Some verb.Folder
    else (if bytes_eq word (codes "file") then Some verb.File
    else (if bytes_eq word (codes "job") then Some verb.Job
    else (if bytes_eq word (codes "step") then Some verb.Step
    else (if bytes_eq word (codes "finish") then Some verb.Finish
    else (if bytes_eq word (codes "list") then Some verb.List
    else (if bytes_eq word (codes "first") then Some verb.First
    else (if bytes_eq word (codes "second") then Some verb.Second
    else (if bytes_eq word (codes "read") then Some verb.Read
    else (if bytes_eq word (codes "unique") then Some verb.Unique
    else (if bytes_eq word (codes "summary") then Some verb.Summary else None))))))))))

-- A command that may not come here is refused before its other words are read: folders and files are added before the store is loaded
-- alone, and what only sets a store up has folders, files and, where they are allowed, jobs.
unfoldable pub admitted : Mode → Verb → Result (Unit {0}) PlayKind
admitted (Playing is_loaded) verb.Folder = require (not is_loaded) TooLate
admitted (Playing is_loaded) verb.File = require (not is_loaded) TooLate
admitted (Playing is_loaded) other = Ok tt
admitted (SettingUp with_jobs) verb.Folder = Ok tt
admitted (SettingUp with_jobs) verb.File = Ok tt
admitted (SettingUp with_jobs) verb.Job = require with_jobs NotInThisRun
admitted (SettingUp with_jobs) other = Err NotInThisRun

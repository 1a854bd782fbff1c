-- Which kind of refusal an error of the store, or of a name, is. Want of memory is one kind, wherever it was met.
use Rattle.md_name.specs.declared.error.NameError.{NameError}
use Rattle.md_name.specs.declared.error.NameError.TheVariants as name
use Rattle.md_jobs.specs.declared.error.CoreError.{CoreError}
use Rattle.md_jobs.specs.declared.error.CoreError.TheVariants as core
use Rattle.md_script.specs.declared.error.PlayKind.{PlayKind}
use Rattle.md_script.specs.declared.error.PlayKind.TheVariants.{Core, Name, NoMemory}
use Rattle.md_script.specs.declared.error.PlayError.{PlayError}

-- the kind of an error of the store
abbrev pub core_kind : CoreError → PlayKind
core_kind core.NoMemory = NoMemory
core_kind refusal = Core refusal

-- the kind of an error of a name
abbrev pub name_kind : NameError → PlayKind
name_kind name.NoMemory = NoMemory
name_kind refusal = Name refusal

-- a refusal that no line is to blame for
abbrev pub at_no_line : PlayKind → PlayError
at_no_line kind = record { line = 0; kind = kind }

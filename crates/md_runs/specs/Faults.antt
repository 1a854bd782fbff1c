-- What the refusal of a run says, and which refusals of the store become it.
use Rattle.std.specs.Prelude.{ℕ, List, codes}
use Rattle.md_jobs.specs.declared.error.CoreError.{CoreError}
use Rattle.md_jobs.specs.declared.error.CoreError.TheVariants as core
use Rattle.md_store.specs.declared.error.ListError.{ListError}
use Rattle.md_store.specs.declared.error.ListError.TheVariants as listing
use Rattle.md_store.specs.declared.error.OpenError.{OpenError}
use Rattle.md_store.specs.declared.error.OpenError.TheVariants as opening
use Rattle.md_script.specs.declared.error.PlayKind.TheVariants.{NoMemory}
use Rattle.md_script.specs.Kinds.{at_no_line}
use Rattle.md_script.specs.Refusals.{kind_text}
use Rattle.md_runs.specs.declared.fault.RunFault.{RunFault}
use Rattle.md_runs.specs.declared.fault.RunFault.TheVariants.{Play, NoReader, Closed}

-- the line that is refused, counted from 1, or 0 where none is
abbrev pub refused_line : RunFault → ℕ
refused_line (Play error) = error.line
refused_line other = 0

-- why it is refused
abbrev pub refusal_text : RunFault → List ℕ
refusal_text (Play error) = kind_text error.kind
refusal_text NoReader = codes "no reader"
refusal_text Closed = codes "closed"

-- of a store that was not opened
abbrev pub open_fault : OpenError → RunFault
open_fault opening.NoMemory = Play (at_no_line NoMemory)
open_fault other = NoReader

-- of a step that was not taken
abbrev pub core_fault : CoreError → RunFault
core_fault core.NoMemory = Play (at_no_line NoMemory)
core_fault other = Closed

-- of a folder that was not listed
abbrev pub list_fault : ListError → RunFault
list_fault listing.NoMemory = Play (at_no_line NoMemory)
list_fault other = Closed

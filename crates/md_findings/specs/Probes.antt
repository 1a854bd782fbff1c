-- Words of a log that are tried in lines whose other words are right.
use Rattle.std.specs.Prelude.{Option, Some, None, Result, Ok, Err}
use Rattle.md_log.specs.declared.error.LineFault.{LineFault}
use Rattle.md_log.specs.declared.line.Line.{Line}

-- the fault of a line, if it has one
abbrev pub line_fault : Result Line LineFault → Option LineFault
line_fault (Ok line) = None
line_fault (Err fault) = Some fault

use Rattle.md_core.proofs.Mailbox.Paths.{names-shown, names-listed}
use Rattle.md_core.proofs.laws.names_show_their_directories.Goals as goal

pub returns-clause-shown : goal.returns-clause-shown
returns-clause-shown c = λ s u x is. names-shown s u x is

pub returns-clause-listed : goal.returns-clause-listed
returns-clause-listed c = λ s one u x path. names-listed s one u x path

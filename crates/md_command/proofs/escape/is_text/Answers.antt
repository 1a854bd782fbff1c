use Rattle.std.proofs.Common.{rules}
use Rattle.std.proofs.lemmas.Str.{utf8_valid_len-IsUtf8}
use Rattle.md_command.proofs.escape.is_text.Goals as goal

pub returns-in-Ok : goal.returns-in-Ok
returns-in-Ok c = search (rules, utf8_valid_len-IsUtf8)

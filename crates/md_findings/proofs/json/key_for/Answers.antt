use Rattle.std.proofs.Common.{◌≡◌, true, rules, refl}
use Rattle.std.proofs.lemmas.Str.{utf8_valid_len-IsUtf8}
use Rattle.md_command.specs.Escapes.{is_text}
use Rattle.md_findings.proofs.json.key_for.Goals as goal

pub returns-in-Ok : goal.returns-in-Ok
returns-in-Ok c = let is : is_text c.args.words.now ≡ true = search (rules, utf8_valid_len-IsUtf8) in rw is refl

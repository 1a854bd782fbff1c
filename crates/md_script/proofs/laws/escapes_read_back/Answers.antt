use Rattle.md_text.proofs.Escaping.{unescaped-escaped}
use Rattle.md_script.proofs.laws.escapes_read_back.Goals as goal

pub returns : goal.returns
returns c = unescaped-escaped c.args.bytes.now

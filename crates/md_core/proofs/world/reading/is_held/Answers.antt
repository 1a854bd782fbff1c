use Rattle.std.proofs.Common.{◌∙◌}
use Rattle.md_core.proofs.Values.{entries, list_any, is_message_of, is_tmp_of}
use Rattle.md_core.proofs.Worlds.Held.{bytes-tell, at-first, at-last}
use Rattle.md_core.proofs.Worlds.Loading.Whole.{either_use}
use Rattle.md_core.proofs.world.reading.is_held.Goals as goal

pub returns-then-is_some : goal.returns-then-is_some
returns-then-is_some g c =
    let s = (g.D.Dirs.device c.args.dirs.now).state in
    let name = c.args.name.now in
    at-first c.is_some.result (list_any (λ e. is_message_of name e.0) (entries s.names)) (list_any (λ e. is_tmp_of name e.0) (entries s.names))
    c.if-is_some.true (bytes-tell s name (λ b. b.now) c.message_bytes.result c.is_some.result c.requires c.is_some.ensures c.message_bytes.ensures)
    ∙ either_use name (entries s.names)

pub returns-else-is_some : goal.returns-else-is_some
returns-else-is_some g c =
    let s = (g.D.Dirs.device c.args.dirs.now).state in
    let name = c.args.name.now in
    at-last c.is_some.result c.is_in_tmp.result (list_any (λ e. is_message_of name e.0) (entries s.names)) (list_any (λ e. is_tmp_of name e.0) (entries s.names))
    c.if-is_some.false (bytes-tell s name (λ b. b.now) c.message_bytes.result c.is_some.result c.requires c.is_some.ensures c.message_bytes.ensures)
    c.is_in_tmp.ensures
    ∙ either_use name (entries s.names)

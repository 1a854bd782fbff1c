use Rattle.std.proofs.Common.{ap, ◌∙◌}
use Rattle.std.specs.Int.{w128, from_be_bytes}
use Rattle.md_dirs.proofs.Keys.{are-bytes, key-of-first}
use Rattle.md_dirs.proofs.index.key.key_of.Goals as goal

pub returns-in-Some : goal.returns-in-Some
returns-in-Some c =
    let name = c.args.name.now in
    record {
      key = c.from_be_bytes.ensures ∙ ap (from_be_bytes w128) c.in-Some.ensures.cases.same ∙ key-of-first name;
      bytes = are-bytes name c.type_inv.name;
    }

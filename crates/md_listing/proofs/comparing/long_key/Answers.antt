use Rattle.std.proofs.Common.{◌∙◌, ap}
use Rattle.std.specs.Int.{w128, from_be_bytes}
use Rattle.md_dirs.proofs.Keys.{are-bytes, key-of-first}
use Rattle.md_listing.proofs.comparing.long_key.Goals as goal

pub returns : goal.returns
returns c =
    let name = c.args.name.now in
    record {
      key = c.from_be_bytes.ensures ∙ ap (from_be_bytes w128) c.in_ok-first.ensures.cases.same ∙ key-of-first name;
      bytes = are-bytes name c.type_inv.name;
    }

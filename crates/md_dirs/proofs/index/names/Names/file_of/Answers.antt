use Rattle.std.proofs.Common.{◌∙◌, sym, ap}
use Rattle.std.specs.Option.{option_or}
use Rattle.md_dirs.specs.Index.{get_name}
use Rattle.md_dirs.proofs.Alike.{get-both}
use Rattle.md_dirs.proofs.index.names.Names.file_of.Goals as goal

pub returns-in-Some : goal.returns-in-Some
returns-in-Some c =
    let rows = c.self.inside.table.keys in
    let others = c.self.inside.others.entries in
    rw (← c.self.view_is) (ap (λ o. option_or o (get_name others c.args.name.now)) c.in-Some.ensures.file ∙ sym (get-both rows others c.args.name.now))

pub returns-in-None : goal.returns-in-None
returns-in-None c =
    let rows = c.self.inside.table.keys in
    let others = c.self.inside.others.entries in
    rw (← c.self.view_is) (c.file_beside.ensures ∙ ap (λ o. option_or o (get_name others c.args.name.now)) c.in-None.ensures.file ∙ sym (get-both rows others c.args.name.now))

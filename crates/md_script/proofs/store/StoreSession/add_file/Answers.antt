use Rattle.std.proofs.Common.{ap, ◌∙◌}
use Rattle.md_dirs.specs.declared.image.ImageFile.{ImageFile}
use Rattle.md_script.proofs.Opening.{held, with_file}
use Rattle.md_script.proofs.store.StoreSession.add_file.Goals as goal

pub returns : goal.returns
returns g c =
    ap (λ files. held c.self.inside.folders files c.self.inside.store) c.in_ok-push.ensures.items
    ∙ with_file c.args.self.now c.self.inside.folders c.self.inside.files.items c.self.inside.store c.args.file c.self.view_is

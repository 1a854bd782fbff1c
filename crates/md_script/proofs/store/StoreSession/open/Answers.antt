use Rattle.std.proofs.Common.{◌∙◌, sym}
use Rattle.md_script.proofs.Opening.{was_open}
use Rattle.md_script.proofs.store.StoreSession.open.Goals as goal

pub returns-then-is_some : goal.returns-then-is_some
returns-then-is_some g c =
    was_open c.args.self.now c.self.inside.folders c.self.inside.files.items c.self.inside.store c.self.view_is (sym c.is_some.ensures ∙ c.if-is_some.true)

use Rattle.std.proofs.Common.{Some, is_some, ap, ◌∙◌}
use Rattle.md_script.specs.Sessions.{Session, ScriptStore}
use Rattle.md_script.proofs.Opening.{held, is_opened}
use Rattle.md_script.proofs.store.StoreSession.open_first.Goals as goal

pub opened-requires : goal.opened-requires
opened-requires g c = record { folders = _; files = _; over = c.in_ok-world.ensures }

pub returns : goal.returns
returns g c =
    is_opened c.args.self.now _ c.self.inside.folders c.self.inside.files.items c.self.inside.store c.in_ok-world.world
    c.self.view_is (ap (λ (s : Session). is_some s.store) c.self.view_is ∙ c.requires) _ _ c.count.ensures
    (ap (λ v. v.items) c.replace-files.ensures.value) c.in_ok-world.ensures
    (ap (λ (u : ScriptStore). held c.self.inside.folders c.self.inside.files.items (Some u)) c.new-2.ensures)

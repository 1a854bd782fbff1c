use Rattle.std.proofs.Common.{◌≡◌, ◌∙◌, ap}
use Rattle.md_core.proofs.Values.{Machine, dirs_of}
use Rattle.md_core.proofs.world.World.names_from.Goals as goal

pub returns : goal.returns
returns g c =
    let s = c.self.inside in
    let here : (g.D.Dirs.device s.dirs).state ≡ dirs_of c.args.self.now =
    ap (λ (m : Machine). m.dirs) c.self.invariant.now ∙ ap dirs_of c.self.view_is in
    rw (← here) c.rows_from.ensures

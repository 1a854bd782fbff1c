use Rattle.std.proofs.Common.{◌≡◌, ◌∙◌, sym, ap, subst, length}
use Rattle.md_core.proofs.Values.{HasOnePath, Machine, dirs_of, trace_of}
use Rattle.md_core.proofs.Traces.Shown.{shown-dirs}
use Rattle.md_core.proofs.world.World.read.Goals as goal

pub message_bytes-requires : goal.message_bytes-requires
message_bytes-requires g c =
    let s = c.self.inside in
    let r = c.args.self.now in
    let here : (g.D.Dirs.device s.dirs).state ≡ dirs_of r = ap (λ (m : Machine). m.dirs) c.self.invariant.now ∙ ap dirs_of c.self.view_is in
    subst HasOnePath (shown-dirs r c.interleaves.ensures.run ∙ sym here) (c.interleaves.ensures.theorem.one_path (length (trace_of r).steps))

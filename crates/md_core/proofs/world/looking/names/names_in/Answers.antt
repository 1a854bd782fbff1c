use Rattle.std.proofs.Common.{ℕ, ◌≡◌, ◌∙◌, ap, subst, arith}
use Rattle.md_core.proofs.Values.{AreOf, entries_before}
use Rattle.md_core.proofs.Worlds.Gathered.{gathered-none}
use Rattle.md_core.proofs.Worlds.Loading.Order.{before-all}
use Rattle.md_core.proofs.world.looking.names.names_in.Goals as goal

pub loop-folder-init : goal.loop-folder-init
loop-folder-init g c = gathered-none (g.D.Dirs.device c.args.dirs.now).state c.in_ok-used.used c.in_ok-used.ensures

pub returns : goal.returns
returns g c =
    let s = (g.D.Dirs.device c.args.dirs.now).state in
    let all : c.loop-folder.folder ≡ s.folders = omega (arith, c.loop-folder.auto.folder-end, c.loop-folder-test.false, c.folders-folder-end.ensures.count) in
    subst (λ es. AreOf es c.loop-folder.used) (ap (λ (k : ℕ). entries_before s k 0) all ∙ before-all s c.folders-folder-end.ensures.sound) c.loop-folder.invariant

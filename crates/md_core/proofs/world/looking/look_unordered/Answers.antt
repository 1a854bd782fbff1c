use Rattle.std.proofs.Common.{◌≡◌, subst, arith}
use Rattle.md_core.specs.Looking.{IsLookOf}
use Rattle.md_core.proofs.Worlds.Loading.Order.{before-next}
use Rattle.md_core.proofs.Worlds.Loading.Whole.{look-none, look-all}
use Rattle.md_core.proofs.world.looking.look_unordered.Goals as goal

pub loop-folder-init : goal.loop-folder-init
loop-folder-init g c =
    let made = c.in_ok-seen in
    look-none (g.D.Dirs.device c.args.dirs.now).state made.seen made.ensures.0 made.ensures.1 made.ensures.2

pub look_through-requires : goal.look_through-requires
look_through-requires g c = c.loop-folder.invariant

pub loop-folder-preserved : goal.loop-folder-preserved
loop-folder-preserved g c =
    let s = (g.D.Dirs.device c.args.dirs.now).state in
    let seen = c.look_through-in-loop-folder-2.new.seen in
    subst (λ es. IsLookOf s es seen) (before-next s c.loop-folder.folder) c.in_ok-look_through-3.ensures

pub returns : goal.returns
returns g c =
    let s = (g.D.Dirs.device c.args.dirs.now).state in
    let all : c.loop-folder.folder ≡ s.folders = omega (arith, c.loop-folder.auto.folder-end, c.loop-folder-test.false, c.folders-folder-end.ensures.count) in
    look-all s c.loop-folder.folder c.loop-folder.seen c.folders-folder-end.ensures.sound all c.loop-folder.invariant

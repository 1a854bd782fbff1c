use Rattle.std.proofs.Common.{◌≡◌, ◌∙◌, sym, subst, arith}
use Rattle.md_core.proofs.Worlds.Held.{NotInTmp, tmp-more, read-in-tmp, none-read, none-in-tmp}
use Rattle.md_core.proofs.world.reading.is_in_tmp.Goals as goal

pub returns-then-is_some : goal.returns-then-is_some
returns-then-is_some g c =
    let s = (g.D.Dirs.device c.args.dirs.now).state in
    sym (read-in-tmp s c.args.name.now (λ b. b.now) c.loop-folder.folder c.read.result c.read.ensures (sym c.is_some.ensures ∙ c.if-is_some.true))

pub loop-folder-preserved : goal.loop-folder-preserved
loop-folder-preserved g c =
    let s = (g.D.Dirs.device c.args.dirs.now).state in
    tmp-more s c.args.name.now c.folders-folder-end.ensures.sound c.loop-folder.folder c.loop-folder.invariant
    (none-read s c.args.name.now (λ b. b.now) c.loop-folder.folder c.read.result c.read.ensures (sym c.is_some.ensures ∙ c.if-is_some.false))

pub returns : goal.returns
returns g c =
    let s = (g.D.Dirs.device c.args.dirs.now).state in
    let all : c.loop-folder.folder ≡ s.folders = omega (arith, c.loop-folder.auto.folder-end, c.loop-folder-test.false, c.folders-folder-end.ensures.count) in
    sym (none-in-tmp s c.args.name.now c.folders-folder-end.ensures.sound (subst (NotInTmp s c.args.name.now) all c.loop-folder.invariant))

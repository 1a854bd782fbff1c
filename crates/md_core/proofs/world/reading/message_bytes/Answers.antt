use Rattle.std.proofs.Common.{◌≡◌, sym, subst, arith}
use Rattle.md_core.proofs.Values.{New, Cur, is_in_place}
use Rattle.md_core.proofs.Looking.Reading.{IsPast, no-part, such-bytes, one-past, none-past}
use Rattle.md_core.proofs.world.reading.message_bytes.Goals as goal

pub returns-then-not-is_unique_part : goal.returns-then-not-is_unique_part
returns-then-not-is_unique_part g c = no-part (g.D.Dirs.device c.args.dirs.now).state c.args.unique.now (sym c.if-not-is_unique_part.ensures)

pub loop-folder-init : goal.loop-folder-init
loop-folder-init g c = λ e is. omega arith

pub returns-in-Some : goal.returns-in-Some
returns-in-Some g c =
    such-bytes (g.D.Dirs.device c.args.dirs.now).state c.args.unique.now (is_in_place New c.loop-folder.folder) c.in-Some.bytes.now c.in-Some.ensures

pub returns-in-Some-bytes_in : goal.returns-in-Some-bytes_in
returns-in-Some-bytes_in g c =
    such-bytes (g.D.Dirs.device c.args.dirs.now).state c.args.unique.now (is_in_place Cur c.loop-folder.folder) c.in-Some-bytes_in.bytes.now
    c.in-Some-bytes_in.ensures

pub loop-folder-preserved : goal.loop-folder-preserved
loop-folder-preserved g c =
    one-past (g.D.Dirs.device c.args.dirs.now).state c.args.unique.now c.loop-folder.folder c.loop-folder.invariant c.in_default.ensures
    c.in_default-bytes_in.ensures

pub returns : goal.returns
returns g c =
    let s = (g.D.Dirs.device c.args.dirs.now).state in
    let u = c.args.unique.now in
    let all : c.loop-folder.folder ≡ s.folders = omega (arith, c.loop-folder.auto.folder-end, c.loop-folder-test.false, c.folders-folders.ensures.count) in
    none-past s u c.folders-folders.ensures.sound (subst (IsPast s u) all c.loop-folder.invariant)

use Rattle.std.proofs.Common.{arith}
use Rattle.md_core.specs.Runs.{dirs_of}
use Rattle.md_view.specs.Named.{named_of}
use Rattle.md_view.proofs.Held.Opening.{sound-messages, readings-held}
use Rattle.md_view.proofs.names.folder.all_of.Goals as goal

pub returns-clause-names : goal.returns-clause-names
returns-clause-names g c =
    let s = dirs_of c.args.world.now in
    let few = c.folders-count.type_inv in
    let count = c.loop-folder.invariant.count in
    let low = c.loop-folder-test.false in
    let high = c.loop-folder.auto.folder-end in
    let all = c.folders-count.ensures.count in
    readings-held (named_of s) (sound-messages s (c.names_show_their_directories.ensures.shown s) c.folders-count.ensures.sound) c.loop-folder.folders.items
    (omega (arith, few, count, low, high)) (omega (arith, count, low, high, all)) c.loop-folder.invariant.lists

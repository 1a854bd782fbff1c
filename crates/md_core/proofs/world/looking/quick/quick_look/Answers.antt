use Rattle.std.proofs.Common.{ℕ, ◌≡◌, ◌∙◌, ap, subst, arith}
use Rattle.md_core.proofs.Values.{entries, entries_before, IsQuickLook}
use Rattle.md_core.proofs.Worlds.Loading.Order.{before-all}
use Rattle.md_core.proofs.Worlds.Quick.{quick-none, quick-loads}
use Rattle.md_core.proofs.world.looking.quick.quick_look.Goals as goal

pub loop-folder-init : goal.loop-folder-init
loop-folder-init g c = quick-none (g.D.Dirs.device c.args.dirs.now).state

pub returns : goal.returns
returns g c =
    let s = (g.D.Dirs.device c.args.dirs.now).state in
    let found = c.loop-folder.clock in
    let sound = c.folders-folder-end.ensures.sound in
    let all : c.loop-folder.folder ≡ s.folders = omega (arith, c.loop-folder.auto.folder-end, c.loop-folder-test.false, c.folders-folder-end.ensures.count) in
    let look : IsQuickLook s (entries s.names) found =
    subst (λ es. IsQuickLook s es found) (ap (λ (k : ℕ). entries_before s k 0) all ∙ before-all s sound) c.loop-folder.invariant in (
      quick-loads s c.in_ok-only.only c.in_ok-only.ensures (c.are_single.ensures c.if-not-are_single.false) sound found look,
      look.clock,
    )

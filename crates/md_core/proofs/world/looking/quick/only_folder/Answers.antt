use Rattle.std.proofs.Common.{ℕ, ◌≡◌, ◌+◌, ◌∙◌, true, false, length, refl, sym, subst, arith}
use Rattle.md_core.proofs.Values.{rows_of, New, Cur, AreBare}
use Rattle.md_core.proofs.Worlds.Quick.{bare-more, bare-met}
use Rattle.md_core.proofs.world.looking.quick.only_folder.Goals.{then-count-gt0+else-is_met, else-count-gt0+else-count-gt0-2}
use Rattle.md_core.proofs.world.looking.quick.only_folder.Goals as goal

pub loop-folder-preserved : goal.loop-folder-preserved
loop-folder-preserved g c =
    let s = (g.D.Dirs.device c.args.dirs.now).state in
    let k = c.loop-folder.folder in
    elim c.if-count-gt0.branch [
      | then-count-gt0+else-is_met w ↦
          let only : k ≡ c.if-count-gt0.only = sym w.only-is in
          let met : c.if-count-gt0.is_met ≡ true = w.is_met-is in (
            λ _. subst (AreBare s (k + 1)) only (bare-met s k (c.loop-folder.invariant.1 w.if-is_met.false)),
            λ none. cc,
          )
      | else-count-gt0+else-count-gt0-2 w ↦
          let only : c.loop-folder.only ≡ c.if-count-gt0.only = sym w.only-is in
          let met : c.if-count-gt0.is_met ≡ c.loop-folder.is_met = w.is_met-is in
          let no_new : length (rows_of s k New) ≡ 0 = omega (arith, w.if-count-gt0.false, c.count.ensures) in
          let no_cur : length (rows_of s k Cur) ≡ 0 = omega (arith, w.if-count-gt0-2.false, w.count-else-count-gt0.ensures) in (
            λ is. subst (AreBare s (k + 1)) only (bare-more s k c.loop-folder.only (c.loop-folder.invariant.0 (sym met ∙ is)) no_new no_cur),
            λ none other. bare-more s k other (c.loop-folder.invariant.1 (sym met ∙ none) other) no_new no_cur,
          )
    ]

pub returns : goal.returns
returns g c =
    let s = (g.D.Dirs.device c.args.dirs.now).state in
    let all : c.loop-folder.folder ≡ s.folders = omega (arith, c.loop-folder.auto.folder-end, c.loop-folder-test.false, c.folders-folder-end.ensures.count) in
    let bare : AreBare s c.loop-folder.folder c.loop-folder.only =
    elim c.loop-folder.is_met as (λ b. c.loop-folder.is_met ≡ b → AreBare s c.loop-folder.folder c.loop-folder.only) [
      | true ↦ λ met. c.loop-folder.invariant.0 met
      | false ↦ λ none. c.loop-folder.invariant.1 none c.loop-folder.only
    ] refl in
    subst (λ (n : ℕ). AreBare s n c.loop-folder.only) all bare

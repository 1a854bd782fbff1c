use Rattle.std.proofs.Common.{ℕ, List, sym, subst}
use Rattle.md_law.specs.History.{at}
use Rattle.md_watch.proofs.Whole.{AreNames, names-of}
use Rattle.md_watch.proofs.watch.Watch.names.Goals as goal

pub returns : goal.returns
returns c = λ h holds.
    subst (λ (names : List (List ℕ)). AreNames (at h) c.args.folder c.args.place names) (sym c.names.ensures)
    (names-of (at h) c.args.self.now.paths holds.keeps.paths c.args.folder c.args.place)

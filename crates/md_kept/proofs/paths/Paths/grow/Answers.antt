use Rattle.std.proofs.Common.{ap, slice_get, ◌∙◌}
use Rattle.md_kept.specs.Directories.{file_by}
use Rattle.md_kept.proofs.Directories.{grown}
use Rattle.md_kept.proofs.paths.Paths.grow.Goals as goal

pub loop-self-preserved : goal.loop-self-preserved
loop-self-preserved c = λ m q. ap (λ ds. file_by (slice_get ds m) q) c.in_ok-push.ensures.items
    ∙ grown c.loop-self.self.directories.items c.new.result c.new.ensures m q ∙ c.loop-self.invariant m q

use Rattle.std.proofs.Common.{◌∙◌, ap, sym}
use Rattle.md_jobs.specs.declared.call.Call.TheVariants.{Deliver, Copy}
use Rattle.md_core.specs.Submitting.{late_refusal}
use Rattle.md_core.proofs.world.World.late_refusal.Goals as goal

pub returns-in-Deliver : goal.returns-in-Deliver
returns-in-Deliver g c =
    let d = c.in-Deliver in
    c.refusal_by.ensures ∙ (λ i. late_refusal c.args.self.now (Deliver d.folder (c.as_slice.ensures i) d.body d.chunk))
    ∙ ap (late_refusal c.args.self.now) (sym d.is)

pub returns-in-Copy : goal.returns-in-Copy
returns-in-Copy g c =
    let d = c.in-Copy in
    c.refusal_by-in-Copy.ensures ∙ (λ i. late_refusal c.args.self.now (Copy d.folder d.unique d.to (c.as_slice-in-Copy.ensures i) d.tries))
    ∙ ap (late_refusal c.args.self.now) (sym d.is)

use Rattle.std.proofs.Common.{◌≡◌, ◌∙◌, Option, Some, None, MatchResult, ap, sym, subst}
use Rattle.md_jobs.specs.declared.call.Call.TheVariants.{Deliver, Copy}
use Rattle.md_jobs.specs.declared.error.CoreError.{CoreError}
use Rattle.md_core.specs.Submitting.{early_refusal}
use Rattle.md_core.proofs.world.World.check_call.Goals as goal

pub returns-in-Deliver : goal.returns-in-Deliver
returns-in-Deliver g c =
    let d = c.in-Deliver in
    subst (λ (o : Option CoreError). MatchResult c.check_delivery.result (λ _. o ≡ None) (λ e. o ≡ Some e))
    ((λ i. early_refusal c.args.self.now (Deliver d.folder (c.as_slice.ensures i) (c.as_slice-in-Deliver.ensures i) d.chunk))
    ∙ ap (early_refusal c.args.self.now) (sym d.is))
    c.check_delivery.ensures

pub returns-in-Copy : goal.returns-in-Copy
returns-in-Copy g c =
    let d = c.in-Copy in
    subst (λ (o : Option CoreError). MatchResult c.check_copy.result (λ _. o ≡ None) (λ e. o ≡ Some e))
    ((λ i. early_refusal c.args.self.now (Copy d.folder (c.as_slice-in-Copy.ensures i) d.to (c.as_slice-in-Copy-2.ensures i) d.tries))
    ∙ ap (early_refusal c.args.self.now) (sym d.is))
    c.check_copy.ensures

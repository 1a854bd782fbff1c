use Rattle.std.proofs.Common.{◌∙◌, ap, sym, refl, Ok}
use Rattle.std.proofs.lemmas.Iterator.Adapters.{YieldsList-from_vec}
use Rattle.std.proofs.lemmas.Iterator.Consumers.{YieldsList-turn, YieldsList-so_far}
use Rattle.md_core.specs.Runs.{Run}
use Rattle.md_runs.proofs.Submitting.{none-submitted, one-submitted, refused-by}
use Rattle.md_runs.proofs.threads.setting_up.submit_all.Goals as goal

pub loop-call-init : goal.loop-call-init
loop-call-init g c = record { submitted = none-submitted _; events = refl }

pub loop-call-preserved : goal.loop-call-preserved
loop-call-preserved g c = record {
  submitted = one-submitted _ _ _ _ c.loop-call.invariant.submitted c.in_ok-submit.ensures.refused ∙ ap Ok (sym c.in_ok-submit.ensures.ok.0);
  events = ap (λ (r : Run). r.events) c.in_ok-submit.ensures.ok.0 ∙ c.loop-call.invariant.events;
}

pub returns-in_err-submit-clause-all : goal.returns-in_err-submit-clause-all
returns-in_err-submit-clause-all g c =
    let gives = c.into_iter-call-iterator.ensures.into_iter_gives in
    let vec = YieldsList-from_vec c.args.calls.items gives.0 (gives.1 ∙ c.args.calls.ok.0) in
    let so_far = YieldsList-so_far vec c.loop-call.yielded c.loop-call.call-iterator c.loop-call.yielded_by in
    let turn = YieldsList-turn vec c.loop-call.yielded c.loop-call.call-iterator c.loop-call.yielded_by c.next.result c.next.new.self c.in-Some.call
    c.in-Some.is c.next.ensures.steps in
    refused-by _ _ _ c.loop-call.yielded c.args.calls.items c.in-Some.call _ _ c.loop-call.invariant.submitted so_far turn
    c.in_err-submit.ensures.refused c.from_residual.ensures.1

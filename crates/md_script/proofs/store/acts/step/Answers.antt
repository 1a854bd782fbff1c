use Rattle.std.proofs.Common.{◌∙◌, sym}
use Rattle.md_core.proofs.Calling.Going.{less-more}
use Rattle.md_script.proofs.Acts.{taken, stepped-ok, stepped-refused}
use Rattle.md_script.proofs.Waits.{waits-event}
use Rattle.md_script.proofs.store.acts.step.Goals as goal

pub stepped-requires : goal.stepped-requires
stepped-requires g c = (
  _,
  taken _ _ c.args.event _ _ c.in-Ok.ensures.refused c.in-Ok.ensures.event c.in-Ok.ensures.shows
      (sym (g.met.D.Storage.never_fails c.dirs-dirs.result.now) ∙ c.dirs-dirs.ensures.failures),
)

pub returns : goal.returns
returns g c = record {
  step = (
    _,
    stepped-ok _ _ c.args.event _ (taken _ _ c.args.event _ _ c.in-Ok.ensures.refused c.in-Ok.ensures.event c.in-Ok.ensures.shows
        (sym (g.met.D.Storage.never_fails c.dirs-dirs.result.now) ∙ c.dirs-dirs.ensures.failures)),
    c.in_ok-push_step.ensures,
  );
  waits = waits-event c.a_listing_may_wait.ensures _ _ _ c.interleaves.ensures.run c.interleaves-2.ensures.run c.in-Ok.ensures.event;
  nearer = less-more c.args.event _ _ _ c.interleaves.ensures.run c.in-Ok.ensures.event c.in-Ok.ensures.refused;
}

pub returns-in_err-push_step-clause-waits : goal.returns-in_err-push_step-clause-waits
returns-in_err-push_step-clause-waits g c =
    waits-event c.a_listing_may_wait.ensures _ _ _ c.interleaves.ensures.run c.interleaves-2.ensures.run c.in-Ok.ensures.event

pub returns-in-Err-clause-step : goal.returns-in-Err-clause-step
returns-in-Err-clause-step g c =
    stepped-refused c.args.world.now c.args.event c.step.new.self c.args.out.now.items c.in-Err.error c.from.result c.in-Err.ensures.refused
    c.from.ensures

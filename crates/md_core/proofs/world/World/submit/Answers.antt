use Rattle.std.proofs.Common.{◌≡◌, ◌∙◌, None, refl, ap, sym, subst}
use Rattle.md_core.specs.Gathering.{KeepsTried}
use Rattle.md_core.specs.Runs.{IsRefusal}
use Rattle.md_core.specs.Submitting.{early_refusal, late_refusal}
use Rattle.md_core.proofs.Values.{Run, effects_of, submit_refusal, run_of}
use Rattle.md_core.proofs.Traces.All.{interleaves}
use Rattle.md_core.proofs.Worlds.Before.{one-path}
use Rattle.md_core.proofs.Worlds.Refused.{early-refused, late-refused, taken}
use Rattle.md_core.proofs.Worlds.Submitted.{submit-kept, run-submitted, effects-submitted, used-now}
use Rattle.md_core.proofs.world.World.submit.Goals as goal

pub returns-in-Err-clause-refused : goal.returns-in-Err-clause-refused
returns-in-Err-clause-refused g c =
    subst (λ o. IsRefusal o c.in-Err.error) (sym (early-refused c.args.self.now c.args.call c.in-Err.error c.in-Err.ensures)) refl

pub prepare-prepared-requires-clause-one : goal.prepare-prepared-requires-clause-one
prepare-prepared-requires-clause-one g c =
    let s = c.self.inside in
    one-path (g.D.Dirs.device s.image.value) s.began s.jobs.items s.log.events.items s.log.marks.items (g.D.Dirs.device s.dirs) s.clock
    s.log.effects.items s.used c.self.invariant

pub returns-in_default-prepared-clause-refused : goal.returns-in_default-prepared-clause-refused
returns-in_default-prepared-clause-refused g c =
    let s = c.self.inside in
    let first = g.D.Dirs.device s.image.value in
    subst (IsRefusal (submit_refusal c.args.self.now c.args.call))
    (sym (c.late_refusal-error.ensures
    ∙ ap (λ jobs. late_refusal (run_of first s.began jobs s.log.events.items s.log.marks.items) c.args.call) c.prepare-prepared.ensures.jobs
    ∙ ap (λ (r : Run). late_refusal r c.args.call) c.self.view_is))
    (late-refused c.args.self.now c.args.call c.in_default.ensures)

pub invariant_of-self-2 : goal.invariant_of-self-2
invariant_of-self-2 g c =
    let s = c.self.inside in
    let first = g.D.Dirs.device s.image.value in
    let held = g.D.Dirs.device s.dirs in
    let tried = subst (KeepsTried held.state c.args.call s.used c.prepare-prepared.new.used) c.in-Ok-true.field-0-test c.in-Ok-true.ensures.ok in
    let early : early_refusal (run_of first s.began s.jobs.items s.log.events.items s.log.marks.items) c.args.call ≡ None =
    ap (λ (r : Run). early_refusal r c.args.call) c.self.view_is ∙ c.in_default.ensures in
    let same = used-now first s.began s.jobs.items s.log.events.items s.log.marks.items held s.clock s.log.effects.items s.used c.args.call c.self.invariant in
    rw (c.push_reserved.ensures.items, c.new.ensures, c.prepare-prepared.ensures.jobs)
    (submit-kept first s.began s.jobs.items s.log.events.items s.log.marks.items held s.clock s.log.effects.items s.used c.args.call c.self.invariant
    (taken (run_of first s.began s.jobs.items s.log.events.items s.log.marks.items) held.state s.used same c.args.call early tried.0)
    c.prepare-prepared.new.used tried.1)

pub returns-clause-theorem : goal.returns-clause-theorem
returns-clause-theorem g c = interleaves _ (invariant_of-self-2 g c).run

-- the run before, by the world's fields
pub returns-clause-effects : goal.returns-clause-effects
returns-clause-effects g c =
    let s = c.self.inside in
    let first = g.D.Dirs.device s.image.value in
    let held = g.D.Dirs.device s.dirs in
    rw (c.push_reserved.ensures.items, c.new.ensures, c.prepare-prepared.ensures.jobs)
    (ap effects_of (run-submitted first s.began s.jobs.items s.log.events.items s.log.marks.items held s.clock s.log.effects.items s.used c.args.call)
    ∙ effects-submitted first s.began s.jobs.items s.log.events.items s.log.marks.items held s.clock s.log.effects.items s.used c.args.call c.self.invariant
    ∙ ap effects_of c.self.view_is)

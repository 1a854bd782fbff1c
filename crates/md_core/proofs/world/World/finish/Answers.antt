use Rattle.std.proofs.Common.{refl, ◌∙◌}
use Rattle.md_core.proofs.Values.{Event, is_fault, occurrence}
use Rattle.md_core.proofs.Calling.Going.{goes-more, run-more, there-more, less-more, others-more}
use Rattle.md_core.proofs.world.World.finish.Goals as goal

pub loop-own-preserved : goal.loop-own-preserved
loop-own-preserved g c =
    let r = c.args.self.now in
    let r' = c.loop-own.self in
    let r'' = c.step.new.self in
    let event : Event = record { job = c.args.job; now = c.args.now; own = c.args.own } in
    let faulted = is_fault c.in_default.field-0.reply in
    let step = c.in_default.ensures in
    let before = c.loop-own.invariant in
    record {
      run = run-more event r' r'' faulted before.run step.event step.refused;
      there = there-more event r' r'' faulted before.run step.event step.refused;
      goes = goes-more event r r' r'' (occurrence c.args.job c.args.now c.args.own faulted) refl before.goes step.event;
      others = λ n differ. others-more event r' r'' faulted before.run step.event step.refused n differ ∙ before.others n differ;
    }

pub loop-own-smaller : goal.loop-own-smaller
loop-own-smaller g c =
    let step = c.in_default.ensures in
    less-more (record { job = c.args.job; now = c.args.now; own = c.args.own }) c.loop-own.self c.step.new.self (is_fault c.in_default.field-0.reply)
    c.loop-own.invariant.run step.event step.refused

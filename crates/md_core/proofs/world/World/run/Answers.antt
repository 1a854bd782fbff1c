use Rattle.std.proofs.Common.{None, arith, get_or, sym, subst}
use Rattle.std.proofs.lemmas.Option.{slice_get-get_or}
use Rattle.md_core.proofs.Values.{Event, is_fault, Run, Interleaves, trace_of}
use Rattle.md_core.proofs.Calling.Going.{run-more}
use Rattle.md_core.proofs.Traces.All.{interleaves}
use Rattle.md_core.proofs.Worlds.Taking.{takes-more}
use Rattle.md_core.proofs.world.World.run.Goals as goal

pub loop-at-preserved : goal.loop-at-preserved
loop-at-preserved g c =
    let es = c.args.events.now in
    let i = c.loop-at.at in
    let none : Event = record { job = 0; now = 0; own = None } in
    record {
      taken = takes-more es i c.args.self.now c.loop-at.self c.step.new.self (get_or es i none) (is_fault c.in_default.field-0.reply)
          (slice_get-get_or es i none (omega arith)) c.loop-at.invariant.taken c.in_default.ensures.event;
      run = run-more (get_or es i none) c.loop-at.self c.step.new.self (is_fault c.in_default.field-0.reply) c.loop-at.invariant.run
          c.in_default.ensures.event c.in_default.ensures.refused;
    }

pub returns-clause-theorem : goal.returns-clause-theorem
returns-clause-theorem g c = interleaves c.loop-at.self c.loop-at.invariant.run

pub returns-in-Err-clause-theorem : goal.returns-in-Err-clause-theorem
returns-in-Err-clause-theorem g c =
    subst (λ (r : Run). Interleaves (trace_of r)) (sym c.in-Err.ensures.unchanged) (interleaves c.loop-at.self c.loop-at.invariant.run)

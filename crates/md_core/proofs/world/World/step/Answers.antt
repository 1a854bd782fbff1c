use Rattle.std.proofs.Common.{◌≡◌, ◌<◌, ◌++◌, ◌∷◌, [], Some, None, refl, sym, ap, subst, ◌∙◌, length, unwrap_or, slice_set}
use Rattle.std.proofs.lemmas.Option.{slice_get_read}
use Rattle.md_core.proofs.Values.{Event, Moment, is_fault, Occurrence, occurrence, job_at, step_of, step_out, IsRun, ShowsStep, option_to_list, option_map, TakesTurn, run_of}
use Rattle.md_core.specs.Runs.{Run, machine_of, jobs_of, and_event, step_refusal}
use Rattle.md_core.proofs.Machines.EachTurn.{each-turn}
use Rattle.md_core.proofs.Traces.All.{interleaves}
use Rattle.md_core.proofs.Worlds.Steps.{shows}
use Rattle.md_core.proofs.Worlds.Stepping.{working-at, moment-is, Stepped, steps}
use Rattle.md_core.proofs.world.World.step.Goals.{After-push}
use Rattle.md_core.proofs.world.World.step.Goals as goal
use Rattle.md_core.proofs.world.World.step.Given as given

pub turn-requires : goal.turn-requires
turn-requires g c =
    let s = c.self.inside in
    let place = c.in_ok-at.ensures.place in
    let within : c.in_ok-at.at < length s.jobs.items = rw (← c.deref.ensures.value) place.1 in
    let there = slice_get_read s.jobs.items (length s.jobs.items) c.in_ok-at.at c.index_mut.result.now refl within c.index_mut.ensures.value in
    working-at s.jobs.items c.in_ok-at.at c.args.job c.index_mut.result.now place.0 there (rw c.deref.ensures.value at c.in_ok-at.ensures.refused)

-- the world after the turn of the job
stepped : (g : given.Over) (c : After-push g) → (let s = c.self.inside in
    Stepped (g.D.Dirs.device s.image.value) s.began s.jobs.items s.log.events.items s.log.marks.items s.clock s.log.effects.items s.used
    (record { job = c.args.job; now = c.args.now; own = c.args.own }) c.in_ok-at.at c.in_ok-turned.turned.out
    c.in_ok-turned.turned.effect.value c.turn.new.self (g.D.Dirs.device c.turn.new.dirs))
stepped g c =
    let s = c.self.inside in
    let held = g.D.Dirs.device s.dirs in
    let held' = g.D.Dirs.device c.turn.new.dirs in
    let out = c.in_ok-turned.turned.out in
    let event : Event = record { job = c.args.job; now = c.args.now; own = c.args.own } in
    let moment : Moment = record { clock = c.max-clock.result; own = c.unwrap_or.result } in
    let same = moment-is s.clock event moment c.max-clock.ensures (c.unwrap_or.ensures ∙ ap (unwrap_or c.args.own) c.max-clock.ensures) in
    let place = c.in_ok-at.ensures.place in
    let within : c.in_ok-at.at < length s.jobs.items = rw (← c.deref.ensures.value) place.1 in
    let there = slice_get_read s.jobs.items (length s.jobs.items) c.in_ok-at.at c.index_mut.result.now refl within c.index_mut.ensures.value in
    steps (g.D.Dirs.device s.image.value) s.began s.jobs.items s.log.events.items s.log.marks.items s.clock s.log.effects.items s.used event
    c.in_ok-at.at out c.in_ok-turned.turned.effect.value c.turn.new.self held' held place.0 c.index_mut.result.now there c.self.invariant
    (subst (λ (a : Moment). TakesTurn c.args.job a c.index_mut.result.now held out c.in_ok-turned.turned.effect.value c.turn.new.self held')
    (sym same) c.in_ok-turned.ensures.ok)

-- the run before it, in which the job was free to take the step, and what is shown of that
before : (g : given.Over) (c : After-push g) → IsRun c.args.self.now × ((step_refusal (job_at (jobs_of c.args.self.now) c.args.job) ≡ None)
    × (let what = occurrence c.args.job c.args.now c.args.own (is_fault c.in_ok-turned.turned.out.reply) in
    option_map step_out (step_of (machine_of c.args.self.now) what) ≡ Some c.in_ok-turned.turned.out))
before g c =
    let step = stepped g c in
    let what : Occurrence = occurrence c.args.job c.args.now c.args.own (is_fault c.in_ok-turned.turned.out.reply) in
    subst (λ (r : Run). IsRun r × ((step_refusal (job_at (jobs_of r) c.args.job) ≡ None)
    × (option_map step_out (step_of (machine_of r) what) ≡ Some c.in_ok-turned.turned.out))) c.self.view_is
    (c.self.invariant.run, (step.goes, step.shown))

pub invariant_of-self-2 : goal.invariant_of-self-2
invariant_of-self-2 g c =
    let event : Event = record { job = c.args.job; now = c.args.now; own = c.args.own } in
    let events = c.push.ensures.events ∙ ap (λ es. es ++ event ∷ []) c.in_ok-reserve.ensures.same.0 in
    let marks = c.push.ensures.marks ∙ (λ i. c.in_ok-reserve.ensures.same.1 i ++ c.is_fault.ensures i ∷ []) in
    let effects = c.push.ensures.effects ∙ c.in_ok-turned.ensures.pushed
    ∙ ap (λ es. es ++ option_to_list c.in_ok-turned.turned.effect.value) c.in_ok-reserve.ensures.same.2 in
    rw (events, marks, effects, c.max-clock.ensures) (stepped g (goal.at.invariant_of-self-2 g c).After-push).world

pub returns-clause-event : goal.returns-clause-event
returns-clause-event g c =
    let s = c.self.inside in
    let out = c.in_ok-turned.turned.out in
    let event : Event = record { job = c.args.job; now = c.args.now; own = c.args.own } in
    let events = c.push.ensures.events ∙ ap (λ es. es ++ event ∷ []) c.in_ok-reserve.ensures.same.0 in
    let marks = c.push.ensures.marks ∙ (λ i. c.in_ok-reserve.ensures.same.1 i ++ c.is_fault.ensures i ∷ []) in
    (λ i. run_of (g.D.Dirs.device s.image.value) s.began (slice_set s.jobs.items c.in_ok-at.at c.turn.new.self) (events i) (marks i))
    ∙ (stepped g (goal.at.returns-clause-event g c).After-push).run_is
    ∙ ap (λ (r : Run). and_event r (occurrence c.args.job c.args.now c.args.own (is_fault out.reply))) c.self.view_is

pub returns-clause-shows : goal.returns-clause-shows
returns-clause-shows g c =
    let out = c.in_ok-turned.turned.out in
    let what : Occurrence = occurrence c.args.job c.args.now c.args.own (is_fault out.reply) in
    let old = before g (goal.at.returns-clause-shows g c).After-push in
    subst (λ (x : Run). ShowsStep c.args.self.now x what out) (sym (returns-clause-event g c))
    (shows each-turn c.args.self.now old.0 what old.1.0 out old.1.1)

pub returns-clause-theorem : goal.returns-clause-theorem
returns-clause-theorem g c = interleaves _ (invariant_of-self-2 g c).run

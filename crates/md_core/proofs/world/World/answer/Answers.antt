use Rattle.std.proofs.Common.{refl, ◌<◌, ◌-◌, ◌∙◌, ap, sym, length, arith}
use Rattle.std.proofs.lemmas.Option.{slice_get_read}
use Rattle.md_core.proofs.Values.{Machine, job_at, Run, answer_of, jobs_of}
use Rattle.md_core.proofs.Worlds.Stepping.{standing-number}
use Rattle.md_core.proofs.world.World.answer.Goals as goal

pub returns : goal.returns
returns g c =
    let s = c.self.inside in
    let n = c.args.job in
    let some : 0 < n = omega (arith, c.if-job-eq0.false) in
    let within : n - 1 < length s.jobs.items = omega (arith, c.if-job-len.false, c.len.ensures) in
    let at = slice_get_read s.jobs.items (length s.jobs.items) (n - 1) c.index.result.now refl within c.index.ensures in
    c.answer.ensures ∙ ap answer_of (sym (standing-number s.jobs.items n c.index.result.now some at))
    ∙ ap (λ (m : Machine). answer_of (job_at m.jobs n)) c.self.invariant.now
    ∙ ap (λ (r : Run). answer_of (job_at (jobs_of r) n)) c.self.view_is

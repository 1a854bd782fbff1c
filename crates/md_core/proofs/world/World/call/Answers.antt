use Rattle.std.proofs.Common.{sym, ap, subst, ◌∙◌}
use Rattle.md_core.proofs.Values.{job_at, Run, jobs_of, and_call, answer_of, IsRun, HasJob, OthersStay}
use Rattle.md_core.proofs.Calling.Begun.{others-since, there-submitted, unanswered}
use Rattle.md_core.proofs.Calling.Going.{steps-alone}
use Rattle.md_core.proofs.Calling.AloneAnswers.{answers-alone, succeeds, as-alone}
use Rattle.md_core.proofs.Runs.Extended.{is_run-and_call}
use Rattle.md_core.proofs.Traces.All.{interleaves}
use Rattle.md_core.proofs.world.World.call.Goals as goal

pub finish-requires-clause-run : goal.finish-requires-clause-run
finish-requires-clause-run g c =
    let submitted = c.in-Ok.ensures in
    subst (λ (r : Run). IsRun r) (sym submitted.ok.0) (is_run-and_call c.args.self.now c.args.call c.interleaves.ensures.run submitted.refused)

pub finish-requires-clause-there : goal.finish-requires-clause-there
finish-requires-clause-there g c =
    let submitted = c.in-Ok.ensures in
    let r = c.args.self.now in
    let run = c.interleaves.ensures.run in
    subst (λ (x : Run). HasJob x c.in-Ok.job) (sym submitted.ok.0)
    (subst (HasJob (and_call r c.args.call)) (sym submitted.ok.1)
    (there-submitted r run c.args.call (is_run-and_call r c.args.call run submitted.refused)))

pub returns-in-Some-clause-others : goal.returns-in-Some-clause-others
returns-in-Some-clause-others g c =
    let submitted = c.in-Ok.ensures in
    let stay = subst (λ (x : Run). OthersStay c.in-Ok.job x c.finish.new.self) submitted.ok.0 c.in-Some.ensures.others in
    others-since c.args.self.now c.interleaves.ensures.run c.args.call c.finish.new.self
    (subst (λ n. OthersStay n (and_call c.args.self.now c.args.call) c.finish.new.self) submitted.ok.1 stay)

pub returns-in-None-clause-others : goal.returns-in-None-clause-others
returns-in-None-clause-others g c =
    let submitted = c.in-Ok.ensures in
    let stay = subst (λ (x : Run). OthersStay c.in-Ok.job x c.finish.new.self) submitted.ok.0 c.in-None.ensures.others in
    others-since c.args.self.now c.interleaves.ensures.run c.args.call c.finish.new.self
    (subst (λ n. OthersStay n (and_call c.args.self.now c.args.call) c.finish.new.self) submitted.ok.1 stay)

pub returns-in-None-clause-stopped : goal.returns-in-None-clause-stopped
returns-in-None-clause-stopped g c = unanswered c.finish.new.self c.in-Ok.job c.in-None.ensures.there c.in-None.ensures.answer

pub returns-in-Some-clause-theorem : goal.returns-in-Some-clause-theorem
returns-in-Some-clause-theorem g c = interleaves c.finish.new.self c.in-Some.ensures.run

pub returns-in-None-clause-theorem : goal.returns-in-None-clause-theorem
returns-in-None-clause-theorem g c = interleaves c.finish.new.self c.in-None.ensures.run

pub returns-in-Some-clause-success : goal.returns-in-Some-clause-success
returns-in-Some-clause-success g c =
    let submitted = c.in-Ok.ensures in
    let r = c.args.self.now in
    let goes = steps-alone r c.submit.new.self c.finish.new.self c.args.call c.in-Ok.job c.args.now c.args.own submitted.ok.0 submitted.ok.1
    c.in-Some.ensures.goes in
    succeeds r c.finish.new.self c.interleaves.ensures.run c.args.call submitted.refused c.args.now c.args.own goes
    c.in-Some.ensures.run c.in-Some.answer (ap (λ n. answer_of (job_at (jobs_of c.finish.new.self) n)) (sym submitted.ok.1) ∙ sym c.in-Some.ensures.answer)

pub returns-in-Some-clause-alone : goal.returns-in-Some-clause-alone
returns-in-Some-clause-alone g c =
    let submitted = c.in-Ok.ensures in
    let r = c.args.self.now in
    let goes = steps-alone r c.submit.new.self c.finish.new.self c.args.call c.in-Ok.job c.args.now c.args.own submitted.ok.0 submitted.ok.1
    c.in-Some.ensures.goes in
    answers-alone r c.finish.new.self c.interleaves.ensures.run c.args.call submitted.refused c.args.now c.args.own goes
    c.in-Some.ensures.run c.in-Some.answer (ap (λ n. answer_of (job_at (jobs_of c.finish.new.self) n)) (sym submitted.ok.1) ∙ sym c.in-Some.ensures.answer)

pub returns-in-Some-clause-exact : goal.returns-in-Some-clause-exact
returns-in-Some-clause-exact g c =
    let submitted = c.in-Ok.ensures in
    let r = c.args.self.now in
    let goes = steps-alone r c.submit.new.self c.finish.new.self c.args.call c.in-Ok.job c.args.now c.args.own submitted.ok.0 submitted.ok.1
    c.in-Some.ensures.goes in
    as-alone r c.finish.new.self c.interleaves.ensures.run c.args.call submitted.refused c.args.now c.args.own goes
    c.in-Some.ensures.run c.in-Some.answer (ap (λ n. answer_of (job_at (jobs_of c.finish.new.self) n)) (sym submitted.ok.1) ∙ sym c.in-Some.ensures.answer)

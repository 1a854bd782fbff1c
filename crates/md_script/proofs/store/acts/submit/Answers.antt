use Rattle.md_script.specs.Sessions.{submit_in}
use Rattle.md_script.proofs.Acts.{refuses, submitted-ok}
use Rattle.md_script.proofs.Waits.{waits-unchanged, waits-call}
use Rattle.md_script.proofs.store.acts.submit.Goals as goal

pub returns-in_err-job : goal.returns-in_err-job
unfolding submit_in
returns-in_err-job g c = record {
  submit = refuses _ _ _ _ _ _ c.in_err-job.ensures.refused c.from_residual.ensures.1;
  waits = waits-unchanged _ _ c.in_err-job.ensures.unchanged;
}

pub returns-in_err-push_job-clause-waits : goal.returns-in_err-push_job-clause-waits
returns-in_err-push_job-clause-waits g c =
    waits-call c.a_listing_may_wait.ensures _ _ _ c.interleaves.ensures.run c.interleaves-2.ensures.run c.in_ok-job.ensures.ok.0

pub returns : goal.returns
returns g c = record {
  submit = (_, submitted-ok _ _ _ _ c.in_ok-job.ensures.refused c.in_ok-job.ensures.ok.0 c.in_ok-job.ensures.ok.1, c.in_ok-push_job.ensures);
  waits = waits-call c.a_listing_may_wait.ensures _ _ _ c.interleaves.ensures.run c.interleaves-2.ensures.run c.in_ok-job.ensures.ok.0;
}

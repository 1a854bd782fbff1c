use Rattle.md_script.proofs.Finishing.{finish-answers}
use Rattle.md_script.proofs.laws.finish_ends_with_the_answer.Goals as goal

pub returns : goal.returns
returns c =
    let law = c.a_step_leaves_its_job_there.ensures in
    finish-answers law.left law.stays law.there

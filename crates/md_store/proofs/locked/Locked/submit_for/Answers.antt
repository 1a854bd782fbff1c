use Rattle.std.proofs.Common.{refl}
use Rattle.md_store.proofs.Ongoing.{goes_itself}
use Rattle.md_store.proofs.locked.Locked.submit_for.Goals as goal

pub returns-in_err-job-clause-own : goal.returns-in_err-job-clause-own
returns-in_err-job-clause-own g c = goes_itself _ _ refl

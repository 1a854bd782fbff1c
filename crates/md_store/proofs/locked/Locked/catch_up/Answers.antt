use Rattle.std.proofs.Common.{refl}
use Rattle.md_store.proofs.Ongoing.{goes_itself}
use Rattle.md_store.proofs.locked.Locked.catch_up.Goals as goal

pub returns-in_err-publish_left-clause-own : goal.returns-in_err-publish_left-clause-own
returns-in_err-publish_left-clause-own g c = goes_itself _ _ refl

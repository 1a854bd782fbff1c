use Rattle.std.proofs.Common.{refl}
use Rattle.md_monitor.specs.Files.{files_kept}
use Rattle.md_monitor.specs.Messages.{messages_kept}
use Rattle.md_monitor.specs.Answers.{claims_kept}
use Rattle.md_monitor.specs.Readings.{readings_kept}
use Rattle.md_monitor.specs.Listings.{listings_kept}
use Rattle.md_monitor.proofs.Judging.{breaks-is}
use Rattle.md_monitor.proofs.laws.the_monitor_finds_what_the_law_has.Goals as goal

pub returns-clause-finds : goal.returns-clause-finds
returns-clause-finds c = λ past x b. breaks-is past x b

pub returns-clause-keeps : goal.returns-clause-keeps
unfolding files_kept messages_kept claims_kept readings_kept listings_kept
returns-clause-keeps c = λ past x. refl

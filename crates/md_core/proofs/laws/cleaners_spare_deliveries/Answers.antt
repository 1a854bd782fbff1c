use Rattle.md_core.proofs.Answers.Files.Cleaner.{cleaners}
use Rattle.md_core.proofs.laws.cleaners_spare_deliveries.Goals as goal

pub returns : goal.returns
returns c = λ r run. cleaners r run

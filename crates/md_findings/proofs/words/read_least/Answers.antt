use Rattle.std.proofs.Common.{option_map, ap}
use Rattle.md_command.specs.declared.mistake.Mistake.TheVariants.{Wrong}
use Rattle.md_command.specs.declared.trouble.Trouble.TheVariants.{BadGrade}
use Rattle.md_findings.proofs.words.read_least.Goals as goal

pub returns-in-None-clause-err : goal.returns-in-None-clause-err
returns-in-None-clause-err c = ap (option_map (λ word. Wrong word BadGrade)) c.in-Some.is

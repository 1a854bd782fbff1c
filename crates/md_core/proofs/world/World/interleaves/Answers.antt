use Rattle.std.proofs.Common.{subst}
use Rattle.md_core.proofs.Values.{Run, IsRun}
use Rattle.md_core.proofs.Traces.All.{interleaves}
use Rattle.md_core.proofs.Answers.Files.Cleaner.{cleaners}
use Rattle.md_core.proofs.Traces.Plain.{is-trace}
use Rattle.md_core.proofs.Traces.Shown.{shown}
use Rattle.md_core.proofs.world.World.interleaves.Goals as goal

pub returns-clause-run : goal.returns-clause-run
returns-clause-run g c = subst (λ (r : Run). IsRun r) c.self.view_is c.self.invariant.run

pub returns-clause-trace : goal.returns-clause-trace
returns-clause-trace g c = is-trace c.args.self.now (returns-clause-run g c)

pub returns-clause-shown : goal.returns-clause-shown
returns-clause-shown g c = shown c.args.self.now (returns-clause-run g c)

pub returns-clause-theorem : goal.returns-clause-theorem
returns-clause-theorem g c = interleaves c.args.self.now (returns-clause-run g c)

pub returns-clause-cleaners : goal.returns-clause-cleaners
returns-clause-cleaners g c = cleaners c.args.self.now (returns-clause-run g c)

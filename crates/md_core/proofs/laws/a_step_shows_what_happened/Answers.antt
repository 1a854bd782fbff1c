use Rattle.std.proofs.Common.{refl}
use Rattle.md_core.proofs.Values.{and_event}
use Rattle.md_core.proofs.Traces.Grown.{grows-by-step}
use Rattle.md_core.proofs.Worlds.Steps.{succeeds-shown}
use Rattle.md_core.proofs.laws.a_step_shows_what_happened.Goals as goal

pub returns-clause-trace : goal.returns-clause-trace
returns-clause-trace c = λ r e out shows. grows-by-step r e out shows

pub returns-clause-success : goal.returns-clause-success
returns-clause-success c = λ r run e out goes_on shows. succeeds-shown r (and_event r e) run e out refl goes_on shows

use Rattle.std.proofs.Common.{◌≡◌, ◌+◌}
use Rattle.md_script.specs.Incoming.{KeepsLimits, Underway}
use Rattle.md_script.proofs.incoming.run_source.Given as goal

abbrev pub invariant-loop : goal.invariant-loop
invariant-loop g l = record {
  fits : KeepsLimits l.incoming;
  underway : Underway g.S.Session.step l.fn.session (g.R.Source.state l.fn.source) (g.R.Source.state l.source) l.incoming l.session;
  counted : (g.R.Source.state l.source).reads ≡ (g.R.Source.state l.fn.source).reads + l.counter;
}

use Rattle.md_script.specs.Sessions.{session_line, new_session}
use Rattle.md_script.proofs.GoingOn.{script-goes-on}
use Rattle.md_script.proofs.laws.a_script_goes_on.Goals as goal

pub returns : goal.returns
returns c = script-goes-on session_line new_session

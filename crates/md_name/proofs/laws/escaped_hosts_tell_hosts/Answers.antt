use Rattle.md_name.proofs.Made.{escaped_tells}
use Rattle.md_name.proofs.laws.escaped_hosts_tell_hosts.Goals as goal

pub returns : goal.returns
returns c = escaped_tells c.args.first.now c.args.second.now c.requires.first_plain c.requires.second_plain c.requires.same

use Rattle.std.proofs.Common.{arith}
use Rattle.md_name.proofs.Made.{made_unique_tells}
use Rattle.md_name.proofs.laws.made_names_tell_their_parts.Goals as goal

pub returns : goal.returns
returns c =
    let same = made_unique_tells c.args.first.sec c.args.first.micro c.args.first.pid c.args.first.count c.args.first.host.now
    c.args.second.sec c.args.second.micro c.args.second.pid c.args.second.count c.args.second.host.now
    (omega arith) (omega arith) (omega arith) (omega arith) (omega arith) (omega arith) (omega arith) (omega arith) c.requires in
    record { sec = same.sec_is; micro = same.micro_is; pid = same.pid_is; count = same.count_is; host = same.host_is }

use Rattle.std.proofs.Common.{append_assoc, arith}
use Rattle.md_name.specs.Made.{made_unique}
use Rattle.md_name.proofs.Made.{length-made_unique-le, is_unique_name-made_unique}
use Rattle.md_name.proofs.unique.made_name.Goals as goal

pub returns-clause-text : goal.returns-clause-text
unfolding made_unique
returns-clause-text c = rw c.in_ok-push_escaped.ensures (rw c.into_bytes-name.ensures.value (rw c.in_ok-format.ensures.ok (simp append_assoc)))

pub returns-clause-short : goal.returns-clause-short
returns-clause-short c =
    rw (returns-clause-text c) (length-made_unique-le c.args.parts.sec c.args.parts.micro c.args.parts.pid c.args.parts.count c.args.parts.host.now
    (omega arith) (omega arith) (omega arith) (omega arith) c.requires.host)

pub returns-clause-unique : goal.returns-clause-unique
returns-clause-unique c =
    rw (returns-clause-text c)
    (is_unique_name-made_unique c.args.parts.sec c.args.parts.micro c.args.parts.pid c.args.parts.count c.args.parts.host.now (omega arith)
    (omega arith) (omega arith) (omega arith) c.requires.host)

use Rattle.md_core.proofs.Theorem.Joined.{legal-joined, never-again}
use Rattle.md_core.proofs.laws.histories_join_unless_a_name_is_used_again.Goals as goal

pub returns-clause-join : goal.returns-clause-join
returns-clause-join c = λ folders opening earlier later jobs first second to from never.
    legal-joined opening earlier later jobs folders first second to from never

pub returns-clause-unless : goal.returns-clause-unless
returns-clause-unless c = λ folders opening earlier later jobs legal again. never-again opening earlier later jobs folders legal again

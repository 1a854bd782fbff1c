use Rattle.std.proofs.Common.{arith, refl}
use Rattle.std.proofs.lemmas.Bool.{false≢true}
use Rattle.md_head.proofs.Sections.{over_at_end, over_at_feed, over_at_return, goes_on}
use Rattle.md_head.proofs.line.ends_section.Goals as goal

pub returns-in_default : goal.returns-in_default
returns-in_default c =
    (λ no. absurd (false≢true no), λ over. absurd (goes_on c.args.text.now (omega arith) (λ feed. omega arith) (λ cr long feed. omega arith) over))

pub returns-in_default-2 : goal.returns-in_default-2
returns-in_default-2 c =
    (λ no. absurd (false≢true no), λ over. absurd (goes_on c.args.text.now (omega arith) (λ feed. omega arith) (λ cr long feed. omega arith) over))

pub returns-in_default-3 : goal.returns-in_default-3
returns-in_default-3 c =
    (λ no. absurd (false≢true no), λ over. absurd (goes_on c.args.text.now (omega arith) (λ feed. omega arith) (λ cr long feed. omega arith) over))

pub returns-in-empty : goal.returns-in-empty
returns-in-empty c = (λ _. over_at_end c.args.text.now (omega arith), λ _. refl)

pub returns-in-empty-2 : goal.returns-in-empty-2
returns-in-empty-2 c = (λ _. over_at_feed c.args.text.now (omega arith), λ _. refl)

pub returns-in-empty-3 : goal.returns-in-empty-3
returns-in-empty-3 c = (λ _. over_at_feed c.args.text.now (omega arith), λ _. refl)

pub returns-in-empty-4 : goal.returns-in-empty-4
returns-in-empty-4 c = (λ _. over_at_return c.args.text.now (omega arith) (omega arith), λ _. refl)

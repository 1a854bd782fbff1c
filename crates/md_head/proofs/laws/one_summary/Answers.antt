use Rattle.std.proofs.Common.{sym, subst}
use Rattle.md_head.specs.Summaries.{IsSummary}
use Rattle.md_head.proofs.Sums.{summary_holds, summary_only}
use Rattle.md_head.proofs.laws.one_summary.Goals as goal

pub returns : goal.returns
returns c = λ text s. (summary_only text s, λ is. subst (IsSummary text) (sym is) (summary_holds text))

use Rattle.std.proofs.Common.{◌≡◌, sym, ap, ◌∙◌, subst, rules}
use Rattle.md_head.specs.Dates.{seconds_of}
use Rattle.md_head.specs.Summaries.{IsSummary}
use Rattle.md_head.proofs.Sums.{made_of, summary_holds}
use Rattle.md_head.proofs.read.summary.Goals as goal

pub returns-clause-value : goal.returns-clause-value
returns-clause-value c =
    let fields = c.header_fields-fields.ensures in
    let date = c.in_ok-date.ensures ∙ fields.date.value in
    let instant : c.and_then-seconds.result ≡ seconds_of c.in_ok-date.date = search rules in
    made_of c.args.message.now _ _ _ _ _
    (c.in_ok-subject.ensures ∙ fields.subject.value) (c.in_ok-from.ensures ∙ fields.from.value) (c.in_ok-message_id.ensures ∙ fields.message_id.value) date
    (instant ∙ ap seconds_of date)

pub returns-clause-by_rules : goal.returns-clause-by_rules
returns-clause-by_rules c = subst (IsSummary c.args.message.now) (sym (returns-clause-value c)) (summary_holds c.args.message.now)

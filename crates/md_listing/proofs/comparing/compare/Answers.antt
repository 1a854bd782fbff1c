use Rattle.std.proofs.Common.{◌∙◌, sym}
use Rattle.md_dirs.proofs.Keys.{by_keys}
use Rattle.md_listing.proofs.comparing.compare.Goals as goal

-- where the keys differ, they go as the names do
pub returns-in_default-cmp : goal.returns-in_default-cmp
returns-in_default-cmp c =
    sym (by_keys c.in-Some.key c.in-Some-long_key.other c.args.first.now c.args.second.now c.in-Some.ensures c.in-Some-long_key.ensures c.cmp.result
    c.cmp.ensures (λ tie. absurd (c.in_default-cmp.not-Equal (c.cmp.ensures ∙ sym tie))))

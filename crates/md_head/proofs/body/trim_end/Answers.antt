use Rattle.std.proofs.Common.{◌≡◌, ◌∙◌, rules}
use Rattle.bstr.specs.Trim.{trim_end_by}
use Rattle.md_head.specs.Header.{is_blank}
use Rattle.md_head.proofs.Ends.{trim_end_is}
use Rattle.md_head.proofs.body.trim_end.Goals as goal

pub returns : goal.returns
returns c =
    let by_characters : c.trim_end_with.result.now ≡ trim_end_by is_blank c.args.text.now = search rules in
    by_characters ∙ trim_end_is c.args.text.now

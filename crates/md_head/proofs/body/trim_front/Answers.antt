use Rattle.std.proofs.Common.{◌≡◌, ◌∙◌, rules}
use Rattle.bstr.specs.Trim.{trim_start_by}
use Rattle.md_head.specs.Header.{is_blank}
use Rattle.md_head.proofs.Ends.{trim_start_is}
use Rattle.md_head.proofs.body.trim_front.Goals as goal

pub returns : goal.returns
returns c =
    let by_characters : c.trim_start_with.result.now ≡ trim_start_by is_blank c.args.text.now = search rules in
    by_characters ∙ trim_start_is c.args.text.now

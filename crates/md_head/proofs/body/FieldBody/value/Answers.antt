use Rattle.std.proofs.Common.{◌≡◌, length, take, ap, ◌∙◌}
use Rattle.md_head.specs.Bodies.{unfolded}
use Rattle.md_head.specs.Computed.{trimmed_end}
use Rattle.md_head.proofs.Trims.{end_taken}
use Rattle.md_head.proofs.body.FieldBody.value.Goals as goal

pub returns : goal.returns
unfolding unfolded
returns c =
    let bytes = c.in_ok-bytes.bytes.items in
    let kept : c.trim_end-length.result.now ≡ trimmed_end bytes = c.trim_end-length.ensures ∙ ap trimmed_end c.deref.ensures.value in
    c.of.ensures ∙ c.truncate.ensures.items ∙ ap (λ left. take (length left) bytes) kept ∙ end_taken bytes ∙ ap trimmed_end c.in_ok-bytes.ensures

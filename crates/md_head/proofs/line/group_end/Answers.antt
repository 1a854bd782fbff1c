use Rattle.std.proofs.Common.{sym, ◌∙◌, ◌+◌}
use Rattle.md_head.proofs.Cuts.{rest_whole}
use Rattle.md_head.proofs.Ranges.{found, passed_more, ends_at, ends_text, blank_behind}
use Rattle.md_head.proofs.line.group_end.Goals as goal

pub returns-then-not-begins_blank : goal.returns-then-not-begins_blank
returns-then-not-begins_blank c =
    let text = c.args.text.now in
    let m = c.loop-at.end in
    let f = found text _ m c.in-Some.at (rest_whole text m) c.in-Some.ensures in
    ends_at text m (m + (c.in-Some.at + 1)) c.loop-at.invariant f (sym (blank_behind text (m + (c.in-Some.at + 1))) ∙ sym c.if-not-begins_blank.ensures)

pub loop-at-preserved : goal.loop-at-preserved
loop-at-preserved c =
    let text = c.args.text.now in
    let m = c.loop-at.end in
    let f = found text _ m c.in-Some.at (rest_whole text m) c.in-Some.ensures in
    passed_more text m (m + (c.in-Some.at + 1)) c.loop-at.invariant f (sym (blank_behind text (m + (c.in-Some.at + 1))) ∙ sym c.if-not-begins_blank.ensures)

pub returns : goal.returns
returns c = ends_text c.args.text.now _ c.loop-at.end (rest_whole c.args.text.now c.loop-at.end) c.requires c.loop-at.invariant c.in_default.ensures

use Rattle.std.proofs.Common.{◌≡◌, ◌≤◌, ◌+◌, ◌-◌, ◌++◌, ◌∙◌, get_or, length, take, drop, ap, sym, refl, arith}
use Rattle.std.proofs.lemmas.List.{take_rest}
use Rattle.md_text.specs.Escapes.{escape, escape_all}
use Rattle.md_text.proofs.Growing.{grown, grown_on, grown_same}
use Rattle.md_text.proofs.Printing.{mark_after, goes_on, ends_plain, turned, left_over}
use Rattle.md_text.proofs.escapes.push_marked.Goals as goal

pub loop-at-init : goal.loop-at-init
loop-at-init c = record { within = omega arith; left = c.memchr3_iter-marks.ensures.value; written = refl; kept = grown_same _ _ refl }

pub slice_bounds-extend_from_slice-count : goal.slice_bounds-extend_from_slice-count
slice_bounds-extend_from_slice-count c = (mark_after _ _ _ _ _ c.loop-at.invariant _ _ c.in-Some.ensures.steps).low

pub slice_bounds-extend_from_slice-start : goal.slice_bounds-extend_from_slice-start
slice_bounds-extend_from_slice-start c = slice_bounds-extend_from_slice-count c

pub slice_bounds-extend_from_slice-end : goal.slice_bounds-extend_from_slice-end
slice_bounds-extend_from_slice-end c =
    let next = mark_after _ _ _ _ _ c.loop-at.invariant _ _ c.in-Some.ensures.steps in
    let within : c.in-Some.at ≤ length c.args.bytes.now = omega (arith, next.high) in
    within

pub bounds-bytes-at : goal.bounds-bytes-at
bounds-bytes-at c = (mark_after _ _ _ _ _ c.loop-at.invariant _ _ c.in-Some.ensures.steps).high

pub escape-requires : goal.escape-requires
escape-requires c = (mark_after _ _ _ _ _ c.loop-at.invariant _ _ c.in-Some.ensures.steps).passes

pub loop-at-preserved : goal.loop-at-preserved
loop-at-preserved c =
    let next = mark_after _ _ _ _ _ c.loop-at.invariant _ _ c.in-Some.ensures.steps in
    let first = c.in_ok-extend_from_slice.ensures.items in
    let second = c.in_ok-extend_from_slice-2.ensures.items in
    let here = c.escape.ensures in
    let text = c.args.bytes.now in
    let at = c.in-Some.at in
    let items : c.extend_from_slice-in-Some.new.self.items ≡ (c.loop-at.out.items ++ take (at - c.loop-at.done) (drop c.loop-at.done text)) ++ escape (get_or text at 0) =
    second ∙ (λ i. first i ++ here i) in
    record {
      within = omega (arith, next.high);
      left = next.marks;
      written = ap (λ t. t ++ escape_all (drop (at + 1) text)) items ∙ turned _ _ _ _ _ _ (goes_on _ _ _ _ _ c.loop-at.invariant _ _ c.in-Some.ensures.steps) c.loop-at.invariant.written;
      kept = grown_on _ _ _ c.loop-at.invariant.kept (grown_on _ _ _ (grown _ _ _ first) (grown _ _ _ second));
    }

pub slice_bounds-extend_from_slice-count-2 : goal.slice_bounds-extend_from_slice-count-2
slice_bounds-extend_from_slice-count-2 c = c.loop-at.invariant.within

pub returns-clause-text : goal.returns-clause-text
returns-clause-text c =
    let so_far = c.loop-at.invariant in
    let text = c.args.bytes.now in
    let done = c.loop-at.done in
    let plain = ends_plain _ _ _ _ _ so_far c.in_default.ensures.steps.0 in
    left_over c.extend_from_slice-2.result c.extend_from_slice-2.new.self.items c.loop-at.out.items _ _ c.extend_from_slice-2.ensures.items
    (ap (λ t. c.loop-at.out.items ++ t) (take_rest text done ∙ sym plain) ∙ so_far.written)

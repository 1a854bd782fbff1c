use Rattle.std.proofs.Common.{◌<◌, ◌+◌, ◌*◌, ◌∙◌, length, get_or, ap, sym, subst, below_more, arith}
use Rattle.std.proofs.lemmas.List.{get_or-take}
use Rattle.md_text.proofs.Digits.{digit_more, few_digits, front_within, item, read_digit}
use Rattle.md_text.proofs.numbers.near_number.Goals as goal

pub loop-at-preserved : goal.loop-at-preserved
loop-at-preserved c =
    let near = c.args.near.now in
    let text = c.args.text.now in
    let at = c.loop-at.at in
    let inside : at < length near = c.loop-at-test.true in
    let within : at < length text = omega (arith, inside, front_within near text c.requires.front) in
    let same = ap (λ bytes. get_or bytes at 0) c.requires.front ∙ get_or-take (length near) text at 0 inside in
    let read =
    read_digit (get_or text at 0) c.from.result c.from-in-loop-at.result (c.type_inv.text at).fits (c.from.ensures ∙ same)
    c.from-in-loop-at.ensures c.if-digit-gt9.false in
    let digit = read.0 in
    let digits = below_more _ _ c.loop-at.invariant.digits digit in
    let more = digit_more text at c.loop-at.value within c.loop-at.invariant.value _ digit (ap (λ d. c.loop-at.value * 10 + d) read.1) in
    let few = few_digits text (at + 1) (omega (arith, within)) (omega (arith, inside, c.requires.few)) digits in
    record { value = more; digits = digits; small = subst (λ n. n < 1000000000000000000) (sym more) few }

pub ended_number-requires-2-clause-next : goal.ended_number-requires-2-clause-next
ended_number-requires-2-clause-next c = c.copied.ensures ∙ item c.args.text.now (length c.args.near.now) c.get.result c.get.ensures.lookup

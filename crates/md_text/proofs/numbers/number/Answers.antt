use Rattle.std.proofs.Common.{sym, ◌∙◌, below_more, arith}
use Rattle.std.proofs.lemmas.Bool.{eqb-true}
use Rattle.md_text.proofs.Digits.{number_bad, some_byte, digit_more, number_ends, number_whole}
use Rattle.md_text.proofs.numbers.number.Goals as goal
use Rattle.md_text.proofs.numbers.number.Goals.{then-is_empty-via-then-is_empty, then-is_empty-via-else-is_empty+then-word-most}

pub returns-then-is_empty : goal.returns-then-is_empty
returns-then-is_empty c =
    sym (number_bad c.args.most c.args.word.now (λ some short digits fits. elim c.then-is_empty.branch [
      | then-is_empty-via-then-is_empty w ↦ let none = eqb-true _ 0 (sym c.is_empty.ensures ∙ w.if-is_empty.true) in omega arith
      | then-is_empty-via-else-is_empty+then-word-most w ↦ omega arith
    ]))

pub loop-byte-preserved : goal.loop-byte-preserved
loop-byte-preserved c = record {
  value =
      digit_more c.args.word.now c.loop-byte.byte-index c.loop-byte.value (omega arith) c.loop-byte.invariant.value c.in-Some.next c.in-Some.ensures.0.0
      c.in-Some.ensures.1;
  fits = omega (arith, c.in-Some.ensures.0.1, c.in-Some.ensures.1);
  digits = below_more _ _ c.loop-byte.invariant.digits c.in-Some.ensures.0.0;
}

pub returns-in_default : goal.returns-in_default
returns-in_default c =
    sym (number_ends c.args.word.now c.loop-byte.byte-index c.loop-byte.value (omega arith) c.loop-byte.invariant.value c.args.most c.in_default.ensures)

pub returns : goal.returns
returns c =
    sym (number_whole c.args.most c.args.word.now c.loop-byte.byte-index c.loop-byte.value (omega arith) (some_byte _ (sym c.is_empty.ensures ∙ c.if-is_empty.false))
    c.if-word-most.false c.loop-byte.invariant.fits c.loop-byte.invariant.value c.loop-byte.invariant.digits)

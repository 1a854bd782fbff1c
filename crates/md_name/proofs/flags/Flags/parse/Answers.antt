use Rattle.std.proofs.Common.{sym, ◌∙◌, ap, get_or, ◌&&◌}
use Rattle.std.proofs.lemmas.List.{take_more}
use Rattle.std.proofs.lemmas.List.Folds.{list_all_more}
use Rattle.std.specs.Cmp.{nat_cmp_total}
use Rattle.std.specs.FinSet as set
use Rattle.md_name.specs.Letters.{is_letter}
use Rattle.md_name.proofs.flags.Flags.parse.Goals as goal

pub loop-letter-preserved : goal.loop-letter-preserved
loop-letter-preserved c = record {
  letters =
      list_all_more is_letter c.args.letters.now c.loop-letter.letter-index 0 c.loop-letter-test.true
      ∙ ap (λ b. b && is_letter (get_or c.args.letters.now c.loop-letter.letter-index 0)) c.loop-letter.invariant.letters ∙ sym c.if-not-is_letter.ensures;
  same =
      c.with_letter-flags.ensures ∙ ap (λ s. set.insert s (get_or c.args.letters.now c.loop-letter.letter-index 0)) c.loop-letter.invariant.same
      ∙ sym (ap set.from_list (take_more c.args.letters.now c.loop-letter.letter-index 0 c.loop-letter-test.true) ∙
      set.from_list_push nat_cmp_total set.nat_cmp-IsAntisymmetric _ _);
}

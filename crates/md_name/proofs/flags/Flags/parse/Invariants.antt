use Rattle.std.proofs.Common.{◌≡◌, true, take}
use Rattle.std.specs.List.{list_all}
use Rattle.std.specs.FinSet as set
use Rattle.md_name.specs.Letters.{is_letter}
use Rattle.md_name.proofs.flags.Flags.parse.Given as goal

abbrev pub invariant-loop-letter : goal.invariant-loop-letter
invariant-loop-letter l = record {
  letters : list_all is_letter (take l.letter-index l.letters) ≡ true;
  same : l.flags ≡ set.from_list (take l.letter-index l.letters);
}

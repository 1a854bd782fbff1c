use Rattle.std.proofs.Common.{◌≡◌, ℕ, ◌<◌, get_or, take}
use Rattle.std.specs.Int.{IsInRange}
use Rattle.std.specs.Str.Parse.{digits_value}
use Rattle.md_text.proofs.numbers.near_number.Given as goal

abbrev pub invariant-loop-at : goal.invariant-loop-at
invariant-loop-at l = record {
  value : l.value ≡ digits_value 10 (take l.at l.text);
  digits : (k : ℕ) → k < l.at → IsInRange 48 57 (get_or l.text k 0);
  small : l.value < 1000000000000000000;
}

-- The answer to wrong words: its lines.
use Rattle.std.proofs.Common.{ℕ, List, [], ◌∷◌, refl, inl, inr, arith}
use Rattle.std.proofs.lemmas.Grind.{common_steps}
use Rattle.std.specs.Str.Iter.{LacksByte}
use Rattle.std.proofs.lemmas.List.Sums.{fails_before_first}
use Rattle.memchr.specs.Find.{is_byte}
use Rattle.md_runs.specs.Complaints.{IsComplaint, IsTip, complaint_of, first_line, tip_line}

in_one_line : (text : List ℕ) → LacksByte 10 (first_line text)
in_one_line text k within = let before = fails_before_first (is_byte 10) text k 0 (grind (arith, common_steps)) in grind (arith, common_steps)

is_tip : (tip : List ℕ) → LacksByte 10 tip → IsTip (tip_line tip)
is_tip [] in_line = inl refl
is_tip (b ∷ bytes) in_line = inr (b ∷ bytes, in_line, refl)

pub is_complaint : (program why tip : List ℕ) → IsComplaint program (complaint_of program why tip)
is_complaint program why tip = record {
  why = first_line why;
  in_line = in_one_line why;
  tip = tip_line (first_line tip);
  is_tip = is_tip (first_line tip) (in_one_line tip);
  are = refl;
}

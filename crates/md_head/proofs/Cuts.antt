-- The first line of a text, where a search for a line feed finds its end.
use Rattle.std.proofs.Common.{◌≡◌, ℕ, ◌+◌, ◌-◌, ◌<◌, List, [], ◌∷◌, length, take, drop, false, refl, sym, ap, ◌∙◌, arith}
use Rattle.std.proofs.lemmas.Bool.{false_from_ne_true}
use Rattle.std.proofs.lemmas.Bool.Decides.{nat_tests}
use Rattle.std.proofs.lemmas.List.{length-drop, drop_all}
use Rattle.std.proofs.lemmas.List.Elements.{All-from_get_or}
use Rattle.std.proofs.lemmas.List.Splits.{slice_split_first, slice_split_none, length-slice_split}
use Rattle.std.proofs.lemmas.List.Sums.{position_or_len_is}
use Rattle.std.proofs.Math.Seq.{take-length}
use Rattle.std.specs.List.{All, slice_split, position_or_len, after_first}
use Rattle.std.specs.Str.Lines.{lines_of_parts, strip_carriage_return}
use Rattle.memchr.specs.Find.{Nowhere, NoneBefore, Passes, is_byte}
use Rattle.md_head.specs.Header.{is_line_feed, lines_of}

-- ---- from the search's words to those of lists

none_is : (b : ℕ) (text : List ℕ) → Nowhere (Passes (is_byte b) text) 0 (length text) → All (λ x. is_byte b x ≡ false) text
none_is b text none = All-from_get_or (λ x. is_byte b x ≡ false) text 0 (λ i h. false_from_ne_true _ (none i (omega arith) h))

first_at : (b : ℕ) (text : List ℕ) (at : ℕ) → NoneBefore (Passes (is_byte b) text) 0 (length text) at × Passes (is_byte b) text at
    → position_or_len (is_byte b) text ≡ at
first_at b text at found =
    position_or_len_is (is_byte b) text at 0 (omega (arith, found.0.high)) (λ k h. false_from_ne_true _ (found.0.before k (omega arith) h)) (λ h. found.1)

-- what is left from a place on, as a range of a slice says it
pub rest_whole : (text : List ℕ) (n : ℕ) → take (length text - n) (drop n text) ≡ drop n text
rest_whole text n = rw (← length-drop n text) (take-length (drop n text))

-- ---- the lines

parts_more : (line : List ℕ) (parts : List (List ℕ)) → 0 < length parts → lines_of_parts (line ∷ parts) ≡ strip_carriage_return line ∷ lines_of_parts parts
parts_more line [] h = absurd (omega arith)
parts_more line (next ∷ parts) h = refl

one_part : (line : List ℕ) → 0 < length line → lines_of_parts (line ∷ []) ≡ line ∷ []
one_part line h = grind (arith, nat_tests)

pub no_lines : (text : List ℕ) → length text ≡ 0 → lines_of text ≡ []
unfolding lines_of
no_lines [] h = refl
no_lines (b ∷ text) h = absurd (omega arith)

pub last_line : (text : List ℕ) → 0 < length text → Nowhere (Passes (is_byte 10) text) 0 (length text) → lines_of text ≡ text ∷ lines_of []
unfolding lines_of
last_line text h none = ap lines_of_parts (slice_split_none (is_byte 10) text (none_is 10 text none)) ∙ one_part text h

pub first_line : (text : List ℕ) (at : ℕ) → NoneBefore (Passes (is_byte 10) text) 0 (length text) at × Passes (is_byte 10) text at
    → lines_of text ≡ strip_carriage_return (take at text) ∷ lines_of (take (length text - (at + 1)) (drop (at + 1) text))
unfolding lines_of
first_line text at found =
    let is : position_or_len (is_byte 10) text ≡ at = first_at 10 text at found in
    let high : at < length text = found.0.high in
    let within : position_or_len (is_byte 10) text < length text = omega arith in
    let rest : List ℕ = drop (at + 1) text in
    let cut : slice_split (is_byte 10) text ≡ take at text ∷ slice_split (is_byte 10) rest = rw is at (slice_split_first (is_byte 10) text 0 within) in
    let some : 0 < length (slice_split (is_byte 10) rest) = omega (arith, length-slice_split (is_byte 10) rest) in
    rw (rest_whole text (at + 1)) (ap lines_of_parts cut ∙ parts_more (take at text) (slice_split (is_byte 10) rest) some)

-- ---- what stands behind the first line

pub nothing_behind : (text : List ℕ) → Nowhere (Passes (is_byte 10) text) 0 (length text) → after_first is_line_feed text ≡ []
nothing_behind text none =
    let place : position_or_len is_line_feed text ≡ length text =
    position_or_len_is is_line_feed text (length text) 0 (omega arith) (λ k h. false_from_ne_true _ (none k (omega arith) h)) (λ h. absurd (omega arith)) in
    ap (λ n. drop (n + 1) text) place ∙ drop_all (length text + 1) text (omega arith)

pub rest_behind : (text : List ℕ) (at : ℕ) → NoneBefore (Passes (is_byte 10) text) 0 (length text) at × Passes (is_byte 10) text at
    → take (length text - (at + 1)) (drop (at + 1) text) ≡ after_first is_line_feed text
rest_behind text at found = rest_whole text (at + 1) ∙ ap (λ n. drop (n + 1) text) (sym (first_at 10 text at found))

-- The search for the end of a line and its continuations.
use Rattle.std.proofs.Common.{◌≡◌, ◌≢◌, ℕ, ◌+◌, ◌-◌, ◌<◌, ◌≤◌, true, false, List, [], ◌∷◌, ◌++◌, length, get_or, take, drop, sym, ap, ◌∙◌, arith, subst, ⊎_elim, ◌⊎◌, inr, append-nil, take-append-drop, get_or-take, get_or-drop, length-take-le, length-drop, take_all}
use Rattle.std.proofs.lemmas.Bool.{cases_lt, eq-eqb, eqb-true, false≢true}
use Rattle.std.proofs.lemmas.List.{drop_all, get_or_past, take_more}
use Rattle.std.proofs.Math.Seq.{take-add}
use Rattle.memchr.specs.Find.{Nowhere, NoneBefore, Passes, is_byte}
use Rattle.md_head.specs.Header.{is_blank, is_continuation, lines_of, IsWholeLines}
use Rattle.md_head.specs.Scan.{IsOneGroup, EndsGroup}
use Rattle.md_head.proofs.Lines.{lines_nil}
use Rattle.md_head.proofs.Texts.{lines_append, whole_feed}
use Rattle.md_head.proofs.Alls.{pass_nil, pass_cons, pass_append}
use Rattle.md_head.proofs.Cuts.{rest_whole}
use Rattle.md_head.proofs.Scans.{OneLine, one_line, first_continues}

-- The search has passed some lines: none yet, or a line with its continuations, behind which another stands.
pub record PassedSome (text : List ℕ) (at : ℕ) : Type 0 where
  pub some : 0 < at
  pub ended : get_or text (at - 1) 0 ≡ 10
  pub one : IsOneGroup (take at text)
  pub more : is_blank (get_or text at 0) ≡ true

pub record Passed (text : List ℕ) (at : ℕ) : Type 0 where
  pub within : at ≤ length text
  pub passed : (at ≡ 0) ⊎ PassedSome text at

-- the front of a text that has a line feed before the place n
ends_feed : (text : List ℕ) (n : ℕ) → 0 < n → n ≤ length text → get_or text (n - 1) 0 ≡ 10 → take n text ≡ take (n - 1) text ++ 10 ∷ []
ends_feed text n some within feed =
    let one : n ≡ (n - 1) + 1 = omega arith in
    ap (λ k. take k text) one ∙ take_more text (n - 1) 0 (omega arith) ∙ ap (λ b. take (n - 1) text ++ b ∷ []) feed

front_whole : (text : List ℕ) (n : ℕ) → 0 < n → n ≤ length text → get_or text (n - 1) 0 ≡ 10 → IsWholeLines (take n text)
front_whole text n some within feed = subst IsWholeLines (sym (ends_feed text n some within feed)) (whole_feed (take (n - 1) text))

lines_behind : (text more : List ℕ) (n : ℕ) → 0 < n → n ≤ length text → get_or text (n - 1) 0 ≡ 10
    → lines_of (take n text ++ more) ≡ lines_of (take n text) ++ lines_of more
lines_behind text more n some within feed =
    let e = ends_feed text n some within feed in
    ap (λ t. lines_of (t ++ more)) e ∙ lines_append (take (n - 1) text) more ∙ sym (ap (λ t. lines_of t ++ lines_of more) e)

pub cut_at_feed : (text : List ℕ) (n : ℕ) → 0 < n → n ≤ length text → get_or text (n - 1) 0 ≡ 10
    → lines_of text ≡ lines_of (take n text) ++ lines_of (drop n text)
cut_at_feed text n some within feed = sym (ap lines_of (take-append-drop n text)) ∙ lines_behind text (drop n text) n some within feed

-- a front is a shorter one and a part
front_part : (text : List ℕ) (m n : ℕ) → m ≤ n → take n text ≡ take m text ++ take (n - m) (drop m text)
front_part text m n h =
    let sum : n ≡ m + (n - m) = omega arith in
    ap (λ k. take k text) sum ∙ take-add m (n - m) text

-- a first line
first_line : (bytes part : List ℕ) → bytes ≡ part → OneLine part → IsOneGroup bytes
first_line bytes part same l = record {
  first = l.line;
  continuations = [];
  all_lines = ap lines_of same ∙ l.is;
  goes_on = pass_nil is_continuation;
}

-- a line more, which is a continuation
next_line : (text bytes part : List ℕ) (m : ℕ) → PassedSome text m → m ≤ length text → bytes ≡ take m text ++ part → OneLine part
    → is_blank (get_or part 0 0) ≡ true → IsOneGroup bytes
next_line text bytes part m s within whole l blank =
    let continues : is_continuation l.line ≡ true = first_continues part l.line [] l.is ∙ blank in
    let more : lines_of (take m text) ++ lines_of part ≡ s.one.first ∷ (s.one.continuations ++ l.line ∷ []) =
    ap (λ ls. ls ++ lines_of part) s.one.all_lines ∙ ap (λ ls. (s.one.first ∷ s.one.continuations) ++ ls) l.is in
    record {
      first = s.one.first;
      continuations = s.one.continuations ++ l.line ∷ [];
      all_lines = ap lines_of whole ∙ lines_behind text part m s.some within s.ended ∙ more;
      goes_on = pass_append is_continuation s.one.continuations (l.line ∷ []) s.one.goes_on
          (pass_cons is_continuation l.line [] continues (pass_nil is_continuation));
    }

-- one line more, which reaches from m up to n
group_more : (text : List ℕ) (m n : ℕ) → Passed text m → m < n → n ≤ length text → ((j : ℕ) → m ≤ j → j + 1 < n → get_or text j 0 ≢ 10)
    → IsOneGroup (take n text)
group_more text m n p less within none =
    let part = take (n - m) (drop m text) in
    let rest_len = length-drop m text in
    let part_len : length part ≡ n - m = length-take-le (n - m) (drop m text) (omega arith) in
    let at : (k : ℕ) → k < n - m → get_or part k 0 ≡ get_or text (m + k) 0 = λ k l. get_or-take (n - m) (drop m text) k 0 l ∙ get_or-drop m text k 0 in
    let line : OneLine part = one_line part (omega arith) (λ k l e. none (m + k) (omega arith) (omega arith) (sym (at k (omega arith)) ∙ e)) in
    let whole : take n text ≡ take m text ++ part = front_part text m n (omega arith) in
    ⊎_elim
    (λ (zero_m : m ≡ 0). first_line (take n text) part (whole ∙ ap (λ k. take k text ++ part) zero_m) line)
    (λ (s : PassedSome text m).
    let here : get_or part 0 0 ≡ get_or text m 0 = at 0 (omega arith) ∙ ap (λ k. get_or text k 0) (omega arith) in
    next_line text (take n text) part m s p.within whole line (ap is_blank here ∙ s.more))
    p.passed

-- ---- what the search says

absent : (b : ℕ) (text : List ℕ) (i : ℕ) → Nowhere (Passes (is_byte b) text) 0 i → (k : ℕ) → k < i → get_or text k 0 ≢ b
absent b text i none k l e = none k (omega arith) l (eq-eqb (get_or text k 0) b e)

-- the search found a line feed behind the place m
pub record Found (text : List ℕ) (m n : ℕ) : Type 0 where
  pub later : m < n
  pub within : n ≤ length text
  pub feed : get_or text (n - 1) 0 ≡ 10
  pub none : (j : ℕ) → m ≤ j → j + 1 < n → get_or text j 0 ≢ 10

pub found : (text hay : List ℕ) (m at : ℕ) → hay ≡ drop m text → NoneBefore (Passes (is_byte 10) hay) 0 (length hay) at × Passes (is_byte 10) hay at
    → Found text m (m + (at + 1))
found text hay m at same h =
    let len = ap length same in
    let len' = length-drop m text in
    let reads : (k : ℕ) → get_or hay k 0 ≡ get_or text (m + k) 0 = λ k. ap (λ t. get_or t k 0) same ∙ get_or-drop m text k 0 in
    let high = h.0.high in
    let ten : get_or hay at 0 ≡ 10 = eqb-true (get_or hay at 0) 10 h.1 in
    record {
      later = omega arith;
      within = omega arith;
      feed = ap (λ k. get_or text k 0) (omega arith) ∙ sym (reads at) ∙ ten;
      none = λ j low l e. absent 10 hay at h.0.before (j - m) (omega arith) (reads (j - m) ∙ ap (λ k. get_or text k 0) (omega arith) ∙ e);
    }

pub passed_more : (text : List ℕ) (m n : ℕ) → Passed text m → Found text m n → is_blank (get_or text n 0) ≡ true → Passed text n
passed_more text m n p f blank = record {
  within = f.within;
  passed = inr (record {
    some = omega (arith, f.later);
    ended = f.feed;
    one = group_more text m n p f.later f.within f.none;
    more = blank;
  });
}

pub ends_at : (text : List ℕ) (m n : ℕ) → Passed text m → Found text m n → is_blank (get_or text n 0) ≡ false → EndsGroup text n
ends_at text m n p f over = record {
  some = omega (arith, f.later);
  within = f.within;
  one = group_more text m n p f.later f.within f.none;
  cut = cut_at_feed text n (omega (arith, f.later)) f.within f.feed;
  line_ends = λ _. front_whole text n (omega (arith, f.later)) f.within f.feed;
  over = ap is_blank (get_or-drop n text 0 0 ∙ ap (λ k. get_or text k 0) (omega arith)) ∙ over;
}

-- the search found none
pub ends_text : (text hay : List ℕ) (m : ℕ) → hay ≡ drop m text → 0 < length text → Passed text m → Nowhere (Passes (is_byte 10) hay) 0 (length hay)
    → EndsGroup text (length text)
ends_text text hay m same some p nowhere =
    let n = length text in
    let len = ap length same in
    let len' = length-drop m text in
    let reads : (k : ℕ) → get_or hay k 0 ≡ get_or text (m + k) 0 = λ k. ap (λ t. get_or t k 0) same ∙ get_or-drop m text k 0 in
    let before : m < n = ⊎_elim
    (λ (e : m ≡ 0). omega arith)
    (λ (s : PassedSome text m). ⊎_elim
    (λ (l : m < n). l)
    (λ (past : n ≤ m). absurd (false≢true (sym (ap is_blank (get_or_past text m 0 past)) ∙ s.more)))
    (cases_lt m n))
    p.passed in
    let nil : drop n text ≡ [] = drop_all n text (omega arith) in
    record {
      some = some;
      within = omega arith;
      one = group_more text m n p before (omega arith)
          (λ j low l e. absent 10 hay (length hay) nowhere (j - m) (omega arith) (reads (j - m) ∙ ap (λ k. get_or text k 0) (omega arith) ∙ e));
      cut = sym (append-nil (lines_of text)) ∙ sym (ap (λ ls. lines_of text ++ ls) (ap lines_of nil ∙ lines_nil))
          ∙ sym (ap (λ t. lines_of t ++ lines_of (drop n text)) (take_all n text (omega arith)));
      line_ends = λ some. absurd (omega (arith, ap length nil));
      over = ap (λ t. is_blank (get_or t 0 0)) nil;
    }

-- the byte at n, as the first of what stands behind
pub blank_behind : (text : List ℕ) (n : ℕ) → is_blank (get_or (take (length text - n) (drop n text)) 0 0) ≡ is_blank (get_or text n 0)
blank_behind text n =
    let same : n + 0 ≡ n = omega arith in
    ap (λ t. is_blank (get_or t 0 0)) (rest_whole text n) ∙ ap is_blank (get_or-drop n text 0 0 ∙ ap (λ k. get_or text k 0) same)

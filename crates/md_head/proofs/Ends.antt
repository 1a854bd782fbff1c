-- Trimming by characters is trimming by bytes.
use Rattle.std.proofs.Common.{◌≡◌, ℕ, zero, suc, ◌+◌, ◌-◌, ◌<◌, ◌≤◌, false, List, [], ◌∷◌, ◌++◌, length, take, drop, get_or, refl, sym, ap, ◌∙◌, arith, cond, ⊎_elim, take-append-drop, get_or-take, length-append, length-drop, length-take-le}
use Rattle.std.proofs.lemmas.Bool.{cases_Bool, cases_lt}
use Rattle.bstr.specs.Utf8.{Decoded, decoded, or_replacement, pieces, spans_from}
use Rattle.bstr.specs.Trim.{kept_start, kept_end, trim_start_by, trim_end_by}
use Rattle.bstr.proofs.lemmas.PieceLemmas.{spans-first, spans-nil}
use Rattle.bstr.proofs.lemmas.TrimLemmas.{kept-skip, kept-stop, kept-nil, kept_end-nil}
use Rattle.md_head.specs.Header.{is_blank}
use Rattle.md_head.specs.Computed.{trimmed_front, trimmed_end, onto_trimmed}
use Rattle.md_head.proofs.Alls.{drop_front}
use Rattle.md_head.proofs.Trims.{front_blank, front_stop, front_nil, end_nil, end_cons, front_split, end_taken}
use Rattle.md_head.proofs.Pieces.{ascii, high_byte, high_piece}

abbrev span : ℕ → Decoded → ℕ × ℕ × ℕ
span off p = (off, off + p.size, or_replacement p.char)

-- the spans of bytes that begin with an ASCII byte
spans_ascii : (b : ℕ) (bytes : List ℕ) (off : ℕ) → b < 128 → spans_from off (pieces (b ∷ bytes)) ≡ (off, off + 1, b) ∷ spans_from (off + 1) (pieces bytes)
spans_ascii b bytes off l =
    spans-first (b ∷ bytes) off (omega arith)
    ∙ ap (λ (p : Decoded). span off p ∷ spans_from (off + p.size) (pieces (drop p.size (b ∷ bytes))))
    (ascii (length (b ∷ bytes)) b (get_or bytes 0 0) (get_or bytes 1 0) (get_or bytes 2 0) (omega arith) l)

-- ---- at the front: where what is left begins

front_len : (bytes : List ℕ) (off : ℕ)
    → kept_start is_blank (off + length bytes) (spans_from off (pieces bytes)) + length (trimmed_front bytes) ≡ off + length bytes
front_len [] off =
    let stops : kept_start is_blank (off + length {A = ℕ} []) (spans_from off (pieces [])) ≡ off + length {A = ℕ} [] =
    ap (kept_start is_blank (off + 0)) (spans-nil [] off refl) ∙ kept-nil is_blank (off + 0) in
    let none = ap length front_nil in
    omega arith
front_len (b ∷ bytes) off =
    let end = off + length (b ∷ bytes) in
    let here : is_blank b ≡ false → trimmed_front (b ∷ bytes) ≡ b ∷ bytes = front_stop b bytes in
    ⊎_elim
    (λ l.
    let spans = spans_ascii b bytes off l in
    ⊎_elim
    (λ yes.
    let skips : kept_start is_blank end (spans_from off (pieces (b ∷ bytes))) ≡ kept_start is_blank ((off + 1) + length bytes)
    (spans_from (off + 1) (pieces bytes)) =
    ap (kept_start is_blank end) spans ∙ kept-skip is_blank end (off, off + 1, b) (spans_from (off + 1) (pieces bytes)) yes
    ∙ ap (λ n. kept_start is_blank n (spans_from (off + 1) (pieces bytes))) (omega arith) in
    let rest = front_len bytes (off + 1) in
    let same = ap length (front_blank b bytes yes) in
    omega arith)
    (λ no.
    let stops : kept_start is_blank end (spans_from off (pieces (b ∷ bytes))) ≡ off =
    ap (kept_start is_blank end) spans ∙ kept-stop is_blank end (off, off + 1, b) (spans_from (off + 1) (pieces bytes)) no in
    let same = ap length (here no) in
    omega arith)
    (cases_Bool (is_blank b)))
    (λ g.
    let p = high_piece (b ∷ bytes) (omega arith) g in
    let stops : kept_start is_blank end (spans_from off (pieces (b ∷ bytes))) ≡ off =
    ap (kept_start is_blank end) (spans-first (b ∷ bytes) off (omega arith))
    ∙ kept-stop is_blank end (span off (decoded (b ∷ bytes)))
    (spans_from (off + (decoded (b ∷ bytes)).size) (pieces (drop (decoded (b ∷ bytes)).size (b ∷ bytes)))) p.other in
    let same = ap length (here (high_byte b g)) in
    omega arith)
    (cases_lt b 128)

pub trim_start_is : (bytes : List ℕ) → trim_start_by is_blank bytes ≡ trimmed_front bytes
trim_start_is bytes =
    let s = front_split bytes in
    let start = kept_start is_blank (length bytes) (spans_from 0 (pieces bytes)) in
    let zero_more : 0 + length bytes ≡ length bytes = omega arith in
    let whole : start + length (trimmed_front bytes) ≡ length bytes =
    ap (λ n. kept_start is_blank n (spans_from 0 (pieces bytes)) + length (trimmed_front bytes)) (sym zero_more) ∙ front_len bytes 0 ∙ zero_more in
    let sum : length bytes ≡ length s.before + length (trimmed_front bytes) = ap length s.parts ∙ length-append s.before (trimmed_front bytes) in
    let same : start ≡ length s.before = omega arith in
    ap (λ n. drop n bytes) same ∙ ap (drop (length s.before)) s.parts ∙ drop_front s.before (trimmed_front bytes)

-- ---- at the end: where what is left ends, or a where nothing is

abbrev end_at : ℕ → ℕ → List ℕ → ℕ
end_at a off [] = a
end_at a off (c ∷ left) = off + length (c ∷ left)

kept_end_cons : (a : ℕ) (s : ℕ × ℕ × ℕ) (ss : List (ℕ × ℕ × ℕ)) → kept_end is_blank a (s ∷ ss) ≡ kept_end is_blank (cond (is_blank s.2) a s.1) ss
unfolding kept_end
kept_end_cons a s ss = refl

-- an ASCII byte before what is left
end_ascii : (b a off : ℕ) (left : List ℕ) → end_at (cond (is_blank b) a (off + 1)) (off + 1) left ≡ end_at a off (onto_trimmed b left)
end_ascii b a off [] = ⊎_elim
    (λ yes. ap (λ t. cond t a (off + 1)) yes ∙ sym (ap (λ t. end_at a off (cond t [] (b ∷ []))) yes))
    (λ no. ap (λ t. cond t a (off + 1)) no ∙ sym (ap (λ t. end_at a off (cond t [] (b ∷ []))) no))
    (cases_Bool (is_blank b))
end_ascii b a off (c ∷ left) = omega arith

-- trimming keeps bytes of which the last isn't blank
end_keeps : (bytes more : List ℕ) → 0 < length bytes → is_blank (get_or bytes (length bytes - 1) 0) ≡ false
    → trimmed_end (bytes ++ more) ≡ bytes ++ trimmed_end more
end_keeps [] more h e = absurd (omega arith)
end_keeps (b ∷ []) more h e = end_cons b more ∙ onto (trimmed_end more)
  where
    onto : (left : List ℕ) → onto_trimmed b left ≡ b ∷ left
    onto [] = ap (λ t. cond t [] (b ∷ [])) e
    onto (c ∷ left) = refl
end_keeps (b ∷ c ∷ bytes) more h e =
    let here : length (b ∷ c ∷ bytes) - 1 ≡ suc (length bytes) = omega arith in
    let there : length (c ∷ bytes) - 1 ≡ length bytes = omega arith in
    let last = ap (λ n. is_blank (get_or (c ∷ bytes) n 0)) there ∙ sym (ap (λ n. is_blank (get_or (b ∷ c ∷ bytes) n 0)) here) ∙ e in
    end_cons b ((c ∷ bytes) ++ more) ∙ ap (onto_trimmed b) (end_keeps (c ∷ bytes) more (omega arith) last)

end_past : (a off : ℕ) (front left : List ℕ) → 0 < length front → end_at (off + length front) (off + length front) left ≡ end_at a off (front ++ left)
end_past a off [] left h = absurd (omega arith)
end_past a off (b ∷ front) [] h = omega (arith, length-append front [])
end_past a off (b ∷ front) (c ∷ left) h = omega (arith, length-append front (c ∷ left))

kept_end_is : (fuel : ℕ) (bytes : List ℕ) (a off : ℕ) → length bytes ≤ fuel
    → kept_end is_blank a (spans_from off (pieces bytes)) ≡ end_at a off (trimmed_end bytes)
kept_end_is fuel [] a off h = ap (kept_end is_blank a) (spans-nil [] off refl) ∙ kept_end-nil is_blank a ∙ sym (ap (end_at a off) end_nil)
kept_end_is zero (b ∷ bytes) a off h = absurd (omega arith)
kept_end_is (suc fuel) (b ∷ bytes) a off h = ⊎_elim
    (λ l.
    ap (kept_end is_blank a) (spans_ascii b bytes off l)
    ∙ kept_end_cons a (off, off + 1, b) (spans_from (off + 1) (pieces bytes))
    ∙ kept_end_is fuel bytes (cond (is_blank b) a (off + 1)) (off + 1) (omega arith)
    ∙ end_ascii b a off (trimmed_end bytes)
    ∙ sym (ap (end_at a off) (end_cons b bytes)))
    (λ g.
    let all = b ∷ bytes in
    let p = high_piece all (omega arith) g in
    let s = (decoded all).size in
    let front = take s all in
    let rest = drop s all in
    let front_len : length front ≡ s = length-take-le s all p.within in
    let rest_len = length-drop s all in
    let last : is_blank (get_or front (length front - 1) 0) ≡ false =
    ap (λ n. is_blank (get_or front (n - 1) 0)) front_len ∙ ap is_blank (get_or-take s all (s - 1) 0 (omega arith)) ∙ p.last in
    let kept : trimmed_end all ≡ front ++ trimmed_end rest =
    ap trimmed_end (sym (take-append-drop s all)) ∙ end_keeps front rest (omega arith) last in
    ap (kept_end is_blank a) (spans-first all off (omega arith))
    ∙ kept_end_cons a (span off (decoded all)) (spans_from (off + s) (pieces rest))
    ∙ ap (λ t. kept_end is_blank (cond t a (off + s)) (spans_from (off + s) (pieces rest))) p.other
    ∙ kept_end_is fuel rest (off + s) (off + s) (omega arith)
    ∙ ap (λ n. end_at (off + n) (off + n) (trimmed_end rest)) (sym front_len)
    ∙ end_past a off front (trimmed_end rest) (omega arith)
    ∙ sym (ap (end_at a off) kept))
    (cases_lt b 128)

end_length : (left : List ℕ) → end_at 0 0 left ≡ length left
end_length [] = refl
end_length (c ∷ left) = omega arith

pub trim_end_is : (bytes : List ℕ) → trim_end_by is_blank bytes ≡ trimmed_end bytes
trim_end_is bytes =
    ap (λ n. take n bytes) (kept_end_is (length bytes) bytes 0 0 (omega arith) ∙ end_length (trimmed_end bytes)) ∙ end_taken bytes

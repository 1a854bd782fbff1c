-- The bytes of one line, and those of a line with its continuations.
use Rattle.std.proofs.Common.{◌≡◌, ◌≢◌, ℕ, suc, ◌+◌, ◌<◌, false, List, [], ◌∷◌, ◌++◌, length, get_or, refl, sym, ap, ◌∙◌, arith}
use Rattle.std.proofs.lemmas.Bool.Decides.{nat_tests}
use Rattle.std.specs.List.{onto_first}
use Rattle.md_head.specs.Header.{is_blank, is_continuation, lines_of}
use Rattle.md_head.proofs.Lines.{lines_nil, Step, step, step_feed}
use Rattle.md_head.proofs.Lines.Step.{Feed, Return, Plain}

-- the bytes are one line
pub record OneLine (bytes : List ℕ) : Type 0 where
  pub line : List ℕ
  pub is : lines_of bytes ≡ line ∷ []

-- where no line feed stands before the last byte
pub one_line : (bytes : List ℕ) → 0 < length bytes → ((k : ℕ) → k + 1 < length bytes → get_or bytes k 0 ≢ 10) → OneLine bytes
one_line [] h none = absurd (omega arith)
one_line (b ∷ []) h none = elim (step b []) [
  | Feed e is ↦ record { line = []; is = is ∙ ap (λ ls. [] ∷ ls) lines_nil }
  | Return e f is ↦ absurd (omega arith)
  | Plain e f is ↦ record { line = b ∷ []; is = is ∙ ap (onto_first b) lines_nil }
]
one_line (b ∷ c ∷ bytes) h none =
    let rest = one_line (c ∷ bytes) (omega arith) (λ k l. none (suc k) (omega arith)) in
    elim (step b (c ∷ bytes)) [
      | Feed e is ↦ absurd (none 0 (omega arith) e)
      | Return e f is ↦ record { line = rest.line; is = is ∙ rest.is }
      | Plain e f is ↦ record { line = b ∷ rest.line; is = is ∙ ap (onto_first b) rest.is }
    ]

-- the first line stands at the front of the text
pub record Front (bytes line : List ℕ) : Type 0 where
  pub behind : List ℕ
  pub is : bytes ≡ line ++ behind

onto_front : (b : ℕ) (bytes : List ℕ) (lines : List (List ℕ)) (line : List ℕ) (others : List (List ℕ)) → onto_first b lines ≡ line ∷ others
    → ((l : List ℕ) (ls : List (List ℕ)) → lines ≡ l ∷ ls → Front bytes l) → Front (b ∷ bytes) line
onto_front b bytes [] line others e h =
    let same : b ∷ [] ≡ line = cc in
    record { behind = bytes; is = ap (λ l. l ++ bytes) same }
onto_front b bytes (l ∷ ls) line others e h =
    let f : Front bytes l = h l ls refl in
    let same : b ∷ l ≡ line = cc in
    record { behind = f.behind; is = ap (λ t. b ∷ t) f.is ∙ ap (λ t. t ++ f.behind) same }

empty_front : (bytes line : List ℕ) (lines others : List (List ℕ)) → [] ∷ lines ≡ line ∷ others → Front bytes line
empty_front bytes line lines others e =
    let same : [] ≡ line = cc in
    record { behind = bytes; is = ap (λ l. l ++ bytes) same }

pub front_line : (bytes line : List ℕ) (others : List (List ℕ)) → lines_of bytes ≡ line ∷ others → Front bytes line
front_line [] line others e = let no : [] ≡ line ∷ others = sym lines_nil ∙ e in cc
front_line (b ∷ bytes) line others e = go (step b bytes) (front_line bytes)
  where
    returns : (rest : List ℕ) → get_or rest 0 0 ≡ 10 → lines_of rest ≡ line ∷ others → Front (b ∷ bytes) line
    returns [] g is = absurd (omega arith)
    returns (c ∷ rest) g is = empty_front (b ∷ bytes) line (lines_of rest) others (sym (step_feed c rest g) ∙ is)

    go : Step b bytes → ((l : List ℕ) (ls : List (List ℕ)) → lines_of bytes ≡ l ∷ ls → Front bytes l) → Front (b ∷ bytes) line
    go (Feed f is) h = empty_front (b ∷ bytes) line (lines_of bytes) others (sym is ∙ e)
    go (Return f g is) h = returns bytes g (sym is ∙ e)
    go (Plain f g is) h = onto_front b bytes (lines_of bytes) line others (sym is ∙ e) h

-- a line is a continuation where its first byte is white space
pub first_continues : (bytes line : List ℕ) (others : List (List ℕ)) → lines_of bytes ≡ line ∷ others → is_continuation line ≡ is_blank (get_or bytes 0 0)
first_continues bytes line others e = go line (front_line bytes line others e) e
  where
    empty : (rest : List ℕ) → lines_of rest ≡ [] ∷ others → false ≡ is_blank (get_or rest 0 0)
    empty [] e = refl
    empty (b ∷ rest) e = elim (step b rest) [
      | Feed f is ↦ grind (arith, nat_tests)
      | Return f g is ↦ grind (arith, nat_tests)
      | Plain f g is ↦ longer b (lines_of rest) (sym is ∙ e)
    ]
      where
        longer : (b : ℕ) (lines : List (List ℕ)) → onto_first b lines ≡ [] ∷ others → false ≡ is_blank b
        longer b [] e = cc
        longer b (l ∷ ls) e = cc

    go : (line : List ℕ) → Front bytes line → lines_of bytes ≡ line ∷ others → is_continuation line ≡ is_blank (get_or bytes 0 0)
    go [] f e = empty bytes e
    go (b ∷ line) f e = sym (ap (λ t. is_blank (get_or t 0 0)) f.is)

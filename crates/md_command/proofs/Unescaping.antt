-- What a column shows is read back, a byte at a time.
use Rattle.std.proofs.Common.{◌≡◌, ◌≢◌, ℕ, zero, suc, ◌+◌, ◌*◌, ◌/◌, ◌%◌, ◌<◌, ◌≤◌, Bool, true, false, List, [], ◌∷◌, ◌++◌, length}
use Rattle.std.proofs.Common.{Option, Some, None, refl, sym, ap, ap₂, subst, ◌∙◌, arith, append_assoc, append-nil, inl, inr}
use Rattle.std.specs.Prelude.{nat_le, ◌==◌, ◌&&◌, if◌then◌else◌, codes, option_map, option_and_then}
use Rattle.std.specs.Option.{unwrap_or}
use Rattle.std.proofs.lemmas.Bool.{cases_eq}
use Rattle.std.proofs.lemmas.Bool.Decides.{nat_tests}
use Rattle.std.proofs.lemmas.List.Elements.{All-head, All-tail}
use Rattle.std.specs.List.{All, flat_map}
use Rattle.md_command.specs.Escapes.{escape, hex, digit_of, is_printed, is_shown, ReadsBack}
use Rattle.md_command.specs.Unescaping.{first_shown, first_escaped, value_of, meant_by, byte_of, before, onto, read_at_most, unescaped}

digit_back : (n : ℕ) → n < 16 → value_of (digit_of n) ≡ Some n
digit_back n low = grind (arith, nat_tests)

module _ (b : ℕ) (low : b < 256) where
  hex_back : byte_of (digit_of (b / 16)) (digit_of (b % 16)) ≡ Some b
  hex_back =
      let high : b / 16 < 16 = omega (arith, low) in
      let lower : b % 16 < 16 = omega arith in
      let whole : (b / 16) * 16 + b % 16 ≡ b = omega arith in
      ap₂ (λ h l. option_and_then (λ x. option_map (λ y. x * 16 + y) l) h) (digit_back (b / 16) high) (digit_back (b % 16) lower)
      ∙ ap Some whole

  module _ (rest : List ℕ) where
    plain : b ≢ 92 → first_shown (b ∷ rest) ≡ Some (b, rest)
    plain other = grind (arith, nat_tests)

    by_digits : first_shown ((codes "\\x" ++ hex b) ++ rest) ≡ Some (b, rest)
    by_digits = ap (before rest) hex_back

    shown_else : b ≢ 92 → (p q : Bool)
        → first_shown ((if p then b ∷ [] else (if q then b ∷ [] else codes "\\x" ++ hex b)) ++ rest) ≡ Some (b, rest)
    shown_else other true q = plain other
    shown_else other false true = plain other
    shown_else other false false = by_digits

    escape_else : (t : Bool) → b ≢ 92 → b ≢ 9 → b ≢ 10 → b ≢ 13
        → escape t b ≡ (if is_printed b then b ∷ [] else (if nat_le 128 b && t then b ∷ [] else codes "\\x" ++ hex b))
    escape_else t mark tab feed return = grind (arith, nat_tests)

-- an escape of one letter
by_letter : (c : ℕ) → (c == 120) ≡ false → (rest : List ℕ) → first_escaped (c ∷ rest) ≡ before rest (meant_by c)
by_letter c other [] = refl
by_letter c other (high ∷ []) = refl
by_letter c other (high ∷ low ∷ rest) =
    ap (λ test. if test then before rest (byte_of high low) else before (high ∷ low ∷ rest) (meant_by c)) other

Shows : Bool → List ℕ → ℕ → Type 0
Shows t rest b = first_shown (escape t b ++ rest) ≡ Some (b, rest)

-- an escaped byte is read back
shows : (t : Bool) (rest : List ℕ) (b : ℕ) → b < 256 → Shows t rest b
unfolding Shows
shows t rest b low =
    elim (cases_eq b 92) [
      | inl e ↦ subst (Shows t rest) (sym e) (by_letter 92 refl rest)
      | inr mark ↦ elim (cases_eq b 9) [
        | inl e ↦ subst (Shows t rest) (sym e) (by_letter 116 refl rest)
        | inr tab ↦ elim (cases_eq b 10) [
          | inl e ↦ subst (Shows t rest) (sym e) (by_letter 110 refl rest)
          | inr feed ↦ elim (cases_eq b 13) [
            | inl e ↦ subst (Shows t rest) (sym e) (by_letter 114 refl rest)
            | inr return ↦
                rw (escape_else b low rest t mark tab feed return) (shown_else b low rest mark (is_printed b) (nat_le 128 b && t))
          ]
        ]
      ]
    ]

none_read : (first : ℕ × List ℕ) → None ≡ Some first → ⊥
none_read first read = cc

-- what is behind a byte that was read is shorter
shorter_before : (rest : List ℕ) (byte : Option ℕ) (b : ℕ) (behind : List ℕ) → before rest byte ≡ Some (b, behind) → rest ≡ behind
shorter_before rest None b behind read = absurd (none_read (b, behind) read)
shorter_before rest (Some x) b behind read = ap (λ (read : Option (ℕ × List ℕ)). (unwrap_or read (0, rest)).1) read

shorter_if : (p : Bool) (few more : List ℕ) (x y : Option ℕ) (b : ℕ) (behind : List ℕ) → length few ≤ length more
    → (if p then before few x else before more y) ≡ Some (b, behind) → length behind ≤ length more
shorter_if true few more x y b behind less read = omega (arith, ap length (shorter_before few x b behind read))
shorter_if false few more x y b behind less read = omega (arith, ap length (shorter_before more y b behind read))

escaped_shorter : (column : List ℕ) (b : ℕ) (behind : List ℕ) → first_escaped column ≡ Some (b, behind) → length behind ≤ length column
escaped_shorter [] b behind read = absurd (none_read (b, behind) read)
escaped_shorter (c ∷ []) b behind read = omega (arith, ap length (shorter_before [] (meant_by c) b behind read))
escaped_shorter (c ∷ high ∷ []) b behind read = omega (arith, ap length (shorter_before (high ∷ []) (meant_by c) b behind read))
escaped_shorter (c ∷ high ∷ low ∷ column) b behind read =
    let less = shorter_if (c == 120) column (high ∷ low ∷ column) (byte_of high low) (meant_by c) b behind (omega arith) read in
    omega (arith, less)

shown_shorter : (p : Bool) (x : ℕ) (column : List ℕ) (b : ℕ) (behind : List ℕ)
    → (if p then first_escaped column else Some (x, column)) ≡ Some (b, behind) → length behind ≤ length column
shown_shorter true x column b behind read = escaped_shorter column b behind read
shown_shorter false x column b behind read =
    omega (arith, ap (λ (read : Option (ℕ × List ℕ)). length (unwrap_or read (0, column)).1) read)

next_is : (read : Option (ℕ × List ℕ)) (f g : List ℕ → Option (List ℕ))
    → ((b : ℕ) (behind : List ℕ) → read ≡ Some (b, behind) → f behind ≡ g behind)
    → option_and_then (λ first. onto (first.0 ∷ []) (f first.1)) read ≡ option_and_then (λ first. onto (first.0 ∷ []) (g first.1)) read
next_is None f g same = refl
next_is (Some (b, behind)) f g same = ap (onto (b ∷ [])) (same b behind refl)

-- what else is read in the same way, from more room than its length
same_room : (n m : ℕ) (column : List ℕ) → length column ≤ n → length column ≤ m → read_at_most n column ≡ read_at_most m column
unfolding read_at_most
same_room zero zero [] small less = refl
same_room zero (suc m) [] small less = refl
same_room (suc n) zero [] small less = refl
same_room (suc n) (suc m) [] small less = refl
same_room zero m (b ∷ column) small less = absurd (omega arith)
same_room (suc n) zero (b ∷ column) small less = absurd (omega arith)
same_room (suc n) (suc m) (x ∷ column) small less =
    next_is (first_shown (x ∷ column)) (read_at_most n) (read_at_most m) (λ b behind read.
    let shorter = shown_shorter (x == 92) x column b behind read in
    same_room n m behind (omega (arith, shorter)) (omega (arith, shorter)))

-- a byte is read, and then those of what is behind it
pub reads_first : (rest : List ℕ) (b : ℕ) (behind : List ℕ) → first_shown rest ≡ Some (b, behind)
    → unescaped rest ≡ onto (b ∷ []) (unescaped behind)
unfolding read_at_most unescaped
reads_first [] b behind read = absurd (none_read (b, behind) read)
reads_first (x ∷ column) b behind read =
    let shorter = shown_shorter (x == 92) x column b behind read in
    ap (option_and_then (λ (first : ℕ × List ℕ). onto (first.0 ∷ []) (read_at_most (length column) first.1))) read
    ∙ ap (onto (b ∷ [])) (same_room (length column) (length behind) behind shorter (omega arith))

-- where no byte is read, the column ends, or shows nothing
pub reads_none : (rest : List ℕ) → first_shown rest ≡ None → unescaped rest ≡ (if length rest == 0 then Some [] else None)
unfolding read_at_most unescaped
reads_none [] none = refl
reads_none (x ∷ column) none =
    let more : (suc (length column) == 0) ≡ false = grind (arith, nat_tests) in
    ap (option_and_then (λ (first : ℕ × List ℕ). onto (first.0 ∷ []) (read_at_most (length column) first.1))) none
    ∙ ap (λ test. if test then Some [] else None) (sym more)

pub onto_nothing : (read : Option (List ℕ)) → onto [] read ≡ read
onto_nothing None = refl
onto_nothing (Some bytes) = refl

onto_more : (bytes more : List ℕ) (read : Option (List ℕ)) → onto (bytes ++ more) read ≡ onto bytes (onto more read)
onto_more bytes more None = refl
onto_more bytes more (Some others) = ap Some (append_assoc bytes more others)

onto_if : (bytes : List ℕ) (p : Bool) → onto bytes (if p then Some [] else None) ≡ (if p then Some bytes else None)
onto_if bytes true = ap Some (append-nil bytes)
onto_if bytes false = refl

module _ (column bytes rest : List ℕ) (so_far : onto bytes (unescaped rest) ≡ unescaped column) where
  -- one more byte was read
  pub goes_on : (b : ℕ) (behind : List ℕ) → first_shown rest ≡ Some (b, behind)
      → onto (bytes ++ b ∷ []) (unescaped behind) ≡ unescaped column
  goes_on b behind read =
      onto_more bytes (b ∷ []) (unescaped behind) ∙ ap (onto bytes) (sym (reads_first rest b behind read)) ∙ so_far

  -- none is left
  pub ends : first_shown rest ≡ None → unescaped column ≡ (if length rest == 0 then Some bytes else None)
  ends none =
      sym so_far ∙ ap (onto bytes) (reads_none rest none) ∙ onto_if bytes (length rest == 0)

-- what a column shows is read back
reads_all : (t : Bool) (bytes : List ℕ) → All (λ b. b < 256) bytes → unescaped (flat_map (escape t) bytes) ≡ Some bytes
unfolding Shows unescaped read_at_most
reads_all t [] low = refl
reads_all t (b ∷ bytes) low =
    let rest = flat_map (escape t) bytes in
    reads_first (escape t b ++ rest) b rest (shows t rest b (All-head (λ b. b < 256) b bytes low))
    ∙ ap (onto (b ∷ [])) (reads_all t bytes (All-tail (λ b. b < 256) b bytes low))

pub read_back : (column : List ℕ) → ReadsBack column (unescaped column)
read_back column bytes low shown = ap unescaped shown ∙ reads_all (is_shown bytes) bytes low

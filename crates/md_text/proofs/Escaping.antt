-- Escapes, read from one backslash to the next, and read back.
use Rattle.std.proofs.Common.{◌≡◌, ◌≢◌, ℕ, suc, ◌+◌, ◌-◌, ◌<◌, ◌≤◌, Bool, true, false, List, [], ◌∷◌, ◌++◌, length, get_or, take, drop, Option, Some, None, option_map, option_and_then, refl, sym, ap, subst, ◌∙◌, arith, add-one, append_assoc, append-nil, length-take-le}
use Rattle.std.proofs.lemmas.Bool.Decides.{nat_tests}
use Rattle.std.proofs.lemmas.Bool.{eq-eqb, eqb-true}
use Rattle.std.proofs.lemmas.List.{take_rest, take-append-drop, get_or-take}
use Rattle.std.proofs.lemmas.List.Elements.{All-from_get_or, All-head, All-tail}
use Rattle.std.proofs.Math.Seq.{drop-cons}
use Rattle.std.proofs.Math.ListN.{drop_of_length-le}
use Rattle.std.specs.List.{All}
use Rattle.md_text.specs.Escapes.{escape, escape_all, meant_by, onto, unescaped}
use Rattle.memchr.specs.Find.{Nowhere, NoneBefore, Passes, is_byte}
use Rattle.std.proofs.lemmas.Bool.{false_from_ne_true as refuted}
use Rattle.md_text.proofs.Marks.{split}
use Rattle.md_text.proofs.Firsts.{absent}

front_none : (read : Option (List ℕ)) → onto [] read ≡ read
front_none (Some bytes) = refl
front_none None = refl

-- bytes, and then others, before those that are read
front_front : (out more : List ℕ) (read : Option (List ℕ)) → onto (out ++ more) read ≡ onto out (onto more read)
front_front out more (Some bytes) = simp append_assoc
front_front out more None = refl

no_mark : (b : ℕ) → is_byte 92 b ≡ false → b ≢ 92
no_mark b plain is = let marked = eq-eqb b 92 is in cc

module _ (spaces : Bool) where
  read_plain : (b : ℕ) (text : List ℕ) → b ≢ 92 → unescaped spaces (b ∷ text) ≡ onto (b ∷ []) (unescaped spaces text)
  unfolding unescaped
  read_plain b [] other = grind (arith, nat_tests)
  read_plain b (c ∷ text) other = grind (arith, nat_tests)

  -- bytes without a backslash stand for themselves
  plain : (front rest : List ℕ) → All (λ x. is_byte 92 x ≡ false) front → unescaped spaces (front ++ rest) ≡ onto front (unescaped spaces rest)
  plain [] rest all = sym (front_none (unescaped spaces rest))
  plain (b ∷ front) rest all =
      read_plain b (front ++ rest) (no_mark b (All-head (λ x. is_byte 92 x ≡ false) b front all))
      ∙ ap (onto (b ∷ [])) (plain front rest (All-tail (λ x. is_byte 92 x ≡ false) b front all))
      ∙ sym (front_front (b ∷ []) front (unescaped spaces rest))

  all_plain : (text : List ℕ) → Nowhere (Passes (is_byte 92) text) 0 (length text) → unescaped spaces text ≡ Some text
  unfolding unescaped
  all_plain text none =
      ap (unescaped spaces) (sym (append-nil text)) ∙ plain text [] (absent 92 text none) ∙ ap Some (append-nil text)

  module _ (text : List ℕ) (at : ℕ) (found : NoneBefore (Passes (is_byte 92) text) 0 (length text) at × Passes (is_byte 92) text at) where
    before_mark : All (λ x. is_byte 92 x ≡ false) (take at text)
    before_mark =
        let long : length (take at text) ≡ at = length-take-le at text (omega (arith, found.0.high)) in
        All-from_get_or (λ x. is_byte 92 x ≡ false) (take at text) 0 (λ i h.
        let low : i < at = omega (arith, long) in ap (is_byte 92) (get_or-take at text i 0 low) ∙ refuted _ (found.0.before i (omega arith) low))

    parts : take at text ++ 92 ∷ drop (at + 1) text ≡ text
    parts = rw add-one (ap (λ b. take at text ++ b ∷ drop (suc at) text) (sym (eqb-true _ 92 found.1))
        ∙ ap (λ xs. take at text ++ xs) (sym (drop-cons text at 0 found.0.high)) ∙ take-append-drop at text)

    read_from : unescaped spaces text ≡ onto (take at text) (unescaped spaces (92 ∷ drop (at + 1) text))
    read_from = ap (unescaped spaces) (sym parts) ∙ plain (take at text) (92 ∷ drop (at + 1) text) before_mark

    -- a backslash at its end
    read_last : length text ≤ at + 1 → unescaped spaces text ≡ None
    unfolding unescaped
    read_last last = read_from ∙ ap (λ xs. onto (take at text) (unescaped spaces (92 ∷ xs))) (drop_of_length-le text last)

    -- an escape in the text, by what its letter means
    meaning : Option ℕ → Option (List ℕ)
    meaning byte = onto (take at text) (option_and_then (λ x. onto (x ∷ []) (unescaped spaces (drop (at + 2) text))) byte)

    read_escape : at + 1 < length text → unescaped spaces text ≡ meaning (meant_by spaces (get_or text (at + 1) 0))
    unfolding unescaped meaning
    read_escape more =
        let behind : at + 2 ≡ suc (at + 1) = omega arith in
        let cut : drop (at + 1) text ≡ get_or text (at + 1) 0 ∷ drop (at + 2) text = rw behind (drop-cons text (at + 1) 0 more) in
        read_from ∙ ap (λ xs. onto (take at text) (unescaped spaces (92 ∷ xs))) cut

  -- What was read of a text, before what is left of it.
  module _ (text bytes left : List ℕ) (so_far : onto bytes (unescaped spaces left) ≡ unescaped spaces text) where
    -- no backslash is left
    pub reads_on : Nowhere (Passes (is_byte 92) left) 0 (length left) → unescaped spaces text ≡ Some (bytes ++ left)
    reads_on none = sym so_far ∙ ap (onto bytes) (all_plain left none)

    module _ (at : ℕ) (found : NoneBefore (Passes (is_byte 92) left) 0 (length left) at × Passes (is_byte 92) left at) where
      -- a backslash at the end of the text
      pub ends_early : length left ≤ at + 1 → unescaped spaces text ≡ None
      ends_early end = sym so_far ∙ ap (onto bytes) (read_last left at found end)

      -- an escape, by its letter
      module _ (more : at + 1 < length left) where
        pub refused_at : meant_by spaces (get_or left (at + 1) 0) ≡ None → unescaped spaces text ≡ None
        unfolding meaning
        refused_at refuses = sym so_far ∙ ap (onto bytes) (read_escape left at found more ∙ ap (meaning left at found) refuses)

        pub taken : (b : ℕ) → meant_by spaces (get_or left (at + 1) 0) ≡ Some b
            → onto ((bytes ++ take at left) ++ b ∷ []) (unescaped spaces (take (length left - (at + 2)) (drop (at + 2) left))) ≡ unescaped spaces text
        unfolding meaning
        taken b means =
            let front = take at left in
            let others = unescaped spaces (drop (at + 2) left) in
            ap (λ xs. onto ((bytes ++ front) ++ b ∷ []) (unescaped spaces xs)) (take_rest left (at + 2))
            ∙ front_front (bytes ++ front) (b ∷ []) others ∙ front_front bytes front (onto (b ∷ []) others)
            ∙ ap (onto bytes) (sym (read_escape left at found more ∙ ap (meaning left at found) means)) ∙ so_far

ReadsBack : ℕ → List ℕ → Type 0
ReadsBack b rest = unescaped false (escape b ++ rest) ≡ onto (b ∷ []) (unescaped false rest)

escape_plain : (b : ℕ) → b ≢ 92 → b ≢ 10 → b ≢ 13 → escape b ≡ b ∷ []
escape_plain b mark feed return = grind (arith, nat_tests)

module _ (rest : List ℕ) where
  reads_mark : ReadsBack 92 rest
  unfolding ReadsBack unescaped meant_by
  reads_mark = refl

  reads_feed : ReadsBack 10 rest
  unfolding ReadsBack unescaped meant_by
  reads_feed = refl

  reads_return : ReadsBack 13 rest
  unfolding ReadsBack unescaped meant_by
  reads_return = refl

  reads_plain : (b : ℕ) → b ≢ 92 → b ≢ 10 → b ≢ 13 → ReadsBack b rest
  unfolding ReadsBack
  reads_plain b mark feed return = rw (escape_plain b mark feed return) (read_plain false b rest mark)

  reads_back : (b : ℕ) → ReadsBack b rest
  reads_back b =
      split b 92 (ReadsBack b rest) (λ e. subst (λ n. ReadsBack n rest) (sym e) reads_mark) (λ mark.
      split b 10 (ReadsBack b rest) (λ e. subst (λ n. ReadsBack n rest) (sym e) reads_feed) (λ feed.
      split b 13 (ReadsBack b rest) (λ e. subst (λ n. ReadsBack n rest) (sym e) reads_return) (λ return.
      reads_plain b mark feed return)))

-- what is written with escapes reads back
pub unescaped-escaped : (bytes : List ℕ) → unescaped false (escape_all bytes) ≡ Some bytes
unfolding unescaped ReadsBack
unescaped-escaped [] = refl
unescaped-escaped (b ∷ bytes) = reads_back (escape_all bytes) b ∙ ap (onto (b ∷ [])) (unescaped-escaped bytes)

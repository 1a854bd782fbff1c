-- The names in the rest of a line, word by word.
use Rattle.std.proofs.Common.{◌≡◌, ℕ, suc, ◌+◌, ◌<◌, ◌≤◌, true, false, cond, List, [], ◌∷◌, ◌++◌, Some, None, length, Ok, Err, Result, ok_or, refl, sym, ap, ◌∙◌, arith, append_assoc, append-nil, length-drop}
use Rattle.std.specs.Prelude.{nat_lt, is_some}
use Rattle.std.proofs.lemmas.Bool.Decides.{nat_tests}
use Rattle.std.proofs.lemmas.List.Splits.{slice_split_first, slice_split_none}
use Rattle.std.proofs.lemmas.List.Sums.{fails_before_first}
use Rattle.std.proofs.lemmas.List.Elements.{All-from_get_or}
use Rattle.std.proofs.lemmas.List.{take_all}
use Rattle.std.specs.List.{slice_split, list_any, before_first, after_first, position_or_len}
use Rattle.md_log.specs.declared.error.LineFault.{LineFault}
use Rattle.md_log.specs.declared.error.LineFault.TheVariants.{BadLine}
use Rattle.md_text.specs.Bind.{◌>>=◌}
use Rattle.md_text.specs.Words.{Rest, next_word, cut_at, nonempty_word, is_space}
use Rattle.md_log.specs.Words.{word_at}
use Rattle.md_log.specs.Names.{after_names, name_of, names_of, names_at}
use Rattle.md_name.proofs.Firsts.{any_by_place, place_within}

-- how much is left of a line
abbrev pub size_of : Rest → ℕ
size_of None = 0
size_of (Some text) = suc (length text)

parts_of : Rest → List (List ℕ)
parts_of None = []
parts_of (Some text) = slice_split is_space text

whole : (text : List ℕ) → nat_lt (position_or_len is_space text) (length text) ≡ false → position_or_len is_space text ≡ length text
whole text fails = let within = place_within is_space text in grind (arith, nat_tests)

split_cut : (text : List ℕ) → slice_split is_space text ≡ (cut_at 32 text).0 ∷ parts_of (cut_at 32 text).1
unfolding cut_at parts_of
split_cut text =
    elim (nat_lt (position_or_len is_space text) (length text)) as (λ b. nat_lt (position_or_len is_space text) (length text) ≡ b → list_any is_space text ≡ b
    → slice_split is_space text ≡ before_first is_space text ∷ parts_of (cond (list_any is_space text) (Some (after_first is_space text)) None)) [
      | true ↦ λ lt any. let low : position_or_len is_space text < length text = grind (arith, nat_tests) in rw any (slice_split_first is_space text 0 low)
      | false ↦ λ lt any. let all = whole text lt in
          rw (any, take_all (position_or_len is_space text) text (omega arith))
          (slice_split_none is_space text (All-from_get_or (λ x. is_space x ≡ false) text 0 (λ i h. fails_before_first is_space text i 0 (omega arith))))
    ] refl (any_by_place is_space text)

-- the names from the next word on
abbrev pub then_names : List ℕ → Rest → Result (List (List ℕ)) LineFault
then_names word others = name_of word >>= (λ name. after_names (name ∷ []) (names_at others))

names_of-parts : (rest : Rest) → names_of (parts_of rest) ≡ names_at rest
unfolding names_of parts_of names_at
names_of-parts None = refl
names_of-parts (Some text) = refl

word_by : Result (List ℕ × Rest) LineFault → List ℕ
word_by (Ok read) = read.0
word_by (Err fault) = []

left_by : Result (List ℕ × Rest) LineFault → Rest
left_by (Ok read) = read.1
left_by (Err fault) = None

by_cut : (front : List ℕ) (rest : Rest) (word : List ℕ) (others : Rest) → ok_or (nonempty_word (front, rest)) BadLine ≡ Ok (word, others)
    → names_of (front ∷ parts_of rest) ≡ then_names word others
unfolding names_of word_by left_by
by_cut [] rest word others is = cc
by_cut (b ∷ bytes) rest word others is =
    let same : b ∷ bytes ≡ word = ap word_by is in
    let left : rest ≡ others = ap left_by is in
    rw (← same, ← left) (ap (λ names. name_of (b ∷ bytes) >>= (λ name. after_names (name ∷ []) names)) (names_of-parts rest))

pub next_name : (rest : Rest) (word : List ℕ) (others : Rest) → word_at rest ≡ Ok (word, others) → names_at rest ≡ then_names word others
unfolding word_at next_word names_at
next_name None word others is = cc
next_name (Some text) word others is = ap names_of (split_cut text) ∙ by_cut (cut_at 32 text).0 (cut_at 32 text).1 word others is

by_wrong_cut : (front : List ℕ) (rest : Rest) (fault : LineFault) → ok_or (nonempty_word (front, rest)) BadLine ≡ Err fault → names_of (front ∷ parts_of rest) ≡ Err fault
unfolding names_of
by_wrong_cut [] rest fault is = let same : BadLine ≡ fault = cc in ap Err same
by_wrong_cut (b ∷ bytes) rest fault is = cc

pub no_word : (rest : Rest) (fault : LineFault) → is_some rest ≡ true → word_at rest ≡ Err fault → names_at rest ≡ Err fault
unfolding word_at next_word names_at
no_word None fault some is = cc
no_word (Some text) fault some is = ap names_of (split_cut text) ∙ by_wrong_cut (cut_at 32 text).0 (cut_at 32 text).1 fault is

front_front : (out more : List (List ℕ)) (read : Result (List (List ℕ)) LineFault) → after_names (out ++ more) read ≡ after_names out (after_names more read)
front_front out more (Ok xs) = simp append_assoc
front_front out more (Err e) = refl

-- ---- as a loop takes these steps, with names that were read before

module _ (all : Result (List (List ℕ)) LineFault) (out : List (List ℕ)) (rest : Rest) (held : after_names out (names_at rest) ≡ all) where
  pub ends : is_some rest ≡ false → all ≡ Ok out
  unfolding names_at
  ends none =
      let at_none : (r : Rest) → is_some r ≡ false → after_names out (names_at r) ≡ Ok out =
      λ r. elim r as (λ r. is_some r ≡ false → after_names out (names_at r) ≡ Ok out) [ None ↦ λ fails. ap Ok (append-nil out) | Some text ↦ λ fails. cc ] in
      sym held ∙ at_none rest none

  pub is_wrong : (fault : LineFault) → is_some rest ≡ true → word_at rest ≡ Err fault → all ≡ Err fault
  is_wrong fault some is = sym held ∙ ap (after_names out) (no_word rest fault some is)

  module _ (word : List ℕ) (others : Rest) (next : word_at rest ≡ Ok (word, others)) where
    turn : (read : Result (List ℕ) LineFault) → name_of word ≡ read → after_names out (read >>= (λ name. after_names (name ∷ []) (names_at others))) ≡ all
    turn read is = ap (λ read. after_names out (read >>= (λ name. after_names (name ∷ []) (names_at others)))) (sym is)
        ∙ ap (after_names out) (sym (next_name rest word others next)) ∙ held

    pub is_no_name : (fault : LineFault) → name_of word ≡ Err fault → all ≡ Err fault
    is_no_name fault is = sym (turn (Err fault) is)

    pub goes_on : (name : List ℕ) (more : List (List ℕ)) → name_of word ≡ Ok name → more ≡ out ++ name ∷ [] → after_names more (names_at others) ≡ all
    goes_on name more is pushed = rw pushed (front_front out (name ∷ []) (names_at others) ∙ turn (Ok name) is)

-- ---- a line gets shorter

rest_of-length : (text : List ℕ) → size_of (cut_at 32 text).1 ≤ length text
unfolding cut_at
rest_of-length text =
    elim (nat_lt (position_or_len is_space text) (length text)) as (λ b. nat_lt (position_or_len is_space text) (length text) ≡ b → list_any is_space text ≡ b
    → size_of (cond (list_any is_space text) (Some (after_first is_space text)) None) ≤ length text) [
      | true ↦ λ lt any. let low : position_or_len is_space text < length text = grind (arith, nat_tests) in
          rw any (let left = length-drop (position_or_len is_space text + 1) text in omega arith)
      | false ↦ λ lt any. rw any (omega arith)
    ] refl (any_by_place is_space text)

shorter_cut : (front : List ℕ) (rest : Rest) (word : List ℕ) (others : Rest) → ok_or (nonempty_word (front, rest)) BadLine ≡ Ok (word, others) → others ≡ rest
unfolding left_by
shorter_cut [] rest word others is = cc
shorter_cut (b ∷ bytes) rest word others is = sym (ap left_by is)

pub shorter : (rest : Rest) (word : List ℕ) (others : Rest) → word_at rest ≡ Ok (word, others) → size_of others < size_of rest
unfolding word_at next_word
shorter None word others is = cc
shorter (Some text) word others is =
    rw (shorter_cut (cut_at 32 text).0 (cut_at 32 text).1 word others is) (let low = rest_of-length text in omega arith)

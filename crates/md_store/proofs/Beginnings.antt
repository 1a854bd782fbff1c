-- Beginnings of one history. Cut where a beginning ends, the history is that beginning.
use Rattle.std.proofs.Common.{◌≡◌, ℕ, ◌≤◌, List, [], length, take, drop, sym, ◌∙◌, subst, arith, length-append}
use Rattle.std.proofs.lemmas.List.{append-nil, take-append-le, take-append-drop, take_all}
use mathlib.Core.List.{IsPrefix}

module _ {A : Type 0} where
  -- up to the end of a beginning the history says the same
  same_cut : (n : ℕ) (early history : List A) → IsPrefix early history → n ≤ length early → take n history ≡ take n early
  same_cut n early history begun within = subst (λ whole. take n whole ≡ take n early) begun.1 (take-append-le n early begun.0 within)

  pub cut_at_end : (early history : List A) → IsPrefix early history → take (length early) history ≡ early
  cut_at_end early history begun = same_cut (length early) early history begun (omega arith) ∙ take_all (length early) early (omega arith)

  cut_begins : (n : ℕ) (early history : List A) → take n history ≡ early → IsPrefix early history
  cut_begins n early history cut = subst (λ front. IsPrefix front history) cut (drop n history, take-append-drop n history)

  pub no_longer : (early history : List A) → IsPrefix early history → length early ≤ length history
  no_longer early history begun = subst (λ whole. length early ≤ length whole) begun.1 (omega (arith, length-append early begun.0))

  pub begins_itself : (history : List A) → IsPrefix history history
  begins_itself history = ([], append-nil history)

  pub begins_later : (early later latest : List A) → IsPrefix early later → IsPrefix later latest → IsPrefix early latest
  begins_later early later latest first second =
      let within : length early ≤ length later = no_longer early later first in
      cut_begins (length early) early latest (same_cut (length early) later latest second within ∙ cut_at_end early later first)

  -- one history has no two beginnings that part
  pub shorter_begins : (short long history : List A) → IsPrefix short history → IsPrefix long history → length short ≤ length long → IsPrefix short long
  shorter_begins short long history first second within =
      cut_begins (length short) short long (sym (same_cut (length short) long history second within) ∙ cut_at_end short history first)

  pub all_of_it : (seen history : List A) → IsPrefix seen history → length history ≤ length seen → seen ≡ history
  all_of_it seen history begun within = sym (cut_at_end seen history begun) ∙ take_all (length seen) history within

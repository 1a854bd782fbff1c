-- Times that a thing was there: from the last back, they say what all say.
use Rattle.std.proofs.Common.{ℕ, suc, ◌≡◌, ◌<◌, ◌≤◌, ◌-◌, ◌&&◌, ◌||◌, List, Bool, true, false, take, nat_le, length, get_or, sym, ap, ◌∙◌, arith}
use Rattle.std.proofs.Math.Seq.{take-suc}
use Rattle.std.proofs.lemmas.Bool.{le-leb, lt-leb, and_left, and_from, or_left}
use Rattle.md_watch.specs.Spells.{was_through}
use Rattle.md_watch.proofs.Spelling.{ends, last-time}

module _ (first last : ℕ) (times : List (ℕ × ℕ)) (at : ℕ) (d : ℕ × ℕ) (some : 0 < at) (within : at ≤ length times) where
  abbrev t : ℕ × ℕ
  t = get_or times (at - 1) d

  -- the last of the first times decides, or leaves it to those before
  back : was_through (take at times) first last ≡ (ends last t && (nat_le t.0 first || was_through (take (at - 1) times) first last))
  back =
      let low : at - 1 < length times = omega (arith, some, within) in
      let same : suc (at - 1) ≡ at = omega (arith, some) in
      let parts = take-suc times (at - 1) d low in
      ap (λ (n : ℕ). was_through (take n times) first last) (sym same)
      ∙ ap (λ (xs : List (ℕ × ℕ)). was_through xs first last) parts
      ∙ last-time first last (take (at - 1) times) t

  pub ended : t.1 < last → was_through (take at times) first last ≡ false
  ended lt = back ∙ and_left (ends last t) (nat_le t.0 first || was_through (take (at - 1) times) first last) (lt-leb last t.1 lt)

  pub begun : last ≤ t.1 → t.0 ≤ first → was_through (take at times) first last ≡ true
  begun late early = back ∙ and_from (ends last t) (nat_le t.0 first || was_through (take (at - 1) times) first last) (le-leb last t.1 late)
      (or_left (nat_le t.0 first) (was_through (take (at - 1) times) first last) (le-leb t.0 first early))

  pub earlier : last ≤ t.1 → first < t.0 → was_through (take at times) first last ≡ was_through (take (at - 1) times) first last
  earlier late lt = back ∙ left (ends last t) (nat_le t.0 first) (was_through (take (at - 1) times) first last)
      (le-leb last t.1 late) (lt-leb t.0 first lt)
    where
      left : (e b were : Bool) → e ≡ true → b ≡ false → (e && (b || were)) ≡ were
      left e b were late not = cc

-- The flags of a message: sets of ASCII letters, and how a set is written.
use Rattle.std.specs.Prelude.{◌≡◌, ◌&&◌, ℕ, Bool, true, List, filter, codes}
use Rattle.std.specs.Char.{is_ascii_alphabetic}
use Rattle.std.specs.Ordering.{nat_cmp}
use Rattle.std.specs.FinSet as set

-- a flag is one of the 52 ASCII letters, A to Z and a to z
abbrev pub is_letter : ℕ → Bool
is_letter c = is_ascii_alphabetic c

-- the letters in ASCII order
unfoldable pub letters : List ℕ
letters = codes "ABCDEFGHIJKLMNOPQRSTUVWXYZabcdefghijklmnopqrstuvwxyz"

-- a finite set of numbers; two with the same members are equal
abbrev pub Set : Type 0
Set = set.FinSet nat_cmp

-- whether two sets have the same letters
abbrev pub is_same_set : Set → Set → Bool
is_same_set a b = set.is_subset a b && set.is_subset b a

-- each member is a letter
pub record IsOfLetters (s : Set) : Type 0 where
  pub each : (c : ℕ) → set.contains s c ≡ true → is_letter c ≡ true

-- the one spelling of a set: each of its letters once, in ASCII order
unfoldable pub spelling : Set → List ℕ
spelling s = filter (λ c. set.contains s c) letters

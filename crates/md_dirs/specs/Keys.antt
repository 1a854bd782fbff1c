-- The sort key of a name: its first bytes as one number, the first byte highest, and zeros behind a shorter name.
use Rattle.std.specs.Prelude.{ℕ, zero, suc, ◌≡◌, ◌<◌, ◌+◌, ◌*◌, ◌^◌, List, [], ◌∷◌, All}

-- the first n bytes of a name
unfoldable pub key_from : ℕ → List ℕ → ℕ
key_from zero s = 0
key_from (suc n) [] = 0
key_from (suc n) (b ∷ s) = b * 256 ^ n + key_from n s

abbrev pub AreBytes : List ℕ → Type 0
AreBytes s = All (λ b. b < 2 ^ 8) s

-- a number is the key of a name
pub record IsKeyOf (number : ℕ) (name : List ℕ) : Type 0 where
  pub key : number ≡ key_from 16 name
  pub bytes : AreBytes name

-- How names are hashed.
use Rattle.std.specs.Prelude.{ℕ, zero, suc, ◌+◌, ◌-◌, ◌*◌, ◌/◌, ◌%◌, ◌^◌, List, [], ◌∷◌, length, if◌then◌else◌, nat_le, slice_index, bit_and, bit_or, bit_xor}
use Rattle.std.specs.List.{fold}
use Rattle.std.specs.Int.{w64, from_le_bytes, rotate_left}
use Rattle.md_dirs.specs.declared.hashing.NameHasher.{NameHasher}
use Rattle.md_dirs.specs.declared.hashing.HashSeed.{HashSeed}

-- the seed of two words
abbrev pub seed_of : ℕ → ℕ → HashSeed
seed_of state multiplier = record { initial = record { state = state; multiplier = multiplier } }

-- the seed of each run that is given none: the first 64 bits of the fractional parts of pi and of the golden ratio
abbrev pub fixed : HashSeed
fixed = seed_of 0x243f_6a88_85a3_08d3 0x9e37_79b9_7f4a_7c15

-- the eight bytes from i on, as a number of which the lowest byte is first
unfoldable pub word_at : List ℕ → ℕ → ℕ
word_at bs i = from_le_bytes w64 (slice_index bs i ∷ slice_index bs (i + 1) ∷ slice_index bs (i + 2) ∷ slice_index bs (i + 3)
    ∷ slice_index bs (i + 4) ∷ slice_index bs (i + 5) ∷ slice_index bs (i + 6) ∷ slice_index bs (i + 7) ∷ [])

-- a word with one byte more
abbrev pub with_byte : ℕ → ℕ → ℕ
with_byte word byte = bit_or ((word * 2 ^ 8) % 2 ^ 64) byte

-- up to eight bytes as a number
unfoldable pub short_word : List ℕ → ℕ
short_word bs = fold with_byte 0 bs

-- the two halves of 128 bits, joined by xor
abbrev pub folded : ℕ → ℕ
folded product = bit_xor (bit_and product (2 ^ 64 - 1)) (product / 2 ^ 64)

-- the hasher after two words: a word of the seed is added to each by xor, and their product is folded
unfoldable pub mix : NameHasher → ℕ → ℕ → NameHasher
mix h first second = record { state = folded (bit_xor first h.state * bit_xor second h.multiplier); multiplier = h.multiplier }

-- the hasher after the first n blocks of 16 bytes
unfoldable pub mix_blocks : List ℕ → NameHasher → ℕ → NameHasher
mix_blocks bs h zero = h
mix_blocks bs h (suc n) = mix (mix_blocks bs h n) (word_at bs (16 * n)) (word_at bs (16 * n + 8))

-- the hasher of which the length is known: its first word is turned by it
abbrev pub with_length : NameHasher → ℕ → NameHasher
with_length h n = record { state = rotate_left w64 h.state (n % 64); multiplier = h.multiplier }

-- the hasher after `write(bs)`: the last block of more than eight bytes ends where they end, and may share bytes with the one before
unfoldable pub write : NameHasher → List ℕ → NameHasher
write h bs =
    let n = length bs in
    let short = mix h (short_word bs) n in
    let long = mix (mix_blocks bs (with_length h n) ((n - 1) / 16)) (word_at bs (n - 16)) (word_at bs (n - 8)) in
    if nat_le n 8 then short else long

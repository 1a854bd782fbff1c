-- Bodies in pieces.
use Rattle.std.specs.Prelude.{ℕ, ◌+◌, ◌-◌, ◌/◌}

-- the number of pieces of n bytes
abbrev pub pieces_of : ℕ → ℕ → ℕ
pieces_of n chunk = (n + (chunk - 1)) / chunk

-- The parts of bytes that are read.
use Rattle.std.specs.Prelude.{ℕ, ◌+◌, ◌-◌, ◌==◌, Bool, ◌&&◌, nat_lt, nat_le, List, [], length, take, drop, if◌then◌else◌}
use Rattle.std.specs.List.{position_or_len}

-- where the first byte is that ends a line, and their number where there is none
abbrev pub end_of : ℕ → List ℕ → ℕ
end_of end bytes = position_or_len (λ b. b == end) bytes

-- the bytes up to the first that ends a line and with it, and whether there is one
abbrev pub cut : ℕ → List ℕ → List ℕ × Bool
cut end bytes = (take (end_of end bytes + 1) bytes, nat_lt (end_of end bytes) (length bytes))

-- the bytes from one position to another, and none where there are no such
abbrev pub part : ℕ → ℕ → List ℕ → List ℕ
part from until bytes = if nat_le from until && nat_le until (length bytes) then take (until - from) (drop from bytes) else []

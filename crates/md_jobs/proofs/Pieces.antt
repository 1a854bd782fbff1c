-- Bodies in pieces.
use Rattle.std.proofs.Common.{ℕ, ◌<◌, ◌-◌, min, arith}
use Rattle.md_jobs.specs.Pieces.{pieces_of}

-- one piece less
pub pieces-less : (n chunk : ℕ) → 0 < n → 0 < chunk → pieces_of (n - min chunk n) chunk < pieces_of n chunk
pieces-less n chunk some chunked = grind arith

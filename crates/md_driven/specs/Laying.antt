-- What a caller's buffer is given.
use Rattle.std.specs.Prelude.{◌≡◌, ◌⊎◌, ◌≤◌, ◌<◌, ◌++◌, ℕ, List, Result, Ok, Err, length, take, drop}
use Rattle.md_driven.specs.Numbers.{refusal_number}
use Rattle.md_driven.specs.declared.refusal.Refusal.{Refusal}

-- Bytes were laid at the front of a buffer, whose rest is as it was; or there was no room, and all of it is. The whole length is said.
abbrev pub Lays : List ℕ → List ℕ → List ℕ → ℕ → ℕ → Type 0
Lays bytes old new whole status =
    (whole ≡ length bytes) × (((status ≡ 0) × (length bytes ≤ length old) × (new ≡ bytes ++ drop (length bytes) old))
    ⊎ ((status ≡ 3) × (length old < length bytes) × (new ≡ old)))

-- as much of bytes as there is room for was laid at the front of a buffer, whose rest is as it was. The whole length is said
abbrev pub LaysFront : List ℕ → List ℕ → List ℕ → ℕ → Type 0
LaysFront bytes old new whole = (whole ≡ length bytes) × (new ≡ take (length old) bytes ++ drop (length bytes) old)

-- nothing was laid or said, for this reason
abbrev pub Keeps : ℕ → List ℕ → List ℕ → ℕ → ℕ → ℕ → Type 0
Keeps reason old new length_before length_after status = (status ≡ reason) × (new ≡ old) × (length_after ≡ length_before)

-- bytes are laid, or why there are none
abbrev pub LaysOrRefuses : Result (List ℕ) Refusal → List ℕ → List ℕ → ℕ → ℕ → ℕ → Type 0
LaysOrRefuses (Ok bytes) old new length_before length_after status = Lays bytes old new length_after status
LaysOrRefuses (Err refusal) old new length_before length_after status =
    Keeps (refusal_number refusal) old new length_before length_after status

-- the same, unless memory ran out
abbrev pub Gives : Result (List ℕ) Refusal → List ℕ → List ℕ → ℕ → ℕ → ℕ → Type 0
Gives said old new length_before length_after status =
    LaysOrRefuses said old new length_before length_after status ⊎ Keeps 4 old new length_before length_after status

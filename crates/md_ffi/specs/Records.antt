-- Records of calls, and what many calls in one come to.
use Rattle.std.specs.Prelude.{◌≡◌, ◌≢◌, ◌⊎◌, ◌≤◌, ◌<◌, ◌-◌, ℕ, List, [], ◌∷◌, Some, None, Result, Ok, Err, length, take, drop, nat_le, if◌then◌else◌}
use Rattle.std.specs.Int.{w32, w64, from_le_bytes}
use Rattle.md_jobs.specs.declared.answer.Answer.{Answer}
use Rattle.md_core.specs.Runs.{Run}
use Rattle.md_text.specs.Bind.{◌>>=◌}
use Rattle.md_ffi.specs.Calling.{no_answer_number, Comes}
use Rattle.md_driven.specs.Numbers.{refusal_number}
use Rattle.md_driven.specs.Shown.{answer_shown}
use Rattle.md_ffi.specs.declared.asked.Asked.{Asked}
use Rattle.md_ffi.specs.declared.jobs.NoAnswer.{NoAnswer}
use Rattle.md_driven.specs.declared.refusal.Refusal.{Refusal}
use Rattle.md_driven.specs.declared.refusal.Refusal.TheVariants.{BadRecord, Room}
use Rattle.md_driven.specs.declared.shown.AnswerShown.{AnswerShown}

-- the first bytes, so many, and the rest
abbrev pub cut : ℕ → List ℕ → Result (List ℕ × List ℕ) Refusal
cut count bytes = if nat_le count (length bytes) then Ok (take count bytes, drop count bytes) else Err BadRecord

-- the number in 4 bytes at a place, little-endian
abbrev pub four_at : ℕ → List ℕ → ℕ
four_at at bytes = from_le_bytes w32 (take 4 (drop at bytes))

-- the number in 8 bytes at a place, little-endian
abbrev pub eight_at : ℕ → List ℕ → ℕ
eight_at at bytes = from_le_bytes w64 (take 8 (drop at bytes))

-- what a record's head asks
abbrev pub asked_in : List ℕ → Asked
asked_in head = record { kind = four_at 0 head; folder = four_at 4 head; to = four_at 8 head; reserved = 0; number = eight_at 40 head }

-- a record: what is asked, the three pieces of bytes that it brings, and what follows it
pub record Record : Type 0 where
  pub asked : Asked
  pub unique : List ℕ
  pub first : List ℕ
  pub second : List ℕ
  pub rest : List ℕ

-- a record of these parts
abbrev pub recorded : Asked → List ℕ → List ℕ → List ℕ → List ℕ → Record
recorded asked unique first second rest = record { asked = asked; unique = unique; first = first; second = second; rest = rest }

-- the first record of these bytes: a head of 48 bytes, which says how long each piece is, and the pieces
unfoldable pub record_in : List ℕ → Result Record Refusal
record_in bytes =
    cut 48 bytes >>= (λ head.
    cut (eight_at 16 head.0) head.1 >>= (λ unique.
    cut (eight_at 24 head.0) unique.1 >>= (λ first.
    cut (eight_at 32 head.0) first.1 >>= (λ second.
    Ok (recorded (asked_in head.0) unique.0 first.0 second.0 second.1)))))

-- The records at the front of these bytes are calls that were made, one after another, each at this moment and with the answer that is
-- shown at its place. These bytes are left.
abbrev pub Answered : ℕ → List AnswerShown → List ℕ → Run → List ℕ → Run → Type 0
Answered now [] bytes old left new = (left ≡ bytes) × (new ≡ old)
Answered now (shown ∷ more) bytes old left new =
    (r : Record) × (record_in bytes ≡ Ok r) × (a : Answer) × (shown ≡ answer_shown (Some a))
    × (next : Run) × Comes r.asked r.unique r.first r.second now None old next (Ok a) × Answered now more r.rest next left new

-- Why no more calls are made of the bytes that are left: none is left; there is no room for an answer, or no whole record; or the next call
-- has no answer.
abbrev pub Halts : ℕ → List ℕ → ℕ → Run → Run → ℕ → Type 0
Halts now left room old new status =
    ((left ≡ []) × (new ≡ old) × (status ≡ 0))
    ⊎ ((left ≢ []) × (room ≡ 0) × (new ≡ old) × (status ≡ refusal_number Room))
    ⊎ ((left ≢ []) × (0 < room) × (record_in left ≡ Err BadRecord) × (new ≡ old) × (status ≡ refusal_number BadRecord))
    ⊎ ((0 < room) × (r : Record) × (record_in left ≡ Ok r) × (e : NoAnswer)
    × Comes r.asked r.unique r.first r.second now None old new (Err e) × (status ≡ no_answer_number e))

-- Many calls in one: so many were made, with an answer each, and the rest of the answers is as it was. What ended them is the status.
pub record CallsAll (now : ℕ) (bytes : List ℕ) (old new : Run) (before after : List AnswerShown) (done status : ℕ) : Type 0 where
  pub left : List ℕ
  pub between : Run
  pub within : done ≤ length before
  pub answered : Answered now (take done after) bytes old left between
  pub kept : drop done after ≡ drop done before
  pub halts : Halts now left (length before - done) between new status

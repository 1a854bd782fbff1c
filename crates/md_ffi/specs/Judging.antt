-- What is judged of a log, as C has it.
use Rattle.std.specs.Prelude.{◌≡◌, ◌≢◌, ◌⊎◌, ◌↔◌, ◌++◌, ◌+◌, ℕ, List, Result, Ok, Err, IsOk, flat_map}
use Rattle.md_head.specs.Header.{lines_of}
use Rattle.md_log.specs.declared.clause.Clause.{Clause}
use Rattle.md_log.specs.declared.error.LineFault.TheVariants.{NoMemory, NoOrder, TooManyOrders}
use Rattle.md_log.specs.declared.error.LogFault.{LogFault}
use Rattle.md_log.specs.Texts.{clause_index}
use Rattle.md_judge.specs.declared.log.Finding.{Finding}
use Rattle.md_judge.specs.Logs.{Log, log_of}
use Rattle.md_judge.specs.Orders.{AreFoundInOrder}
use Rattle.md_judge.specs.Taken.{IsWithoutTicks, by_law}
use Rattle.md_judge.specs.Verdict.{AreInOrder, HasNoTicks, IsAmong, IsFinding}
use Rattle.md_driven.specs.Laying.{Lays}
use Rattle.md_driven.specs.Numbers.{fault_number}
use Rattle.md_ffi.specs.Reading.{four_bytes, eight_bytes}

-- a finding: the number of its line, that of its clause in the order of the law, from 1, and 4 bytes that are 0
abbrev pub finding_bytes : Finding → List ℕ
finding_bytes f = eight_bytes f.line ++ four_bytes (clause_index f.clause + 1) ++ four_bytes 0

-- findings, one after another
abbrev pub findings_bytes : List Finding → List ℕ
findings_bytes found = flat_map finding_bytes found

-- The text is a log, and these are its findings by the law, in the order of its lines, and at one line in the order of the law.
pub record AreFindings (text : List ℕ) (found : List Finding) : Type 0 where
  pub is_log : IsOk (log_of text)
  pub ordered : AreInOrder found
  pub exact : (l : Log) → log_of text ≡ Ok l → HasNoTicks l → (number : ℕ) (c : Clause)
      → IsAmong found number c ↔ IsFinding (by_law l) number c
  pub placed : (l : Log) → log_of text ≡ Ok l → AreFoundInOrder (by_law l) found

-- The text is no log by this first wrong line; or calls overlap in it, and no order of them is found.
pub record IsWrong (text : List ℕ) (e : LogFault) : Type 0 where
  pub memory : e.fault ≢ NoMemory
  pub first : e.fault ≢ NoOrder → e.fault ≢ TooManyOrders → log_of text ≡ Err e
  pub apart : IsWithoutTicks (lines_of text) → log_of text ≡ Err e

-- what is judged of a text
abbrev pub IsJudged : List ℕ → Result (List Finding) LogFault → Type 0
IsJudged text (Ok found) = AreFindings text found
IsJudged text (Err e) = IsWrong text e

-- Findings were laid, or there was no room. Or a line is wrong, which is said, and nothing was laid.
abbrev pub LaysFindings : Result (List Finding) LogFault → List ℕ → List ℕ → ℕ → ℕ → ℕ → Type 0
LaysFindings (Ok found) old new whole line status = Lays (findings_bytes found) old new whole status × (line ≡ 0)
LaysFindings (Err e) old new whole line status = (status ≡ fault_number e.fault) × (line ≡ e.line) × (whole ≡ 0) × (new ≡ old)

-- A text was judged, and what is judged of it is told; or memory ran out.
abbrev pub Judges : List ℕ → List ℕ → List ℕ → ℕ → ℕ → ℕ → Type 0
Judges text old new whole line status =
    ((said : Result (List Finding) LogFault) × IsJudged text said × LaysFindings said old new whole line status)
    ⊎ ((status ≡ 4) × (line ≡ 0) × (whole ≡ 0) × (new ≡ old))

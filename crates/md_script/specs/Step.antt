-- What one line does.
use Rattle.std.specs.Prelude.{◌≡◌, ◌≢◌, ℕ, List, [], ◌++◌, Result, Ok, Err, if◌then◌else◌}
use Rattle.md_text.specs.Words.{is_passed_over}
use Rattle.md_script.specs.declared.error.PlayKind.{PlayKind}
use Rattle.md_script.specs.declared.error.PlayKind.TheVariants.{NoMemory}

-- a line's session and text, or its refusal, by the step of the lines that are not passed over
unfoldable pub line_step : {S : Type 0} → (S → List ℕ → Result (S × List ℕ) PlayKind) → S → List ℕ → Result (S × List ℕ) PlayKind
line_step step s line = if is_passed_over line then Ok (s, []) else step s line

-- A line was run: its step left this session, and its text was appended; or this is its refusal, and nothing was
-- appended. Nothing is said where memory ran out.
abbrev pub Steps : {S : Type 0} → Result (S × List ℕ) PlayKind → S → List ℕ → List ℕ → Result (Unit {0}) PlayKind → Type 0
Steps step s before after (Ok done) = (text : List ℕ) × (step ≡ Ok (s, text)) × (after ≡ before ++ text)
Steps step s before after (Err kind) = kind ≢ NoMemory → (step ≡ Err kind) × (after ≡ before)

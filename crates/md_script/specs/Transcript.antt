-- What a script prints, the line that it is refused at, and the session that it came to.
use Rattle.std.specs.Prelude.{ℕ, ◌+◌, List, [], ◌∷◌, ◌++◌, Option, Some, None, Result, Ok, Err}
use Rattle.md_script.specs.declared.error.PlayKind.{PlayKind}
use Rattle.md_script.specs.declared.error.PlayError.{PlayError}
use Rattle.md_head.specs.Header.{lines_of}
use Rattle.md_script.specs.Step.{line_step}

-- the printed text, the refusal of the line that the run ends at, if it does, and the session before that line or after all lines
pub record Transcript (S : Type 0) : Type 0 where
  pub text : List ℕ
  pub refusal : Option PlayError
  pub session : S

-- a text before a transcript
abbrev pub with_text_before : {S : Type 0} → List ℕ → Transcript S → Transcript S
with_text_before text t = record { text = text ++ t.text; refusal = t.refusal; session = t.session }

-- what one line comes to: its text and then what its session goes on with, or its refusal
abbrev pub go_on : {S : Type 0} → ℕ → S → (S → Transcript S) → Result (S × List ℕ) PlayKind → Transcript S
go_on line s others (Ok (t, text)) = with_text_before text (others t)
go_on line s others (Err kind) = record { text = []; refusal = Some (record { line = line; kind = kind }); session = s }

-- the transcript of lines, of which the first has this number
unfoldable pub run_from : {S : Type 0} → (S → List ℕ → Result (S × List ℕ) PlayKind) → ℕ → S → List (List ℕ) → Transcript S
run_from step line s [] = record { text = []; refusal = None; session = s }
run_from step line s (first ∷ others) = go_on line s (λ t. run_from step (line + 1) t others) (line_step step s first)

-- the transcript of a script that is run over this session
abbrev pub transcript_of : {S : Type 0} → (S → List ℕ → Result (S × List ℕ) PlayKind) → S → List ℕ → Transcript S
transcript_of step s script = run_from step 1 s (lines_of script)

-- How far the run of a script has come, and what it comes to with the lines that are left.
use Rattle.std.specs.Prelude.{◌≡◌, ℕ, ◌+◌, List, [], ◌++◌, length, Option, Some, None, Result}
use Rattle.md_head.specs.Header.{lines_of}
use Rattle.md_script.specs.declared.error.PlayKind.{PlayKind}
use Rattle.md_script.specs.declared.error.PlayError.{PlayError}
use Rattle.md_script.specs.declared.run.Progress.{Progress}
use Rattle.md_script.specs.Transcript.{Transcript, run_from, transcript_of, with_text_before}

-- nothing was run
pub record IsFresh (p : Progress) : Type 0 where
  pub passed : p.passed ≡ 0
  pub text : p.printed.text.items ≡ []
  pub refusal : p.printed.refusal ≡ None

-- a session, and the number of the line that comes next
pub record Ready (S : Type 0) : Type 0 where
  pub session : S
  pub next : ℕ

-- what a run goes on with, unless a line was refused: after that it is of no more use
abbrev pub ready_unless : {S : Type 0} → Option PlayError → S → ℕ → Option (Ready S)
ready_unless None s next = Some (record { session = s; next = next })
ready_unless (Some e) s next = None

-- a transcript with its session and the number of the line behind its lines, if these are of use
abbrev pub usable : {S : Type 0} → ℕ → Transcript S → Transcript (Option (Ready S))
usable next t = record { text = t.text; refusal = t.refusal; session = ready_unless t.refusal t.session next }

-- the transcript of a whole script so
abbrev pub usable_of : {S : Type 0} → (S → List ℕ → Result (S × List ℕ) PlayKind) → S → List ℕ → Transcript (Option (Ready S))
usable_of step s script = usable (1 + length (lines_of script)) (transcript_of step s script)

-- what a run that has come so far comes to with these lines to go
abbrev pub outcome_by : {S : Type 0} → (S → List ℕ → Result (S × List ℕ) PlayKind)
    → Option PlayError → List ℕ → ℕ → S → List (List ℕ) → Transcript (Option (Ready S))
outcome_by step (Some e) text line s lines = record { text = text; refusal = Some e; session = None }
outcome_by step None text line s lines = with_text_before text (usable (line + length lines) (run_from step line s lines))

abbrev pub outcome : {S : Type 0} → (S → List ℕ → Result (S × List ℕ) PlayKind)
    → Progress → S → List (List ℕ) → Transcript (Option (Ready S))
outcome step p s lines = outcome_by step p.printed.refusal p.printed.text.items (p.passed + 1) s lines

-- Lines were run: whatever lines follow, the whole comes to the same.
abbrev pub GoesOn : {S : Type 0} → (S → List ℕ → Result (S × List ℕ) PlayKind) → Progress → S → List (List ℕ) → Progress → S → Type 0
GoesOn step before s lines after t = (more : List (List ℕ)) → outcome step after t more ≡ outcome step before s (lines ++ more)

-- A script that goes on prints on.
use Rattle.std.proofs.Common.{ℕ, ◌+◌, List, [], ◌∷◌, ◌++◌, Result, Ok, Err, refl, sym, ap, ◌∙◌, subst, append_assoc}
use mathlib.Core.List.{IsPrefix}
use Rattle.md_head.specs.Header.{IsWholeLines, lines_of}
use Rattle.md_head.proofs.Appended.{lines_whole_append}
use Rattle.md_script.specs.declared.error.PlayKind.{PlayKind}
use Rattle.md_script.specs.Step.{line_step}
use Rattle.md_script.specs.Transcript.{go_on, run_from, transcript_of}

module _ {S : Type 0} (step : S → List ℕ → Result (S × List ℕ) PlayKind) where
  -- more lines only add to what lines print
  lines-go-on : (lines more : List (List ℕ)) (line : ℕ) (s : S) → IsPrefix (run_from step line s lines).text (run_from step line s (lines ++ more)).text
  unfolding run_from
  lines-go-on [] more line s = (_, refl)
  lines-go-on (first ∷ others) more line s = by (λ t. lines-go-on others more (line + 1) t) (line_step step s first)
    where
      by : ((t : S) → IsPrefix (run_from step (line + 1) t others).text (run_from step (line + 1) t (others ++ more)).text) →
          (done : Result (S × List ℕ) PlayKind) → IsPrefix (go_on line s (λ t. run_from step (line + 1) t others) done).text
          (go_on line s (λ t. run_from step (line + 1) t (others ++ more)) done).text
      by goes (Ok (t, text)) =
          let rest = goes t in
          (rest.0, append_assoc text (run_from step (line + 1) t others).text rest.0 ∙ ap (λ xs. text ++ xs) rest.1)
      by goes (Err kind) = ([], refl)

  pub script-goes-on : (s : S) (front more : List ℕ) → IsWholeLines front → IsPrefix (transcript_of step s front).text (transcript_of step s (front ++ more)).text
  script-goes-on s front more whole =
      subst (λ lines. IsPrefix (transcript_of step s front).text (run_from step 1 s lines).text) (sym (lines_whole_append front more whole))
      (lines-go-on (lines_of front) (lines_of more) 1 s)

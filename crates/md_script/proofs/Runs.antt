-- One line more of a run.
use Rattle.std.proofs.Common.{◌≡◌, ℕ, ◌+◌, List, [], ◌∷◌, ◌++◌, length, Option, Some, None, Result, Ok, Err, is_some, true, false, refl, ap, ◌∙◌, sym, arith, append-nil, append_assoc}
use Rattle.md_script.specs.declared.error.PlayKind.{PlayKind}
use Rattle.md_script.specs.declared.error.PlayError.{PlayError}
use Rattle.md_script.specs.declared.run.Progress.{Progress}
use Rattle.md_script.specs.Printed.{Tells}
use Rattle.md_script.specs.Step.{line_step}
use Rattle.md_script.specs.Transcript.{Transcript, run_from, go_on}
use Rattle.md_script.specs.Progress.{Ready, outcome, outcome_by, usable, ready_unless, IsFresh}

module _ {S : Type 0} (step : S → List ℕ → Result (S × List ℕ) PlayKind) (r : Option PlayError) (none : r ≡ None)
    (text : List ℕ) (line : ℕ) (s : S) (first : List ℕ) (lines others : List (List ℕ)) (cut : lines ≡ first ∷ others) (after : List (List ℕ)) where
  here : run_from step line s (lines ++ after) ≡ go_on line s (λ t. run_from step (line + 1) t (others ++ after)) (line_step step s first)
  unfolding run_from
  here = ap (λ ls. run_from step line s (ls ++ after)) cut

  pub outcome_more : (t : S) (now more : List ℕ) → now ≡ text ++ more → line_step step s first ≡ Ok (t, more)
      → outcome_by step r now (line + 1) t (others ++ after) ≡ outcome_by step r text line s (lines ++ after)
  outcome_more t now more is e =
      let next : line + length (lines ++ after) ≡ (line + 1) + length (others ++ after) = ap (λ ls. line + length (ls ++ after)) cut ∙ omega arith in
      rw (none, next, here, e, is) (simp append_assoc)

  pub outcome_refused : (kind : PlayKind) (t : S) (now : List ℕ) (last : List (List ℕ)) → now ≡ text → line_step step s first ≡ Err kind
      → outcome_by step (Some (record { line = line; kind = kind })) now (line + 1) t last ≡ outcome_by step r text line s (lines ++ after)
  outcome_refused kind t now last is e = rw (none, here, e, is) (simp append-nil)

-- where a line was refused, no further line matters
pub outcome_same : {S : Type 0} (step : S → List ℕ → Result (S × List ℕ) PlayKind) (r : Option PlayError) → is_some r ≡ true
    → (text : List ℕ) (line : ℕ) (s : S) (lines others : List (List ℕ)) → outcome_by step r text line s lines ≡ outcome_by step r text line s others
outcome_same step None is text line s lines others = absurd (no is)
  where
    no : false ≡ true → ⊥
    no e = cc
outcome_same step (Some e) is text line s lines others = refl

-- what a run comes to from its beginning
pub outcome_fresh : {S : Type 0} (step : S → List ℕ → Result (S × List ℕ) PlayKind) (start : Progress) (s : S) (lines : List (List ℕ)) → IsFresh start
    → outcome step start s lines ≡ usable (1 + length lines) (run_from step 1 s lines)
outcome_fresh step start s lines fresh = rw (fresh.refusal, fresh.text, fresh.passed) refl

-- a run that comes with no line to go to what a transcript is tells it
told : {S : Type 0} (step : S → List ℕ → Result (S × List ℕ) PlayKind) (next : ℕ) (t : Transcript S) (r : Option PlayError) (text : List ℕ) (line : ℕ) (s : S)
    → outcome_by step r text line s [] ≡ usable next t
    → (text ≡ t.text) × (r ≡ t.refusal) × (t.refusal ≡ None → s ≡ t.session) × (r ≡ None → line ≡ next)
unfolding run_from
told step next t (Some e) text line s is = (
  ap (λ x. x.text) is,
  ap (λ x. x.refusal) is,
  λ none. let no : Some e ≡ None = ap (λ x. x.refusal) is ∙ none in cc,
  λ no. cc,
)
told {S} step next t None text line s is = (
  sym (append-nil text) ∙ ap (λ x. x.text) is,
  refused,
  λ none. ap (λ r. r.session) (same none),
  λ _. let next_is : line + 0 ≡ next = ap (λ r. r.next) (same (sym refused)) in omega arith,
)
  where
    refused : None ≡ t.refusal
    refused = ap (λ x. x.refusal) is

    now : Ready S
    now = record { session = s; next = line + 0 }

    whole : Ready S
    whole = record { session = t.session; next = next }

    same : t.refusal ≡ None → now ≡ whole
    same none =
        let held : Some now ≡ Some whole = ap (λ x. x.session) is ∙ ap (λ r. ready_unless r t.session next) none in cc

module _ {S : Type 0} (step : S → List ℕ → Result (S × List ℕ) PlayKind) (p : Progress) (s : S) (next : ℕ) (t : Transcript S)
    (is : outcome step p s [] ≡ usable next t) where
  all : (p.printed.text.items ≡ t.text) × (p.printed.refusal ≡ t.refusal) × (t.refusal ≡ None → s ≡ t.session)
      × (p.printed.refusal ≡ None → p.passed + 1 ≡ next)
  all = told step next t p.printed.refusal p.printed.text.items (p.passed + 1) s is

  pub tells : Tells t p.printed s
  tells = record { shows = record { text = all.0; refusal = all.1 }; left = all.2 }

  -- and how many lines were passed
  pub tells_next : p.printed.refusal ≡ None → p.passed + 1 ≡ next
  tells_next = all.3

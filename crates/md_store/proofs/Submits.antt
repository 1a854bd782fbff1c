-- Which refusals of a call rest on the call and the folders alone.
use Rattle.std.proofs.Common.{ℕ, ◌≡◌, ◌⊎◌, Bool, true, false, List, [], ◌∷◌, ◌++◌, Option, Some, None, refl, sym, ap, ◌∙◌, subst, inl, inr, Result, Ok, Err, MatchResult, IfErr}
use Rattle.std.proofs.lemmas.List.{append_assoc}
use Rattle.md_jobs.specs.declared.error.CoreError.{CoreError}
use Rattle.md_jobs.specs.declared.error.CoreError.TheVariants as core
use Rattle.md_jobs.specs.declared.call.Call.{Call}
use Rattle.md_jobs.specs.declared.call.Call.TheVariants as call
use Rattle.md_core.specs.declared.world.submit.SubmitRefused.{SubmitRefused}
use Rattle.md_core.specs.Machine.{Standing, working, answered}
use Rattle.md_core.specs.Runs.{Run, IsRefusal, step_refusal}
use Rattle.md_core.specs.Submitting.{checks_of_words, first_met, is_used, late_checks, submit_refusal, too_many}
use Rattle.md_store.specs.Calling.{plain_refusal, IsWhy, MakesName}

abbrev Checks : Type 0
Checks = List (Bool × CoreError)

-- where none of the first checks is met, the last ones say why
abbrev IsHeldWhy : Call → Checks → Type 0
IsHeldWhy asked cs = (e : CoreError) → IsRefusal (first_met cs) e → IsWhy asked None e

one : (asked : Call) (full : Bool) → IsHeldWhy asked ((full, core.TooManyJobs) ∷ [])
one asked true e h = inl h
one asked false e h = inr (inr h)

two : (asked : Call) → MakesName asked → (full used : Bool) → IsHeldWhy asked ((full, core.TooManyJobs) ∷ (used, core.NameUsed) ∷ [])
two asked makes true used e h = inl h
two asked makes false true e h = inr (inl (h, makes))
two asked makes false false e h = inr (inr h)

-- what the first checks say counts, whatever the last ones say
why : (asked : Call) (ps cs : Checks) → IsHeldWhy asked cs → (e : CoreError) → IsRefusal (first_met (ps ++ cs)) e → IsWhy asked (first_met ps) e
why asked [] cs is e h = is e h
why asked ((true, x) ∷ ps) cs is e h = h
why asked ((false, x) ∷ ps) cs is e h = why asked ps cs is e h

none-first : (ps cs : Checks) → first_met (ps ++ cs) ≡ None → first_met ps ≡ None
none-first [] cs h = refl
none-first ((true, x) ∷ ps) cs h = h
none-first ((false, x) ∷ ps) cs h = none-first ps cs h

module _ (r : Run) (folders : ℕ) (same : r.image.folders ≡ folders) where
  -- the checks that rest on the store, which come last: whether there are too many jobs, and whether a name is used
  abbrev held : Call → Checks
  held asked = (too_many r, core.TooManyJobs) ∷ late_checks r asked

  held-why : (asked : Call) → IsHeldWhy asked (held asked)
  held-why (call.Deliver folder unique body chunk) = two (call.Deliver folder unique body chunk) tt (too_many r) (is_used r unique)
  held-why (call.Copy folder unique to fresh tries) = two (call.Copy folder unique to fresh tries) tt (too_many r) (is_used r fresh)
  held-why asked = one asked (too_many r)

  is-here : (asked : Call) → submit_refusal r asked ≡ first_met (checks_of_words folders asked ++ held asked)
  is-here asked = ap first_met (append_assoc (checks_of_words r.image.folders asked) ((too_many r, core.TooManyJobs) ∷ []) (late_checks r asked))
      ∙ ap (λ n. first_met (checks_of_words n asked ++ held asked)) same

  pub submits : (asked : Call) {A : Type 0} (res : Result A SubmitRefused)
      → MatchResult res (λ _. submit_refusal r asked ≡ None) (λ y. IsRefusal (submit_refusal r asked) y.error)
      → MatchResult res (λ _. plain_refusal folders asked ≡ None) (λ y. IsWhy asked (plain_refusal folders asked) y.error)
  submits asked (Ok n) h = none-first (checks_of_words folders asked) (held asked) (sym (is-here asked) ∙ h)
  submits asked (Err y) h = why asked (checks_of_words folders asked) (held asked) (held-why asked) y.error
      (subst (λ o. IsRefusal o y.error) (is-here asked) h)

-- why a step is refused
pub step_why : {A : Type 0} (o : Option Standing) (res : Result A CoreError) → MatchResult res (λ _. step_refusal o ≡ None) (IsRefusal (step_refusal o))
    → IfErr res (λ e. (e ≡ core.NoJob) ⊎ (e ≡ core.Answered) ⊎ (e ≡ core.NoMemory))
step_why o (Ok x) h = tt
step_why None (Err e) h = inl h
step_why (Some (working task)) (Err e) h = inr (inr h)
step_why (Some (answered a)) (Err e) h = inr (inl h)

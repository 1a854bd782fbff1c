-- What a turn tells of the call of its job, it tells of the call that the job has.
use Rattle.std.proofs.Common.{ℕ, suc, ◌≡◌, ◌≤◌, Some, sym, subst, ◌∙◌, arith, length, slice_get}
use Rattle.std.proofs.lemmas.Option.{slice_get_within}
use Rattle.md_jobs.specs.declared.call.Call.{Call}
use Rattle.md_beside.specs.Story.{Story, Step, ours, step_at}
use Rattle.md_beside.specs.Beside.{IsStory}

-- a step comes within the story
pub within-story : (t : Story) (k : ℕ) (x : Step) → step_at t k ≡ Some x → k ≤ length t.steps
within-story t k x is = let within = slice_get_within t.steps k x is in omega (arith, within)

module _ (t : Story) (story : IsStory t) (i : ℕ) (c : Call) (of : slice_get t.calls i ≡ Some c) (k : ℕ) (x : Step)
    (is : step_at t k ≡ Some x) (who : x.who ≡ ours (suc i)) where
  its-call : (story.turns k (suc i) x is who).call ≡ c
  its-call = let e : Some (story.turns k (suc i) x is who).call ≡ Some c = sym (story.turns k (suc i) x is who).of ∙ of in cc

  pub its : (P : Call → Type 0) → P (story.turns k (suc i) x is who).call → P c
  its P = subst P its-call

  pub back : (P : Call → Type 0) → P c → P (story.turns k (suc i) x is who).call
  back P = subst P (sym its-call)

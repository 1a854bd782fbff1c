-- What is told of a refusal of the store.
use Rattle.std.proofs.Common.{ℕ, ◌≡◌, ◌+◌, ◌⊎◌, ◌∙◌, List, length, sym, ap, subst, inl, inr}
use Rattle.std.specs.Prelude.{Option, Some, None, Result, Ok, Err}
use Rattle.md_jobs.specs.declared.call.Call.{Call}
use Rattle.md_jobs.specs.declared.error.CoreError.{CoreError}
use Rattle.md_core.specs.Calling.{IfRefused}
use Rattle.md_core.specs.declared.world.call.CallError.{CallError}
use Rattle.md_core.specs.declared.world.call.CallError.TheVariants.{Refused}
use Rattle.md_core.specs.declared.world.submit.SubmitRefused.{SubmitRefused}
use Rattle.md_core.specs.Runs.{Run, IsRefusal, and_call}
use Rattle.md_core.specs.Submitting.{submit_refusal}
use Rattle.md_script.specs.Kinds.{core_kind}
use Rattle.md_script.specs.declared.error.PlayKind.TheVariants.{NoMemory}
use Rattle.md_text.specs.Bind.{◌>>=◌}
use Rattle.md_ffi.specs.Asking.{call_at, unless}
use Rattle.md_ffi.specs.Doing.{refused_step, submitted}
use Rattle.md_ffi.specs.declared.asked.Asked.{Asked}
use Rattle.md_driven.specs.Numbers.{core_number}
use Rattle.md_driven.specs.declared.refusal.Refusal.{Refusal}
use Rattle.md_driven.specs.declared.refusal.Refusal.TheVariants.{Kind}

-- the number of a refused step is that of its refusal
pub step_number : (refusal : Option CoreError) (e : CoreError) → IsRefusal refusal e → core_number e ≡ refused_step refusal
step_number None e is = ap core_number is
step_number (Some refusal) e is = ap core_number is

by-refusal : {X : Type 0} (refusal : Option CoreError) (x : X) (e : CoreError) (r : Refusal) → IsRefusal refusal e → r ≡ Kind (core_kind e)
    → (r ≡ Kind NoMemory) ⊎ (unless core_kind refusal x ≡ Err r)
by-refusal None x e r is same = inl (same ∙ ap (λ f. Kind (core_kind f)) is)
by-refusal (Some refusal) x e r is same = inr (sym (ap Err (same ∙ ap (λ f. Kind (core_kind f)) is)))

-- what is said of a call that can be read
abbrev said : Run → Call → Result (Run × ℕ) Refusal
said run call = unless core_kind (submit_refusal run call) (and_call run call, length run.calls + 1)

-- a call that the store refuses is not submitted for that, or for want of memory
pub not_submitted : (run : Run) (asked : Asked) (unique first second : List ℕ) (call : Call) (e : CoreError) (r : Refusal)
    → call_at asked unique first second ≡ Ok call → IsRefusal (submit_refusal run call) e → r ≡ Kind (core_kind e)
    → (r ≡ Kind NoMemory) ⊎ (submitted run asked unique first second ≡ Err r)
unfolding submitted
not_submitted run asked unique first second call e r asks is same =
    subst (λ (o : Result Call Refusal). (r ≡ Kind NoMemory) ⊎ ((o >>= said run) ≡ Err r)) (sym asks)
    (by-refusal (submit_refusal run call) (and_call run call, length run.calls + 1) e r is same)

-- what holds of a call that was refused
pub of_refused : (P : SubmitRefused → Type 0) (error : CallError) (refused : SubmitRefused) → error ≡ Refused refused → IfRefused (Err error) P
    → P refused
of_refused P error refused is = subst (λ (x : CallError). IfRefused (Err x) P) is

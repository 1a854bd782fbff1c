-- A call is refused by its checks in their order, of which the one of the name that it makes is the last.
use Rattle.std.proofs.Common.{ℕ, ◌≡◌, ◌++◌, ◌∙◌, List, [], ◌∷◌, Some, None, Bool, true, false, refl, sym, ap, subst, if◌then◌else◌}
use Rattle.md_jobs.specs.declared.call.Call.TheVariants.{Deliver, Copy}
use Rattle.md_jobs.specs.declared.error.CoreError.TheVariants as core
use Rattle.md_core.specs.Gathering.{makes_used}
use Rattle.md_core.specs.Runs.{IsRefusal}
use Rattle.md_core.specs.Submitting.{early_checks, early_refusal, late_checks, late_refusal}
use Rattle.md_core.proofs.Values.{State, CoreError, Call, Run, Used, first_met, is_used, is_used_before, submit_refusal}

met-before : (cs ds : List (Bool × CoreError)) (e : CoreError) → first_met cs ≡ Some e → first_met (cs ++ ds) ≡ Some e
met-before [] ds e is = absurd (cc is)
met-before ((true, f) ∷ cs) ds e is = is
met-before ((false, f) ∷ cs) ds e is = met-before cs ds e is

met-after : (cs ds : List (Bool × CoreError)) → first_met cs ≡ None → first_met (cs ++ ds) ≡ first_met ds
met-after [] ds is = refl
met-after ((true, f) ∷ cs) ds is = absurd (cc is)
met-after ((false, f) ∷ cs) ds is = met-after cs ds is

-- a check that is met early is the first
pub early-refused : (r : Run) (call : Call) (e : CoreError) → early_refusal r call ≡ Some e → submit_refusal r call ≡ Some e
early-refused r call e = met-before (early_checks r call) (late_checks r call) e

by-use : (b : Bool) → IsRefusal (first_met ((b, core.NameUsed) ∷ [])) (if b then core.NameUsed else core.NoMemory)
by-use true = refl
by-use false = refl

by-last : (r : Run) (call : Call) → IsRefusal (first_met (late_checks r call)) (late_refusal r call)
by-last r (Deliver folder u body chunk) = by-use (is_used r u)
by-last r (Copy folder u to fresh tries) = by-use (is_used r fresh)
by-last r call = refl

-- where none is, it is refused late
pub late-refused : (r : Run) (call : Call) → early_refusal r call ≡ None → IsRefusal (submit_refusal r call) (late_refusal r call)
late-refused r call none =
    subst (λ o. IsRefusal o (late_refusal r call)) (sym (met-after (early_checks r call) (late_checks r call) none)) (by-last r call)

-- and it is taken where the name that it makes is free
module _ (r : Run) (s : State) (used : Used) (same : (u : List ℕ) → is_used_before s used u ≡ is_used r u) where
  free : (u : List ℕ) → is_used_before s used u ≡ false → first_met ((is_used r u, core.NameUsed) ∷ []) ≡ None
  free u is = ap (λ b. first_met ((b, core.NameUsed) ∷ [])) (sym (same u) ∙ is)

  unmet-last : (call : Call) → makes_used s used call ≡ false → first_met (late_checks r call) ≡ None
  unmet-last (Deliver folder u body chunk) is = free u is
  unmet-last (Copy folder u to fresh tries) is = free fresh is
  unmet-last call is = refl

  pub taken : (call : Call) → early_refusal r call ≡ None → makes_used s used call ≡ false → submit_refusal r call ≡ None
  taken call none is = met-after (early_checks r call) (late_checks r call) none ∙ unmet-last call is

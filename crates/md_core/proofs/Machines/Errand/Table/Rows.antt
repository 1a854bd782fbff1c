-- What the table of errands says, row by row: where they look, what they act on, and at which turns their calls take effect.
use Rattle.std.proofs.Common.{ℕ, ◌≡◌, ◌<◌, inl, inr, List, Option, Some, None, Bool, true, false, is_some, unwrap_or, refl, sym, ap, ◌∙◌, arith}
use Rattle.std.specs.FinSet as set
use Rattle.md_core.proofs.Values.{State, Place, New, Cur, Info, Answer, DirReply, list, is_effect_at, is_success, is_tmp, Purpose, Refusal, is_same_set, first, searches, place_after, has_trashed, wanted, act_if, decide_flag, deed_by, refused_by, most_over}
use Rattle.md_name.specs.Letters.{Set}
use Rattle.md_jobs.specs.declared.call.Call.TheVariants as call
use Rattle.md_jobs.specs.Tasks.Errand as stage
use Rattle.md_jobs.specs.declared.purpose.Decision.TheVariants.{Keep, Act}
use Rattle.md_jobs.specs.declared.purpose.Purpose.TheVariants.{Seen, Flag, Move, Copy}
use Rattle.md_jobs.specs.declared.refusal.Refusal.TheVariants.{NotThere, NotTrashed, OtherInfo}
use Rattle.md_jobs.specs.declared.step.DirReply.TheVariants as reply
use Rattle.md_jobs.specs.Machines.Errand.{asked_of, steps_left}
use Rattle.md_core.proofs.Induction.Good.{IsPlaceOf}
use Rattle.md_core.proofs.Machines.Errand.Table.Calls.{call_by}

-- ---- places

-- no errand looks in tmp
pub not-tmp : (p : Purpose) (place : Place) → IsPlaceOf p place → is_tmp place ≡ false
not-tmp p place at = elim at [ inl is ↦ ap is_tmp is ∙ by p | inr is ↦ ap is_tmp is.1 ]
  where
    by : (p : Purpose) → is_tmp (first p) ≡ false
    by (Seen given) = refl
    by other = refl

-- one that doesn't search looks in its first place alone
pub one-place : (p : Purpose) (place : Place) → searches p ≡ false → IsPlaceOf p place → place ≡ first p
one-place p place one at = elim at [ inl is ↦ is | inr is ↦ (let both = is.0 in cc) ]

-- one that searches looks in new first
pub new-first : (p : Purpose) → searches p ≡ true → first p ≡ New
new-first (Move to) both = refl
new-first (Copy to fresh) both = refl
new-first other both = cc

-- a search ends after cur
pub last-place : (p : Purpose) (place : Place) → searches p ≡ true → IsPlaceOf p place → place_after true place ≡ None → place ≡ Cur
last-place p place both at last = elim at [
  | inl is ↦ (let new = is ∙ new-first p both in let more : place_after true New ≡ None = ap (place_after true) (sym new) ∙ last in cc)
  | inr is ↦ is.1
]

-- ---- what is left

-- before its first step, what the call takes at most
pub all-tries : (s : State) (p : Purpose) (folder : ℕ) (u : List ℕ) (tries : ℕ) → 0 < tries →
    steps_left (searches p) (stage.Look (first p) tries) ≡ most_over s (call_by folder u p tries)
all-tries s (Seen given) folder u tries some = omega arith
all-tries s other folder u tries some = omega arith

-- after new comes cur, where cur is looked in too
pub next-place : (both : Bool) (place next : Place) → place_after both place ≡ Some next → (both ≡ true) × (next ≡ Cur) × (place ≡ New)
next-place true New Cur is = (refl, refl, refl)
next-place true New other is = cc
next-place true other next is = cc
next-place false place next is = cc

-- ---- what is decided

pub acts-flags : (o : Option Set) → act_if (is_some o) OtherInfo ≡ Act → o ≡ Some (unwrap_or o set.empty)
acts-flags None is = cc
acts-flags (Some had) is = refl

by-test : (b : Bool) (refusal : Refusal) → act_if b refusal ≡ Act → b ≡ true
by-test true refusal is = refl
by-test false refusal is = cc

-- a test never keeps
pub test-keeps : (b : Bool) (refusal : Refusal) → act_if b refusal ≡ Keep → ⊥
test-keeps true refusal is = cc
test-keeps false refusal is = cc

pub acts-trashed : (o : Option Set) → act_if (has_trashed o) NotTrashed ≡ Act → (had : Set) × (o ≡ Some had) × (set.contains had 84 ≡ true)
acts-trashed None is = cc
acts-trashed (Some had) is = (had, refl, by-test (set.contains had 84) NotTrashed is)

pub acts-flag : (p : Purpose) (o : Option Set) → decide_flag p o ≡ Act →
    (o ≡ Some (unwrap_or o set.empty)) × (is_same_set (unwrap_or o set.empty) (wanted p (unwrap_or o set.empty)) ≡ false)
acts-flag p None is = cc
acts-flag p (Some had) is = (refl, by (is_same_set had (wanted p had)) refl)
  where
    by : (b : Bool) → is_same_set had (wanted p had) ≡ b → is_same_set had (wanted p had) ≡ false
    by true same = cc
    by false same = same

pub keeps-flag : (p : Purpose) (o : Option Set) → decide_flag p o ≡ Keep →
    (o ≡ Some (unwrap_or o set.empty)) × (is_same_set (unwrap_or o set.empty) (wanted p (unwrap_or o set.empty)) ≡ true)
keeps-flag p None is = cc
keeps-flag p (Some had) is = (refl, by (is_same_set had (wanted p had)) refl)
  where
    by : (b : Bool) → is_same_set had (wanted p had) ≡ b → is_same_set had (wanted p had) ≡ true
    by true same = same
    by false same = cc

-- ---- where a call takes effect

pub refusal-fails : (refusal : Refusal) → is_success (refused_by refusal) ≡ false
refusal-fails NotThere = refl
refusal-fails other = refl

-- a look that goes on, and one that is refused
pub look-goes : (p : Purpose) (folder : ℕ) (u : List ℕ) (tries f : ℕ) (place : Place) (r : DirReply) →
    is_effect_at (call_by folder u p tries) (list f place) r None ≡ false
look-goes (Flag add remove) folder u tries f place reply.Ok = refl
look-goes p folder u tries f place r = refl

pub look-refused : (p : Purpose) (folder : ℕ) (u : List ℕ) (tries f : ℕ) (place : Place) (r : DirReply) (refusal : Refusal) →
    is_effect_at (call_by folder u p tries) (list f place) r (Some (refused_by refusal)) ≡ false
look-refused (Flag add remove) folder u tries f place reply.Ok NotThere = refl
look-refused p folder u tries f place r refusal = refl

-- a reply that the call was not done
abbrev pub IsRefusal : DirReply → Type 0
IsRefusal reply.Ok = ⊥
IsRefusal r = Unit {0}

-- a deed that is done, and one that isn't
module _ (folder : ℕ) (u : List ℕ) (tries : ℕ) (place : Place) (name : List ℕ) (info : Info) (a : Option Answer) where
  pub deed-none : (p : Purpose) (r : DirReply) → IsRefusal r →
      is_effect_at (call_by folder u p tries) (asked_of (deed_by p folder u place name info)) r a ≡ false
  deed-none p reply.Ok failed = absurd failed
  deed-none (Seen given) r failed = refl
  deed-none p r failed = refl

-- ---- calls

-- no errand is of the call of a clean, or of a delivery
pub no-clean : (p : Purpose) (folder : ℕ) (u : List ℕ) (tries f : ℕ) → call.Clean f ≡ call_by folder u p tries → ⊥
no-clean (Seen given) folder u tries f is = cc
no-clean other folder u tries f is = cc

pub no-delivery : (p : Purpose) (folder : ℕ) (u : List ℕ) (tries f : ℕ) (v body : List ℕ) (chunk : ℕ) →
    call.Deliver f v body chunk ≡ call_by folder u p tries → ⊥
no-delivery (Seen given) folder u tries f v body chunk is = cc
no-delivery other folder u tries f v body chunk is = cc

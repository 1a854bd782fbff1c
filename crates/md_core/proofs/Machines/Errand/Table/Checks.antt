-- What an accepted call is: each check, as a fact; and what an errand was accepted with.
use Rattle.std.proofs.Common.{ℕ, zero, suc, ◌≡◌, ◌<◌, List, [], ◌∷◌, Some, None, Bool, true, false, cond, not, refl, ap, subst, ◌∙◌, slice_get, arith, nat_lt, ◌==◌}
use Rattle.std.specs.FinMap as finmap
use Rattle.std.proofs.lemmas.Bool.{or_parts, not-false}
use Rattle.std.proofs.lemmas.Bool.Decides.{nat_tests}
use Rattle.std.proofs.lemmas.Slice.Eq.{bytes_eq-Decides}
use Rattle.md_core.proofs.Values.{State, CoreError, Call, is_unique_name, Run, MakesMessage, IsFresh, IsLookUp, IsAccepted, list_any, Purpose, most_tries, submit_refusal, checks, first_met, no_folder, bad_tries, is_used, uses, makes}
use Rattle.md_jobs.specs.declared.call.Call.TheVariants.{Deliver, Seen, Flag, Move, Expunge, Copy, Clean}
use Rattle.md_jobs.specs.declared.purpose.Purpose.TheVariants as purpose
use Rattle.md_core.proofs.Machines.Errand.Table.Calls.{call_by, folder_to, IsFor, tries_in}
use Rattle.md_core.proofs.Worlds.Loading.Loaded.{unused-path}

-- none of these checks is met
abbrev AreUnmet : List (Bool × CoreError) → Type 0
AreUnmet [] = Unit {0}
AreUnmet (check ∷ checks) = (check.0 ≡ false) × AreUnmet checks

unmet : (checks : List (Bool × CoreError)) → first_met checks ≡ None → AreUnmet checks
unmet [] none = tt
unmet (check ∷ checks) none = by check.0 (unmet checks) none
  where
    by : (b : Bool) → (first_met checks ≡ None → AreUnmet checks) → cond b (Some check.1) (first_met checks) ≡ None → (b ≡ false) × AreUnmet checks
    by true rest none = cc
    by false rest none = (refl, rest none)

pub makes-true : (asked : Call) (u : List ℕ) → MakesMessage asked u → makes u asked ≡ true
makes-true (Deliver folder v body chunk) u is = (bytes_eq-Decides v u).1 is
makes-true (Copy folder v to fresh tries) u is = (bytes_eq-Decides fresh u).1 is
makes-true other u is = absurd is

-- no call before makes the name
unmade-at : (u : List ℕ) (calls : List Call) (i : ℕ) (asked : Call) → list_any (makes u) calls ≡ false → slice_get calls i ≡ Some asked → MakesMessage asked u → ⊥
unmade-at u [] i asked none at mine = cc
unmade-at u (c ∷ calls) zero asked none at mine =
    let is : c ≡ asked = cc in
    let parts = or_parts (makes u c) (list_any (makes u) calls) none in
    let yes : makes u c ≡ true = ap (makes u) is ∙ makes-true asked u mine in
    cc
unmade-at u (c ∷ calls) (suc i) asked none at mine =
    let parts = or_parts (makes u c) (list_any (makes u) calls) none in
    unmade-at u calls i asked parts.1 at mine

module _ (r : Run) where
  in-folder : (folder : ℕ) → no_folder r.image.folders folder ≡ false → folder < r.image.folders
  in-folder folder there = grind (arith, nat_tests)

  some-tries : (tries : ℕ) → bad_tries tries ≡ false → 0 < tries
  some-tries tries good = let some = or_parts (tries == 0) (nat_lt most_tries tries) good in grind (arith, nat_tests, some.0)

  -- a name that is not used is fresh
  fresh : (u : List ℕ) → is_unique_name u ≡ true → is_used r u ≡ false → IsFresh r.image r.calls u
  fresh u valid unused =
      let parts = or_parts (list_any (λ e. uses u e.0) (finmap.entries r.image.names)) (list_any (makes u) r.calls) unused in
      record { valid = valid; unused = unused-path r.image u valid parts.0; unmade = λ i c at its. unmade-at u r.calls i c parts.1 at its }

  looked-up : (folder : ℕ) (u : List ℕ) (tries : ℕ) → submit_refusal r (Expunge folder u tries) ≡ None → IsLookUp r.image folder u tries
  looked-up folder u tries none =
      let h = unmet (checks r (Expunge folder u tries)) none in
      (in-folder folder h.0, not-false (is_unique_name u) h.1.0, some-tries tries h.1.1.0)

  -- A call that the checks let through is accepted.
  pub accepted : (c : Call) → submit_refusal r c ≡ None → IsAccepted r.image r.calls c
  accepted (Deliver folder u body chunk) none =
      let h = unmet (checks r (Deliver folder u body chunk)) none in
      let valid = not-false (is_unique_name u) h.1.0 in
      let whole = h.1.1.0 in
      (in-folder folder h.0, grind (arith, nat_tests, whole), fresh u valid h.1.1.1.1.1.0)
  accepted (Seen folder u flags tries) none = looked-up folder u tries none
  accepted (Flag folder u add remove tries) none = looked-up folder u tries none
  accepted (Move folder u to tries) none =
      let h = unmet (checks r (Move folder u to tries)) none in
      let folders = or_parts (no_folder r.image.folders folder) (no_folder r.image.folders to) h.0 in
      let other = h.1.0 in (
        in-folder to folders.1,
        λ same. grind (arith, nat_tests, other),
        (in-folder folder folders.0, not-false (is_unique_name u) h.1.1.0, some-tries tries h.1.1.1.0),
      )
  accepted (Expunge folder u tries) none = looked-up folder u tries none
  accepted (Copy folder u to fresh_name tries) none =
      let h = unmet (checks r (Copy folder u to fresh_name tries)) none in
      let folders = or_parts (no_folder r.image.folders folder) (no_folder r.image.folders to) h.0 in
      let names = or_parts (not (is_unique_name u)) (not (is_unique_name fresh_name)) h.1.0 in (
        in-folder to folders.1,
        fresh fresh_name (not-false (is_unique_name fresh_name) names.1) h.1.1.1.1.0,
        (in-folder folder folders.0, not-false (is_unique_name u) names.0, some-tries tries h.1.1.0),
      )
  accepted (Clean folder) none = in-folder folder (unmet (checks r (Clean folder)) none).0

-- what an accepted call makes is fresh
pub makes-fresh : (image : State) (earlier : List Call) (c : Call) (u : List ℕ) → IsAccepted image earlier c → MakesMessage c u → IsFresh image earlier u
makes-fresh image earlier (Deliver folder v body chunk) u a is = subst (IsFresh image earlier) is a.2
makes-fresh image earlier (Copy folder v to name tries) u a is = subst (IsFresh image earlier) is a.1
makes-fresh image earlier other u a is = absurd is

-- what an errand was accepted with
pub record IsAcceptedErrand (image : State) (folder : ℕ) (u : List ℕ) (p : Purpose) (tries : ℕ) : Type 0 where
  pub in_folder : folder < image.folders
  pub to_folder : folder_to folder p < image.folders
  pub valid : is_unique_name u ≡ true
  pub tried : 0 < tries
  pub is_for : IsFor folder p

pub accepted-errand : (image : State) (earlier : List Call) (folder : ℕ) (u : List ℕ) (p : Purpose) (tries : ℕ) →
    IsAccepted image earlier (call_by folder u p tries) → IsAcceptedErrand image folder u p tries
accepted-errand image earlier folder u (purpose.Move to) tries a =
    record { in_folder = a.2.0; to_folder = a.0; valid = a.2.1; tried = a.2.2; is_for = a.1 }
accepted-errand image earlier folder u (purpose.Copy to name) tries a =
    record { in_folder = a.2.0; to_folder = a.0; valid = a.2.1; tried = a.2.2; is_for = a.1.valid }
accepted-errand image earlier folder u other tries a =
    record { in_folder = a.0; to_folder = a.0; valid = a.1; tried = a.2; is_for = tt }

-- a call that looks for a message has a try
abbrev pub IsTried : Call → Type 0
IsTried (Deliver folder u body chunk) = Unit {0}
IsTried (Clean folder) = Unit {0}
IsTried c = 0 < tries_in c

pub tried : (image : State) (earlier : List Call) (c : Call) → IsAccepted image earlier c → IsTried c
tried image earlier (Deliver folder u body chunk) a = tt
tried image earlier (Move folder u to tries) a = a.2.2
tried image earlier (Copy folder u to name tries) a = a.2.2
tried image earlier (Clean folder) a = tt
tried image earlier c a = a.2

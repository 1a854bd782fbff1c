-- What a monitor finds at an answer is what the law has.
use Rattle.std.proofs.Common.{ℕ, ◌≡◌, List, Bool, refl, sym, subst}
use Rattle.std.specs.Bool.{Decides}
use Rattle.std.proofs.lemmas.Bool.Decides.{Decides-and, Decides-or, Decides-not, Decides-like}
use Rattle.md_log.specs.declared.line.Call.{Call}
use Rattle.md_log.specs.declared.line.Call.TheVariants as call
use Rattle.md_log.specs.declared.line.Said.{Said}
use Rattle.md_log.specs.declared.line.Said.TheVariants as said
use Rattle.md_log.specs.declared.line.Step.{Step}
use Rattle.md_law.specs.History.{History, next, at}
use Rattle.md_law.specs.Messages.{IsThere}
use Rattle.md_law.specs.Answers.{Claim, Tells}
use Rattle.md_law.specs.Clauses as law
use Rattle.md_monitor.specs.Answers.{claims_kept, is_told_and, is_success, is_so, breaks_gave_up, breaks_answered_falsely}
use Rattle.md_monitor.proofs.Stepping.{is-call, is-by}
use Rattle.md_monitor.proofs.Noticing.{is-there}
use Rattle.md_monitor.proofs.Claiming.{claim-kept, flagged-is}

-- a call is an answer of which the test holds
told-and : (actor : List ℕ) (test : Said → Claim → Bool) (P : Said → Claim → Type 0)
    → ((s : Said) (c : Claim) → Decides (test s c) (P s c)) → (k : Call)
    → Decides (is_told_and k actor test)
    ((c : Claim) × (s : Said) × (actor ≡ c.actor) × (k ≡ call.Answer s c.folder c.unique) × P s c)
told-and actor test P each (call.Answer said folder unique) = Decides-like _
    (λ holds. (of, said, refl, refl, holds))
    (λ (c, s, by, is, holds).
    let same : s ≡ said = sym (cc is) in
    let here : c ≡ of = λ i. record { actor = sym by i; folder = sym (folders c s is) i; unique = sym (uniques c s is) i } in
    subst (λ w. P said w) here (subst (λ w. P w c) same holds))
    (each said of)
  where
    of : Claim
    of = record { actor = actor; folder = folder; unique = unique }

    folders : (c : Claim) (s : Said) → call.Answer said folder unique ≡ call.Answer s c.folder c.unique → folder ≡ c.folder
    folders c s is = cc is

    uniques : (c : Claim) (s : Said) → call.Answer said folder unique ≡ call.Answer s c.folder c.unique → unique ≡ c.unique
    uniques c s is = cc is
told-and actor test P each k = (λ t. absurd (cc), λ (c, s, by, is, holds). absurd (cc is))

success-is : (s : Said) → Decides (is_success s) (law.IsSuccess s)
success-is said.Failed = (λ t. absurd (cc), λ none. absurd none)
success-is said.NotThere = (λ t. absurd (cc), λ none. absurd none)
success-is s = (λ t. tt, λ u. refl)

so-is : (h : History) (c : Claim) (s : Said) → Decides (is_so (at h) c (claims_kept h c) s) (law.IsSo s c h)
so-is h c said.Delivered = (claim-kept h c).has_added
so-is h c (said.Flags flags) = Decides-or _ _ (flagged-is c flags h) ((claim-kept h c).was_flagged flags)
so-is h c (said.Moved to) = (claim-kept h c).has_moved to
so-is h c said.Expunged = (claim-kept h c).has_expunged
so-is h c said.Done = (λ t. tt, λ u. refl)
so-is h c said.Failed = Decides-not _ (claim-kept h c).has_changed
so-is h c said.NotThere = Decides-or _ _ (Decides-not _ (is-there h c.folder c.unique)) (claim-kept h c).was_absent

module _ (past : History) (x : Step) where
  abbrev h : History
  h = next past x

  -- the step is an answer of which the test holds
  tells-and : (test : Said → Claim → Bool) (P : Said → Claim → Type 0) → ((s : Said) (c : Claim) → Decides (test s c) (P s c))
      → Decides (is_told_and x.call x.actor test) ((c : Claim) × (s : Said) × Tells h c s × P s c)
  tells-and test P each = Decides-like _
      (λ (c, s, by, is, holds). (c, s, ((is-by past x c.actor).1 by, (is-call past x _).1 is), holds))
      (λ (c, s, tells, holds). (c, s, (is-by past x c.actor).0 tells.0, (is-call past x _).0 tells.1, holds))
      (told-and x.actor test P each x.call)

  pub gave_up : Decides (breaks_gave_up (at past) (claims_kept past) x) (law.GaveUp h)
  gave_up = Decides-like _
      (λ (c, s, tells, both). (c, s, tells, both.0, both.1.0, both.1.1))
      (λ (c, s, tells, success, there, left). (c, s, tells, (success, (there, left))))
      (tells-and _ (λ s c. law.IsSuccess s × (IsThere (at past) c.folder c.unique × law.IsLeft c past)) (λ s c.
      Decides-and _ _ (success-is s) (Decides-and _ _ (is-there past c.folder c.unique) (claim-kept past c).is_left)))

  pub answered_falsely : Decides (breaks_answered_falsely (at past) (claims_kept past) x) (law.AnsweredFalsely h)
  answered_falsely = tells-and _ (λ s c. law.IsSo s c past → ⊥) (λ s c. Decides-not _ (so-is past c s))

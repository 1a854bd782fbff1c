-- What a monitor finds by files is what the law has.
use Rattle.std.proofs.Common.{ℕ, ◌≡◌, inl, inr, ◌-◌, ◌<◌, Some, Bool, true, refl, sym, ap, subst, ◌∙◌}
use Rattle.std.specs.Bool.{Decides}
use Rattle.std.proofs.lemmas.Bool.Decides.{Decides-and, Decides-or, Decides-not, Decides-like, Decides-ltb}
use Rattle.md_dirs.specs.State.{file_by}
use Rattle.md_dirs.specs.declared.paths.Path.{Path}
use Rattle.md_dirs.specs.declared.paths.Place.TheVariants.{Tmp, New}
use Rattle.md_dirs.specs.declared.paths.File.{File}
use Rattle.md_log.specs.declared.clause.Clause.{Clause}
use Rattle.md_log.specs.declared.clause.Clause.TheVariants as clause
use Rattle.md_log.specs.declared.line.Call.{Call}
use Rattle.md_log.specs.declared.line.Call.TheVariants as call
use Rattle.md_log.specs.declared.line.Deed.TheVariants as deed
use Rattle.md_log.specs.declared.line.Naming.{Naming}
use Rattle.md_log.specs.declared.line.Reply.{Reply}
use Rattle.md_log.specs.declared.line.Reply.TheVariants as reply
use Rattle.md_log.specs.declared.line.Step.{Step}
use Rattle.md_law.specs.History.{History, next, at, now, moment}
use Rattle.md_law.specs.Messages.{is_message, IsSeen}
use Rattle.md_law.specs.Files.{Leaves, IsCut, IsUnflushed, IsMaker}
use Rattle.md_law.specs.Clauses as law
use Rattle.md_monitor.specs.Changes.{change_of, turned_by}
use Rattle.md_monitor.specs.Files.{files_kept, is_new}
use Rattle.md_monitor.specs.Found.{breaks_by_files, makes_message, is_from_new, is_cleaned_early}
use Rattle.md_monitor.proofs.Tests.{some-and, some-is, tmp-is, new-is}
use Rattle.md_monitor.proofs.Seeing.{seen-is}
use Rattle.md_monitor.proofs.Stepping.{is-call, is-by}
use Rattle.md_monitor.proofs.Keeping.{kept}
use Rattle.md_monitor.proofs.Telling.{made-it, other-than, back-is, shown-is, may_write-is, turned-is, left-is}

-- a call from a path of a message in new
abbrev IsFromNew : Call → Type 0
IsFromNew c = (n : Naming) × (old new : Path) × (r : Reply) × (c ≡ call.Between n old new r) × ((is_message old ≡ true) × (old.place ≡ New))

from_new-is : (c : Call) → Decides (is_from_new c) (IsFromNew c)
from_new-is (call.Between n old new r) =
    let both = Decides-and (is_message old) (is_new old.place) (λ t. t, λ t. t) (new-is old.place) in (
      λ t. (n, old, new, r, refl, both.0 t),
      λ (m, o, q, e, is, here). let same : old ≡ o = cc is in both.1 (subst (λ p. (is_message p ≡ true) × (p.place ≡ New)) (sym same) here),
    )
from_new-is c = (λ t. absurd (cc), λ (m, o, q, e, is, here). absurd (cc is))

makes_message-is : (c : Call) → Decides (makes_message c) ((p : Path) × (c ≡ call.At deed.Create p reply.Ok) × (is_message p ≡ true))
makes_message-is (call.At deed.Create p reply.Ok) = (λ t. (p, refl, t), λ (q, e, t). let same : p ≡ q = cc e in ap is_message same ∙ t)
makes_message-is c = (λ t. absurd (cc), λ (p, e, t). absurd (cc e))

module _ (past : History) (x : Step) where
  abbrev h : History
  h = next past x

  -- what the monitor finds of the last step
  abbrev found : Clause → Bool
  found c = breaks_by_files (at past) (now h) (files_kept past) x c

  pub overwritten : Decides (found clause.Overwritten) (law.Overwritten h)
  overwritten = Decides-like _
      (λ (e, is). let t = (turned-is past x e.0 e.1).0 is in (e.0, e.1, t.0, t.1, t.2, t.3))
      (λ (p, m, n, was, new, other). ((p, m), (turned-is past x p m).1 (n, was, new, other)))
      (some-is (turned_by (at past) (change_of (at past) x.call).named))

  makes_seen : Decides (makes_message x.call) (law.MakesMessage h)
  makes_seen = Decides-like _
      (λ (p, is, message). (p, (is-call past x _).1 is, message))
      (λ (p, is, message). (p, (is-call past x _).0 is, message))
      (makes_message-is x.call)

  pub seen_before_whole : Decides (found clause.SeenBeforeWhole) (law.SeenBeforeWhole h)
  seen_before_whole = Decides-like _
      (λ either. elim either [ inl makes ↦ inl makes | inr rest ↦ inr rest ])
      (λ either. elim either [ inl makes ↦ inl makes | inr rest ↦ inr rest ])
      (Decides-or _ _ makes_seen
      (Decides-or _ _ (may_write-is past x _ (IsSeen (at past)) (seen-is (at past))) (shown-is past x _ (IsCut past) (λ n. (kept past n).is_cut))))

  pub mixed : Decides (found clause.Mixed) (law.Mixed h)
  mixed = Decides-like _
      (λ (n, may, other). (x.actor, n, (is-by past x x.actor).1 refl, may, other))
      (λ (actor, n, by, may, other). (n, may, other-than past x past actor n by other))
      (may_write-is past x _ (λ n. IsMaker past x.actor n → ⊥) (λ n. Decides-not _ (made-it past n x.actor)))

  pub not_flushed : Decides (found clause.NotFlushed) (law.NotFlushed h)
  not_flushed = shown-is past x _ (IsUnflushed past) (λ n. (kept past n).is_unflushed)

  pub moved_back : Decides (found clause.MovedBack) (law.MovedBack h)
  moved_back = Decides-like _
      (λ ((p, n, new, both), other). (
        p,
        n,
        new,
        both.0.0,
        both.0.1,
        both.1,
        λ m o q r is message place. other (m, o, q, r, (is-call past x _).0 is, (message, place)),
      ))
      (λ (p, n, new, message, place, was, other). (
        (p, n, new, ((message, place), was)),
        λ (m, o, q, r, is, here). other m o q r ((is-call past x _).1 is) here.0 here.1,
      ))
      (Decides-and _ _ (back-is past x) (Decides-not _ (from_new-is x.call)))

  -- a path of tmp left a young file, which readers don't see and which another actor made
  abbrev Cleans : Path → ℕ → Type 0
  Cleans p n = (((p.place ≡ Tmp) × (IsSeen (at h) n → ⊥)) × (IsMaker past x.actor n → ⊥))
      × ((file : File) × (file_by (at past).files n ≡ Some file) × (now h - file.stamp < 129600))

  cleans-is : (e : Path × ℕ) → Decides (is_cleaned_early (at past) (now h) (files_kept past) x e) (Cleans e.0 e.1)
  unfolding moment
  cleans-is e = Decides-and _ _
      (Decides-and _ _ (Decides-and _ _ (tmp-is e.0.place) (Decides-not _ (seen-is (at h) e.1))) (Decides-not _ (made-it past e.1 x.actor)))
      (some-and (file_by (at past).files e.1) _ (λ file. now h - file.stamp < 129600) (λ file. Decides-ltb (now h - file.stamp) 129600))

  pub cleaned_early : Decides (found clause.CleanedEarly) (law.CleanedEarly h)
  cleaned_early = Decides-like _
      (λ either. elim either [
        | inl (e, is, cleans) ↦ to e.0 e.1 ((left-is past x e.0 e.1).0 (inl is)) cleans
        | inr (e, is, cleans) ↦ to e.0 e.1 ((left-is past x e.0 e.1).0 (inr is)) cleans
      ])
      (λ (actor, p, n, file, by, tmp, leaves, hidden, other, is, young).
      let cleans : Cleans p n = (((tmp, hidden), other-than past x past actor n by other), (file, is, young)) in
      elim ((left-is past x p n).1 leaves) [ inl taken ↦ inl ((p, n), taken, cleans) | inr turned ↦ inr ((p, n), turned, cleans) ])
      (Decides-or _ _
      (some-and (change_of (at past) x.call).taken (is_cleaned_early (at past) (now h) (files_kept past) x) (λ e. Cleans e.0 e.1) cleans-is)
      (some-and (turned_by (at past) (change_of (at past) x.call).named) _ (λ e. Cleans e.0 e.1) cleans-is))
    where
      to : (p : Path) (n : ℕ) → Leaves h p n → Cleans p n → law.CleanedEarly h
      to p n leaves (((tmp, hidden), other), (file, is, young)) =
          (x.actor, p, n, file, (is-by past x x.actor).1 refl, tmp, leaves, hidden, other, is, young)

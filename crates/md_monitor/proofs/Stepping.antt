-- The last step of a history, as a monitor takes it.
use Rattle.std.proofs.Common.{ℕ, ◌≡◌, ◌↔◌, List, Option, Some, None, refl, sym, ap, ◌∙◌, length}
use Rattle.std.specs.Option.{option_map}
use Rattle.std.proofs.lemmas.Option.{some_pair_parts}
use Rattle.md_dirs.specs.State.{State, file_at}
use Rattle.md_dirs.specs.declared.paths.Path.{Path}
use Rattle.md_log.specs.declared.line.Call.{Call}
use Rattle.md_log.specs.declared.line.Call.TheVariants as call
use Rattle.md_log.specs.declared.line.Deed.TheVariants as deed
use Rattle.md_log.specs.declared.line.Reply.{Reply}
use Rattle.md_log.specs.declared.line.Reply.TheVariants as reply
use Rattle.md_log.specs.declared.line.Step.{Step}
use Rattle.md_law.specs.History.{History, next, at, now, moment, IsCall, IsBy}
use Rattle.md_law.specs.Files.{Names, Writes, Flushes, Makes}
use Rattle.md_monitor.specs.Changes.{change_of}
use Rattle.md_monitor.specs.Files.{written_by, flushed_by, made_by}
use Rattle.md_monitor.proofs.Changing.{Leads, led}

-- ---- what a call does to a file

pub written-is : (s : State) (c : Call) (n : ℕ) (r : Reply)
    → (written_by s c ≡ Some (n, r)) ↔ ((p : Path) × (c ≡ call.At deed.Write p r) × (file_at s p ≡ Some n))
written-is s (call.At deed.Write p q) n r = (λ is. by (file_at s p) refl is, λ (p', e, there). from p' e there)
  where
    by : (o : Option ℕ) → file_at s p ≡ o → option_map {U = ℕ × Reply} (λ m. (m, q)) o ≡ Some (n, r)
        → (p' : Path) × (call.At deed.Write p q ≡ call.At deed.Write p' r) × (file_at s p' ≡ Some n)
    by None there is = absurd (cc is)
    by (Some m) there is = let parts = some_pair_parts m n q r is in (p, ap (call.At deed.Write p) parts.1, there ∙ ap Some parts.0)

    from : (p' : Path) → call.At deed.Write p q ≡ call.At deed.Write p' r → file_at s p' ≡ Some n
        → option_map {U = ℕ × Reply} (λ m. (m, q)) (file_at s p) ≡ Some (n, r)
    from p' e there =
        let same : p ≡ p' = cc e in
        let answer : q ≡ r = cc e in
        (λ i. option_map {U = ℕ × Reply} (λ m. (m, answer i)) ((ap (file_at s) same ∙ there) i))
written-is s c n r = (λ is. absurd (cc is), λ (p, e, there). absurd (cc e))

pub flushed-is : (s : State) (c : Call) (n : ℕ)
    → (flushed_by s c ≡ Some n) ↔ ((p : Path) × (c ≡ call.At deed.Flush p reply.Ok) × (file_at s p ≡ Some n))
flushed-is s (call.At deed.Flush p reply.Ok) n = (
  λ is. (p, refl, is),
  λ (q, e, there). let same : p ≡ q = cc e in ap (file_at s) same ∙ there,
)
flushed-is s c n = (λ is. absurd (cc is), λ (p, e, there). absurd (cc e))

pub made-is : (s : State) (c : Call) (n : ℕ)
    → (made_by s c ≡ Some n) ↔ ((p : Path) × (c ≡ call.At deed.Create p reply.Ok) × (n ≡ length s.files))
made-is s (call.At deed.Create p reply.Ok) n = (λ is. (p, refl, cc), λ (q, e, is). ap Some (sym is))
made-is s c n = (λ is. absurd (cc is), λ (p, e, there). absurd (cc e))

pub made-number : (s : State) (c : Call) (n : ℕ) → made_by s c ≡ Some n → n ≡ length s.files
made-number s c n is = ((made-is s c n).0 is).2

-- ---- the last step

module _ (past : History) (x : Step) where
  abbrev h : History
  h = next past x

  pub is-call : (c : Call) → IsCall h c ↔ (x.call ≡ c)
  is-call c = (λ (y, is, e). let same : x ≡ y = cc is in ap (λ (z : Step). z.call) same ∙ e, λ e. (x, refl, e))

  pub is-by : (actor : List ℕ) → IsBy h actor ↔ (x.actor ≡ actor)
  is-by actor = (λ (y, is, e). let same : x ≡ y = cc is in ap (λ (z : Step). z.actor) same ∙ e, λ e. (x, refl, e))

  pub changes : Leads (change_of (at past) x.call) (file_at (at past)) (file_at (at h))
  unfolding moment
  changes = led (at past) x.call (now h)

  pub names : (p : Path) (n : ℕ) → ((change_of (at past) x.call).named ≡ Some (p, n)) ↔ Names h p n
  names p n = changes.named p n

  pub writes : (n : ℕ) (r : Reply) → (written_by (at past) x.call ≡ Some (n, r)) ↔ Writes h n r
  writes n r =
      let is = written-is (at past) x.call n r in (
        λ w. let it = is.0 w in (it.0, (is-call (call.At deed.Write it.0 r)).1 it.1, it.2),
        λ (p, c, there). is.1 (p, (is-call (call.At deed.Write p r)).0 c, there),
      )

  pub flushes : (n : ℕ) → (flushed_by (at past) x.call ≡ Some n) ↔ Flushes h n
  flushes n =
      let is = flushed-is (at past) x.call n in (
        λ w. let it = is.0 w in (it.0, (is-call (call.At deed.Flush it.0 reply.Ok)).1 it.1, it.2),
        λ (p, c, there). is.1 (p, (is-call (call.At deed.Flush p reply.Ok)).0 c, there),
      )

  pub makes : (actor : List ℕ) (n : ℕ) → ((x.actor ≡ actor) × (made_by (at past) x.call ≡ Some n)) ↔ Makes h actor n
  makes actor n =
      let is = made-is (at past) x.call n in (
        λ (by, made). let it = is.0 made in (it.0, (is-by actor).1 by, (is-call (call.At deed.Create it.0 reply.Ok)).1 it.1, it.2),
        λ (p, by, c, file). ((is-by actor).0 by, is.1 (p, (is-call (call.At deed.Create p reply.Ok)).0 c, file)),
      )

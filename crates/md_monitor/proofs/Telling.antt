-- What a monitor's tests of a step say of the history.
use Rattle.std.proofs.Common.{ℕ, ◌≡◌, ◌≢◌, ◌↔◌, ◌⊎◌, inl, inr, ◌&&◌, not, List, Option, Some, None, Bool, true, refl, sym, ap, subst, ◌∙◌}
use Rattle.std.specs.Str.{bytes_eq}
use Rattle.std.specs.Bool.{Decides}
use Rattle.std.proofs.lemmas.Bool.Decides.{Decides-and, Decides-not, Decides-like}
use Rattle.std.proofs.lemmas.Option.{some_pair_parts}
use Rattle.std.proofs.lemmas.Slice.Eq.{bytes_eq-Decides}
use Rattle.md_dirs.specs.State.{State, file_at}
use Rattle.md_dirs.specs.declared.paths.Path.{Path}
use Rattle.md_dirs.specs.declared.paths.Place.TheVariants.{New}
use Rattle.md_log.specs.declared.line.Reply.TheVariants as reply
use Rattle.md_log.specs.declared.line.Step.{Step}
use Rattle.md_law.specs.History.{History, next, at, now, IsBy}
use Rattle.md_law.specs.Messages.{is_message, IsSeen}
use Rattle.md_law.specs.Files.{Names, Leaves, MayWrite, BeginsToBeSeen, WasInCur, IsMaker}
use Rattle.md_monitor.specs.Changes.{change_of, turned_by}
use Rattle.md_monitor.specs.Files.{files_kept, is_some_and, is_seen, is_new, is_not_found, written_by}
use Rattle.md_monitor.specs.Found.{is_maker, is_moved_back, may_write}
use Rattle.md_monitor.proofs.Tests.{some-and, new-is, not_found-is}
use Rattle.md_monitor.proofs.Changing.{with_file-is}
use Rattle.md_monitor.proofs.Seeing.{seen-is}
use Rattle.md_monitor.proofs.Stepping.{is-by, names, writes, changes}
use Rattle.md_monitor.proofs.Once.{named-is}
use Rattle.md_monitor.proofs.Keeping.{kept}

-- the actor made the file
pub made-it : (h : History) (n : ℕ) (actor : List ℕ) → Decides (is_maker (files_kept h n) actor) (IsMaker h actor n)
made-it h n actor = Decides-like _ (λ (m, is, same). ((kept h n).maker actor).0 (is ∙ ap Some same))
    (λ made. (actor, ((kept h n).maker actor).1 made, refl))
    (some-and (files_kept h n).maker (λ m. bytes_eq m actor) (λ m. m ≡ actor) (λ m. bytes_eq-Decides m actor))

module _ (past : History) (x : Step) where
  abbrev h : History
  h = next past x

  abbrev s : State
  s = at past

  abbrev named : Option (Path × ℕ)
  named = (change_of s x.call).named

  -- who did not make a file is the actor of the step
  pub other-than : (k : History) (actor : List ℕ) (n : ℕ) → IsBy h actor → (IsMaker k actor n → ⊥) → IsMaker k x.actor n → ⊥
  other-than k actor n by other = subst (λ a. IsMaker k a n → ⊥) (sym ((is-by past x actor).0 by)) other

  -- readers begin to see a file of which the test holds
  pub shown-is : (test : ℕ → Bool) (P : ℕ → Type 0) → ((n : ℕ) → Decides (test n) (P n))
      → Decides (is_some_and named (λ e. (is_message e.0 && not (is_seen s e.1)) && test e.1)) ((n : ℕ) × BeginsToBeSeen h n × P n)
  shown-is test P each = Decides-like _
      (λ (p, n, new, both). (n, ((p, new.0, both.0.0), both.0.1), both.1))
      (λ (n, begins, holds).
      let by = begins.0 in
      (by.0, n, (by.1, λ was. begins.1 (by.0, was, by.2)), ((by.2, begins.1), holds)))
      (named-is past x _ (λ p n. ((is_message p ≡ true) × (IsSeen s n → ⊥)) × P n)
      (λ e. Decides-and _ (test e.1) (Decides-and (is_message e.0) _ (λ t. t, λ t. t) (Decides-not _ (seen-is s e.1))) (each e.1)))

  -- a path of a message in new comes to name a file that was a message in cur
  pub back-is : Decides (is_some_and named (is_moved_back s (now h) (files_kept past) x))
      ((p : Path) × (n : ℕ) × Names h p n × (((is_message p ≡ true) × (p.place ≡ New)) × WasInCur past n))
  back-is = named-is past x _ (λ p n. ((is_message p ≡ true) × (p.place ≡ New)) × WasInCur past n)
      (λ e. Decides-and _ _ (Decides-and (is_message e.0) (is_new e.0.place) (λ t. t, λ t. t) (new-is e.0.place)) (kept past e.1).was_cur)

  -- the step is a write to a file of which the test holds, or may have written a part
  pub may_write-is : (test : ℕ → Bool) (P : ℕ → Type 0) → ((n : ℕ) → Decides (test n) (P n))
      → Decides (may_write s (now h) (files_kept past) x test) ((n : ℕ) × MayWrite h n × P n)
  may_write-is test P each = Decides-like _
      (λ (w, is, both). (w.0, (w.1, both.0, (writes past x w.0 w.1).0 is), both.1))
      (λ (n, (r, a, wrote), holds). ((n, r), (writes past x n r).1 wrote, (a, holds)))
      (some-and (written_by s x.call) _ (λ w. (w.1 ≢ reply.NotFound) × P w.0)
      (λ w. Decides-and (not (is_not_found w.1)) (test w.0) (Decides-not _ (not_found-is w.1)) (each w.0)))

  -- ---- paths that no longer name a file

  -- a path comes to name another file
  pub turned-is : (p : Path) (m : ℕ)
      → (turned_by s named ≡ Some (p, m)) ↔ ((n : ℕ) × (file_at s p ≡ Some m) × (file_at (at h) p ≡ Some n) × (m ≢ n))
  turned-is p m = by named refl
    where
      by : (o : Option (Path × ℕ)) → named ≡ o
          → (turned_by s o ≡ Some (p, m)) ↔ ((n : ℕ) × (file_at s p ≡ Some m) × (file_at (at h) p ≡ Some n) × (m ≢ n))
      by None is = (
        λ none. absurd (cc none),
        λ (n, was, new, other). absurd (let some = (names past x p n).1 (new, λ still. other (cc still)) in cc),
      )
      by (Some (q, n)) is = (
        λ with.
            let parts = (with_file-is q (file_at s q) p m).0 with in
            let new = (names past x q n).0 is in
            (n, ap (file_at s) (sym parts.0) ∙ parts.1, ap (file_at (at h)) (sym parts.0) ∙ new.0, λ same. new.1 (parts.1 ∙ ap Some same)),
        λ (k, was, new, other).
            let some = (names past x p k).1 (new, λ still. other (cc still)) in
            let path = (some_pair_parts q p n k (sym is ∙ some)).0 in
            (with_file-is q (file_at s q) p m).1 (path, ap (file_at s) path ∙ was),
      )

  -- a path that no longer names a file is taken away or turned to another
  pub left-is : (p : Path) (n : ℕ) → (((change_of s x.call).taken ≡ Some (p, n)) ⊎ (turned_by s named ≡ Some (p, n))) ↔ Leaves h p n
  left-is p n = (
    λ either. elim either [
      | inl taken ↦ let gone = ((changes past x).taken p n).0 taken in (gone.0, λ some. let none = gone.1 in cc)
      | inr turned ↦ let t = (turned-is p n).0 turned in (t.1, λ some. t.3 (let new = t.2 in cc))
    ],
    λ leaves. by leaves (file_at (at h) p) refl,
  )
    where
      by : Leaves h p n → (o : Option ℕ) → file_at (at h) p ≡ o
          → ((change_of s x.call).taken ≡ Some (p, n)) ⊎ (turned_by s named ≡ Some (p, n))
      by leaves None is = inl (((changes past x).taken p n).1 (leaves.0, is))
      by leaves (Some m) is = inr ((turned-is p n).1 (m, leaves.0, is, λ same. leaves.1 (is ∙ ap Some (sym same))))

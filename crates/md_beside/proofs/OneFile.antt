-- Where no unique name is used again, a message is one file for ever.
use Rattle.std.proofs.Common.{ℕ, suc, ◌≡◌, inl, inr, List, Some, refl, sym, ap, subst, ◌∙◌}
use Rattle.md_dirs.proofs.Sound.{by_number}
use Rattle.md_dirs.specs.State.{file_at}
use Rattle.md_dirs.specs.declared.paths.Path.{Path}
use Rattle.md_core.specs.Mailbox.{HasOnePath}
use Rattle.md_law.specs.History.{History, Moment, opening, next, moment, at, Once}
use Rattle.md_law.specs.Messages.{IsThere, IsMessageAt}
use Rattle.md_law.specs.Law.{WasOf, UsedTwice}
use Rattle.md_log.specs.declared.line.Step.{Step as Seen}
use Rattle.md_beside.specs.Story.{Story, Step, step_at, step_seen, state, history, without_bytes}
use Rattle.md_beside.specs.Beside.{IsStory}
use Rattle.md_beside.proofs.Histories.{next_at, history-first, history-next, at-history}
use Rattle.md_beside.proofs.KeepsPaths.{once-now}

-- any two files that were messages of one name are one
abbrev pub IsOneFile : History → Type 0
IsOneFile h = (u : List ℕ) (m n : ℕ) → WasOf h u m → WasOf h u n → m ≡ n

-- a message of the name is at a path
abbrev IsOf : History → List ℕ → ℕ → Type 0
IsOf h u n = (p : Path) × IsMessageAt (at h) p.folder u p n

-- two files that are messages of one name now are one, where each message has one path
now-one : (h : History) → HasOnePath (at h) → (u : List ℕ) (m n : ℕ) → IsOf h u m → IsOf h u n → m ≡ n
now-one h one u m n (p, first) (q, second) =
    let same : p ≡ q = one p q m n first.0 second.0 first.1.0 second.1.0 (first.1.2 ∙ sym second.1.2) in
    let both : Some m ≡ Some n = sym first.0 ∙ ap (file_at (at h)) same ∙ second.0 in cc

opening-one : (m : Moment) → HasOnePath (at (opening m)) → IsOneFile (opening m)
unfolding Once
opening-one m one u f g first second = now-one (opening m) one u f g first second

module _ (h : History) (x : Seen) (one : HasOnePath (at (next h x))) (files : IsOneFile h) (used : UsedTwice (next h x) → ⊥) where
  -- a file that is a message of the name now is the one that was
  now-was : (u : List ℕ) (m n : ℕ) → IsOf (next h x) u m → WasOf h u n → m ≡ n
  now-was u m n (p, is) was = by_number m n (λ same. same) (λ differ.
      absurd (used (
        p,
        m,
        n,
        (is.0, λ there. differ (files u m n (once-now (λ y. IsOf y u m) h (p, (there, is.1))) was)),
        is.1.0,
        subst (λ (v : List ℕ). WasOf h v n) (sym is.1.2) was,
        λ once. differ (files u m n (subst (λ (v : List ℕ). WasOf h v m) is.1.2 once) was),
      )))

  next-one : IsOneFile (next h x)
  unfolding Once
  next-one u m n (inl first) (inl second) = now-one (next h x) one u m n first second
  next-one u m n (inl first) (inr second) = now-was u m n first second
  next-one u m n (inr first) (inl second) = sym (now-was u n m second first)
  next-one u m n (inr first) (inr second) = files u m n first second

-- a file that was a message of the name was one in each folder that had one
module _ (folder : ℕ) (u : List ℕ) (n : ℕ) where
  -- the message of the folder had this file
  abbrev IsIts : History → Type 0
  IsIts m = (q : Path) × IsMessageAt (at m) folder u q n

  its : (m : History) → ((g : ℕ) → IsOf m u g → n ≡ g) → IsThere (at m) folder u → IsIts m
  its m one (q, g, is) =
      (q, subst (λ (f : ℕ). IsMessageAt (at m) folder u q f) (sym (one g (q, (is.0, (is.1.0, refl, is.1.2))))) is)

  once-its : (h : History) → ((g : ℕ) → WasOf h u g → n ≡ g) → Once (λ m. IsThere (at m) folder u) h → Once IsIts h
  unfolding Once
  once-its (opening m) one there = its (opening m) one there
  once-its (next past x) one (inl there) = inl (its (next past x) (λ g is. one g (inl is)) there)
  once-its (next past x) one (inr earlier) = inr (once-its past (λ g was. one g (inr was)) earlier)

pub of-one : (h : History) → IsOneFile h → (folder : ℕ) (u : List ℕ) (n : ℕ) → WasOf h u n → Once (λ m. IsThere (at m) folder u) h →
    Once (λ m. (q : Path) × IsMessageAt (at m) folder u q n) h
of-one h files folder u n was = once-its folder u n h (λ g other. files u n g was other)

-- ---- of a story

module _ (t : Story) (story : IsStory t) where
  abbrev first : Moment
  first = record { state = without_bytes t.image; now = t.clock }

  opening-at : at (opening first) ≡ without_bytes t.image
  unfolding moment
  opening-at = refl

  pub one-first : IsOneFile (history t 0)
  one-first = subst IsOneFile (sym (history-first t)) (opening-one first (subst HasOnePath (sym opening-at) story.one_path))

  pub one-next : (k : ℕ) (x : Step) → step_at t k ≡ Some x → HasOnePath (state t (suc k)) → (UsedTwice (next_at t k x) → ⊥) →
      IsOneFile (history t k) → IsOneFile (history t (suc k))
  one-next k x is one used files = subst IsOneFile (sym (history-next t k x is)) (next-one (history t k) (step_seen t.actor (state t k) x)
      (subst (λ (h : History). HasOnePath (at h)) (history-next t k x is) (subst HasOnePath (sym (at-history t story (suc k))) one))
      files used)

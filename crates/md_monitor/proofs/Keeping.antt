-- What a monitor keeps of files is what the history tells of them.
use Rattle.std.proofs.Common.{ℕ, ◌≡◌, ◌↔◌, inl, inr, cond, ◌==◌, ◌&&◌, ◌||◌, not, List, Option, Some, Bool, true, false, refl, ap, ◌∙◌, arith}
use Rattle.std.specs.Bool.{Decides}
use Rattle.std.proofs.lemmas.Bool.Decides.{Decides-eqb, Decides-and, Decides-or, Decides-not, Decides-like}
use Rattle.md_dirs.specs.State.{file_at}
use Rattle.md_dirs.specs.declared.paths.Path.{Path}
use Rattle.md_dirs.specs.declared.paths.Place.TheVariants.{Cur}
use Rattle.md_log.specs.declared.line.Reply.{Reply}
use Rattle.md_log.specs.declared.line.Reply.TheVariants as reply
use Rattle.md_log.specs.declared.line.Step.{Step}
use Rattle.md_law.specs.History.{Moment, History, opening, next, at, moment, Once, Since}
use Rattle.md_law.specs.Messages.{is_message, IsSeen}
use Rattle.md_law.specs.Files.{Writes, Flushes, IsUnflushed, IsCut, WasInCur, IsMaker}
use Rattle.md_monitor.specs.Changes.{change_of, is_file}
use Rattle.md_monitor.specs.Files.{FileKept, files_kept, kept_first, kept_after, is_write, comes_to, is_ok, is_fault, is_cur, is_cur_message, written_by, flushed_by, made_by}
use Rattle.md_monitor.proofs.Tests.{some-and, file-is, ok-is, fault-is, cur-is}
use Rattle.md_monitor.proofs.Seeing.{times-is, seen-is}
use Rattle.md_monitor.proofs.Stepping.{writes, flushes, makes, made-number}
use Rattle.md_monitor.proofs.Once.{IsNamed, once-like, once-is}
use Rattle.md_monitor.proofs.Growing.{made-below}

-- a path of a message in cur
abbrev IsCurMessage : Path → Type 0
IsCurMessage p = (is_message p ≡ true) × (p.place ≡ Cur)

cur_message-is : (p : Path) → Decides (is_cur_message p) (IsCurMessage p)
cur_message-is p = Decides-and (is_message p) (is_cur p.place) (λ t. t, λ t. t) (cur-is p.place)

-- the file is a message in cur, or one that readers see
in-cur : (n : ℕ) (m : History) → IsNamed (λ p k. (k ≡ n) × IsCurMessage p) m
    ↔ ((p : Path) × (file_at (at m) p ≡ Some n) × (is_message p ≡ true) × (p.place ≡ Cur))
in-cur n m = (
  λ (p, k, there, (file, both)). (p, there ∙ ap Some file, both.0, both.1),
  λ (p, there, message, cur). (p, n, there, (refl, (message, cur))),
)

in-sight : (n : ℕ) (m : History) → IsNamed (λ p k. (k ≡ n) × (is_message p ≡ true)) m ↔ IsSeen (at m) n
in-sight n m = (λ (p, k, there, (file, message)). (p, there ∙ ap Some file, message), λ (p, there, message). (p, n, there, (refl, message)))

-- ---- a step

module _ (past : History) (x : Step) (n : ℕ) where
  -- it is a write to the file, and answers so
  pub write-is : (answer : Reply → Bool) (r : Reply) → ((q : Reply) → Decides (answer q) (q ≡ r))
      → Decides (is_write (written_by (at past) x.call) answer n) (Writes (next past x) n r)
  write-is answer r each = Decides-like _
      (λ (w, is, both). (writes past x n r).0 (is ∙ ap Some (λ i. (both.0 i, both.1 i))))
      (λ w. ((n, r), (writes past x n r).1 w, (refl, refl)))
      (some-and (written_by (at past) x.call) (λ w. w.0 == n && answer w.1) (λ w. (w.0 ≡ n) × (w.1 ≡ r))
      (λ w. Decides-and (w.0 == n) (answer w.1) (Decides-eqb w.0 n) (each w.1)))

  flush-is : Decides (is_file (flushed_by (at past) x.call) n) (Flushes (next past x) n)
  flush-is = Decides-like _ (flushes past x n).0 (flushes past x n).1 (file-is (flushed_by (at past) x.call) n)

  -- a path of the file, of which the test holds, is there or was
  was-is : (test : Path → Bool) (P : Path → Type 0) → ((p : Path) → Decides (test p) (P p)) → (Q : History → Type 0)
      → ((m : History) → IsNamed (λ p k. (k ≡ n) × P p) m ↔ Q m) → (old : Bool) → Decides old (Once Q past)
      → Decides (comes_to (change_of (at past) x.call).named test n || old) (Once Q (next past x))
  was-is test P each Q same old was = once-like (IsNamed (λ p k. (k ≡ n) × P p)) Q same _ (next past x)
      (once-is past x _ (λ p k. (k ≡ n) × P p) (λ e. Decides-and (e.1 == n) (test e.0) (Decides-eqb e.1 n) (each e.0)) old
      (once-like Q (IsNamed (λ p k. (k ≡ n) × P p)) (λ m. ((same m).1, (same m).0)) old past was))

  maker-is : (old : Option (List ℕ)) → ((actor : List ℕ) → (old ≡ Some actor) ↔ IsMaker past actor n) → (actor : List ℕ)
      → (cond (is_file (made_by (at past) x.call) n) (Some x.actor) old ≡ Some actor) ↔ IsMaker (next past x) actor n
  unfolding Once
  maker-is old was actor = by (is_file (made_by (at past) x.call) n) refl
    where
      by : (b : Bool) → is_file (made_by (at past) x.call) n ≡ b → (cond b (Some x.actor) old ≡ Some actor) ↔ IsMaker (next past x) actor n
      by true is =
          let made = (file-is (made_by (at past) x.call) n).0 is in (
            λ same. inl ((makes past x actor n).0 (cc same, made)),
            λ h. elim h [
              | inl step ↦ ap Some ((makes past x actor n).1 step).0
              | inr before ↦
                  let low = made-below past actor n before in
                  let here = made-number (at past) x.call n made in
                  absurd (omega (arith, low, here))
            ],
          )
      by false not = (
        λ same. inr ((was actor).0 same),
        λ h. elim h [
          | inl step ↦ absurd (let made = (file-is (made_by (at past) x.call) n).1 ((makes past x actor n).1 step).1 in cc)
          | inr before ↦ (was actor).1 before
        ],
      )

-- ---- what is kept

-- What is kept of a file is what the history tells of it.
pub record IsKept (h : History) (n : ℕ) (f : FileKept) : Type 0 where
  pub maker : (actor : List ℕ) → (f.maker ≡ Some actor) ↔ IsMaker h actor n
  pub is_unflushed : Decides f.is_unflushed (IsUnflushed h n)
  pub is_cut : Decides f.is_cut (IsCut h n)
  pub was_cur : Decides f.was_cur (WasInCur h n)
  pub was_seen : Decides f.was_seen (Once (λ m. IsSeen (at m) n) h)

kept-first : (m : Moment) (n : ℕ) → IsKept (opening m) n (kept_first m.state n)
unfolding Once Since moment
kept-first m n = record {
  maker = λ actor. (λ is. absurd (cc is), λ made. absurd (let none = made.1.1 in cc));
  is_unflushed = (λ t. absurd (cc), λ wrote. absurd (let none = wrote.1.1 in cc));
  is_cut = (λ t. absurd (cc), λ wrote. absurd (let none = wrote.1.1 in cc));
  was_cur = Decides-like _ (λ (p, there, both). (p, there, both.0, both.1)) (λ (p, there, message, cur). (p, there, (message, cur)))
      (times-is is_cur_message IsCurMessage cur_message-is m.state n);
  was_seen = seen-is m.state n;
}

kept-next : (past : History) (x : Step) (n : ℕ) → IsKept past n (files_kept past n)
    → IsKept (next past x) n (kept_after (at past) x (files_kept past) n)
unfolding Since
kept-next past x n was = record {
  maker = maker-is past x n (files_kept past n).maker was.maker;
  is_unflushed = Decides-or _ _ (write-is past x n is_ok reply.Ok ok-is)
      (Decides-and _ _ (Decides-not _ (flush-is past x n)) was.is_unflushed);
  is_cut = Decides-or _ _ (write-is past x n is_fault reply.Fault fault-is)
      (Decides-and _ _ (Decides-not _ (write-is past x n is_ok reply.Ok ok-is)) was.is_cut);
  was_cur = was-is past x n is_cur_message IsCurMessage cur_message-is _ (in-cur n) (files_kept past n).was_cur was.was_cur;
  was_seen = was-is past x n is_message (λ p. is_message p ≡ true) (λ p. (λ t. t, λ t. t)) (λ m. IsSeen (at m) n) (in-sight n)
      (files_kept past n).was_seen was.was_seen;
}

pub kept : (h : History) (n : ℕ) → IsKept h n (files_kept h n)
unfolding files_kept
kept (opening m) n = kept-first m n
kept (next past x) n = kept-next past x n (kept past n)

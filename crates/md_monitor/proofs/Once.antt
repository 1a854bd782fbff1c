-- A monitor keeps that a path once named a file by the steps at which one comes to name it.
use Rattle.std.proofs.Common.{ℕ, ◌≡◌, ◌↔◌, ◌⊎◌, inl, inr, ◌||◌, Some, Bool, true, false, refl}
use Rattle.std.specs.Bool.{Decides}
use Rattle.std.proofs.lemmas.Bool.Decides.{Decides-or, Decides-like}
use Rattle.md_dirs.specs.State.{file_at}
use Rattle.md_dirs.specs.declared.paths.Path.{Path}
use Rattle.md_log.specs.declared.line.Step.{Step}
use Rattle.md_law.specs.History.{History, opening, next, at, Once}
use Rattle.md_law.specs.Files.{Names}
use Rattle.md_monitor.specs.Changes.{change_of, is_file}
use Rattle.md_monitor.specs.Files.{is_some_and}
use Rattle.md_monitor.proofs.Tests.{some-and, file-is}
use Rattle.md_monitor.proofs.Stepping.{names}

pub now-once : (P : History → Type 0) (h : History) → P h → Once P h
unfolding Once
now-once P (opening m) holds = holds
now-once P (next past x) holds = inl holds

pub once-map : (P Q : History → Type 0) → ((h : History) → P h → Q h) → (h : History) → Once P h → Once Q h
unfolding Once
once-map P Q map (opening m) holds = map (opening m) holds
once-map P Q map (next past x) (inl now) = inl (map (next past x) now)
once-map P Q map (next past x) (inr was) = inr (once-map P Q map past was)

-- what decides that one was so, decides it of another that is so just then
pub once-like : (P Q : History → Type 0) → ((m : History) → P m ↔ Q m) → (b : Bool) (h : History)
    → Decides b (Once P h) → Decides b (Once Q h)
once-like P Q same b h = Decides-like b (once-map P Q (λ m. (same m).0) h) (once-map Q P (λ m. (same m).1) h)

-- a path names a file, and this holds of both
abbrev pub IsNamed : (Path → ℕ → Type 0) → History → Type 0
IsNamed P h = (p : Path) × (n : ℕ) × (file_at (at h) p ≡ Some n) × P p n

module _ (past : History) (x : Step) (test : Path × ℕ → Bool) (P : Path → ℕ → Type 0)
    (each : (e : Path × ℕ) → Decides (test e) (P e.0 e.1)) where
  -- by the step a path comes to name a file, and the test holds of both
  pub named-is : Decides (is_some_and (change_of (at past) x.call).named test) ((p : Path) × (n : ℕ) × Names (next past x) p n × P p n)
  named-is = Decides-like _
      (λ (e, is, holds). (e.0, e.1, (names past x e.0 e.1).0 is, holds))
      (λ (p, n, new, holds). ((p, n), (names past x p n).1 new, holds))
      (some-and (change_of (at past) x.call).named test (λ e. P e.0 e.1) each)

  -- a path names a file, or did
  pub once-is : (old : Bool) → Decides old (Once (IsNamed P) past)
      → Decides (is_some_and (change_of (at past) x.call).named test || old) (Once (IsNamed P) (next past x))
  unfolding Once
  once-is old was = Decides-like _
      (λ h. elim h [ inl (p, n, new, holds) ↦ inl (p, n, new.0, holds) | inr before ↦ inr before ])
      (λ h. elim h [ inl (p, n, there, holds) ↦ by p n there holds (is_file (file_at (at past) p) n) refl | inr before ↦ inr before ])
      (Decides-or _ old named-is was)
    where
      by : (p : Path) (n : ℕ) → file_at (at (next past x)) p ≡ Some n → P p n → (b : Bool) → is_file (file_at (at past) p) n ≡ b
          → ((q : Path) × (m : ℕ) × Names (next past x) q m × P q m) ⊎ Once (IsNamed P) past
      by p n there holds true is = inr (now-once (IsNamed P) past (p, n, (file-is (file_at (at past) p) n).0 is, holds))
      by p n there holds false not = inl (p, n, (there, λ some. let is = (file-is (file_at (at past) p) n).1 some in cc), holds)

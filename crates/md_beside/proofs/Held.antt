-- A path that a job has seen is there, or another took it away since.
use Rattle.std.proofs.Common.{ℕ, suc, ◌≡◌, ◌≢◌, ◌<◌, ◌⊎◌, inl, inr, Option, Some, None, refl, arith}
use Rattle.md_dirs.specs.State.{file_at}
use Rattle.md_dirs.specs.declared.paths.Path.{Path}
use Rattle.md_beside.specs.Story.{Story, Step, ours, step_at, state}

module _ (t : Story) (job : ℕ) where
  -- step j of another took the path away
  abbrev pub TakenAt : ℕ → Path → Type 0
  TakenAt j p = (x : Step) × (step_at t j ≡ Some x) × (x.who ≢ ours job) × (file_at (state t j) p ≢ None)
      × (file_at (state t (suc j)) p ≡ None)

  -- since the look, the path is there, or another took it away
  abbrev pub Held : ℕ → ℕ → Path → Type 0
  Held look k p = (file_at (state t k) p ≢ None) ⊎ ((j : ℕ) × (look < j) × (j < k) × TakenAt j p)

  module _ (k : ℕ) (x : Step) (is : step_at t k ≡ Some x) (look : ℕ) (p : Path) where
    -- where it is there still, it is held
    pub held-still : (file_at (state t k) p ≢ None → file_at (state t (suc k)) p ≢ None) → Held look k p → Held look (suc k) p
    held-still still (inl there) = inl (still there)
    held-still still (inr taken) = let before = taken.2 in inr (taken.0, taken.1, omega (arith, before), taken.3)

    pub held-beside : x.who ≢ ours job → look < k → Held look k p → Held look (suc k) p
    held-beside not-own low (inr taken) = let before = taken.2 in inr (taken.0, taken.1, omega (arith, before), taken.3)
    held-beside not-own low (inl there) = by (file_at (state t (suc k)) p) refl
      where
        by : (o : Option ℕ) → file_at (state t (suc k)) p ≡ o → Held look (suc k) p
        by None gone = inr (k, low, omega arith, (x, is, not-own, there, gone))
        by (Some n) now = inl (λ none. (cc))

-- The names of directories.
use Rattle.std.proofs.Common.{ℕ, zero, suc, ◌≡◌, ◌++◌, cond, List, [], ◌∷◌, Some, None, Bool, true, false, slice_get, refl, sym, ◌∙◌}
use Rattle.std.specs.Map.{lookup_key}
use Rattle.std.specs.Str.{bytes_eq}
use Rattle.std.proofs.lemmas.Slice.Eq.{bytes_eq-Decides}
use Rattle.md_kept.specs.declared.directory.Directory.{Directory}
use Rattle.md_kept.specs.Directories.{file_of, file_by}

-- the name that a look finds is the one that was looked for
pub found-name : {V : Type 0} (k : List ℕ) (ks : List (List ℕ × V)) (found : List ℕ) → Some found ≡ lookup_key (bytes_eq k) ks → found ≡ k
found-name k [] found is = absurd (cc is)
found-name k (e ∷ es) found is = by (found-name k es found) (bytes_eq k e.0) refl is
  where
    by : (Some found ≡ lookup_key (bytes_eq k) es → found ≡ k) → (b : Bool) → bytes_eq k e.0 ≡ b
        → Some found ≡ cond b (Some e.0) (lookup_key (bytes_eq k) es) → found ≡ k
    by rest true same some = let here : found ≡ e.0 = cc some in here ∙ sym ((bytes_eq-Decides k e.0).0 same)
    by rest false other some = rest some

-- one more directory without names adds none
pub grown : (ds : List Directory) (d : Directory) → ((q : List ℕ) → file_of d q ≡ None) → (m : ℕ) (q : List ℕ)
    → file_by (slice_get (ds ++ d ∷ []) m) q ≡ file_by (slice_get ds m) q
grown [] d none zero q = none q
grown [] d none (suc m) q = refl
grown (e ∷ ds) d none zero q = refl
grown (e ∷ ds) d none (suc m) q = grown ds d none m q

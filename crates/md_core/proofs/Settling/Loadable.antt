-- What holds of directories at each moment of a run: no name has a fault by itself, and no file has a stamp past the clock. Where also each
-- message has one path, they load.
use Rattle.std.proofs.Common.{ℕ, ◌≡◌, ◌≤◌, inl, inr, List, [], ◌∷◌, Option, Some, None, Bool, true, false, cond, T, ◌&&◌, ◌||◌, nat_lt, max, fold, length, refl, ap, ◌∙◌, arith}
use Rattle.std.specs.declared.cmp.Ordering.TheVariants.{Less, Equal}
use Rattle.std.specs.FinMap.Entries.{below_all}
use Rattle.std.proofs.lemmas.Bool.{and_parts}
use Rattle.std.proofs.lemmas.Bool.Decides.{nat_tests}
use Rattle.std.proofs.lemmas.Cmp.{tied_itself}
use Rattle.std.proofs.lemmas.Slice.Eq.{bytes_eq-Decides}
use Rattle.md_core.proofs.Values.{State, file_at, file_by, CoreError, path_cmp, Path, unique_of, is_message, HasOnePath, stamp_of, first_clock, option_or, list_any, bytes_eq, is_sorted, entries, entries_sorted, is_bad_name, is_long_unique, is_same_message, fault_of, first_fault, load_refusal}
use Rattle.md_dirs.proofs.PathOrder.{path_total, path_exact}
use Rattle.md_jobs.specs.declared.error.CoreError.TheVariants as core
use Rattle.lists.proofs.Members.{Has, has-get}
use Rattle.md_core.proofs.Answers.Files.Tmp.{stamp_at}
use Rattle.md_core.proofs.Worlds.Loading.Loaded.{loaded-name, loaded-short, first-clock}
use Rattle.md_core.proofs.Worlds.Loading.Order.{first, second, less}

-- a path whose name has no fault by itself
pub record IsGoodPath (p : Path) : Type 0 where
  pub name : is_bad_name p.name ≡ false
  pub short : is_message p ≡ true → length (unique_of p.name) ≤ 200

-- each path that names a file is such, and no file has a later stamp than the clock
pub record IsLoadable (s : State) (clock : ℕ) : Type 0 where
  pub good : (p : Path) (n : ℕ) → file_at s p ≡ Some n → IsGoodPath p
  pub stamped : (p : Path) (n : ℕ) → file_at s p ≡ Some n → stamp_at s n ≤ clock

-- so it is of directories that were loaded
pub loaded-loadable : (s : State) (clock : ℕ) → load_refusal s ≡ None → first_clock s ≤ clock → IsLoadable s clock
loaded-loadable s clock loaded stamped = record {
  good = λ p n there. record { name = loaded-name s loaded p n there; short = loaded-short s loaded p n there };
  stamped = λ p n there. let first = first-clock s p n there in omega (arith, first, stamped);
}

-- ---- no path has a fault

not-long : (p : Path) → IsGoodPath p → is_long_unique p ≡ false
not-long p good = by (is_message p) refl
  where
    by : (b : Bool) → is_message p ≡ b → (b && nat_lt 200 (length (unique_of p.name))) ≡ false
    by true is = let short = good.short is in grind (arith, nat_tests)
    by false is = refl

faultless : (earlier : List Path) (p : Path) → IsGoodPath p → list_any (is_same_message p) earlier ≡ false → fault_of earlier p ≡ None
faultless earlier p good single =
    λ i. cond {A = Option CoreError} (good.name i) (Some core.BadName)
    (cond (not-long p good i) (Some core.LongUnique) (cond (single i) (Some core.DuplicateUnique) None))

-- in a list in order, a later path is another
later : (q : Path) (es : List (Path × ℕ)) (x : Path × ℕ) → T (below_all path_cmp q es) → Has es x → path_cmp q x.0 ≡ Less
later q [] x below has = absurd has
later q (e ∷ es) x below has = elim has [
  | inl is ↦ ap (λ (y : Path × ℕ). path_cmp q y.0) is ∙ less _ (first _ _ below)
  | inr rest ↦ later q es x (second _ _ below) rest
]

no-fault : (earlier : List Path) (es : List (Path × ℕ)) → T (is_sorted path_cmp es) → ((x : Path × ℕ) → Has es x → IsGoodPath x.0) →
    ((x y : Path × ℕ) → Has es x → Has es y → is_same_message x.0 y.0 ≡ true → x.0 ≡ y.0) →
    ((x : Path × ℕ) → Has es x → list_any (is_same_message x.0) earlier ≡ false) → first_fault earlier es ≡ None
no-fault earlier [] sorted good one before = refl
no-fault earlier (e ∷ es) sorted good one before =
    let own : fault_of earlier e.0 ≡ None = faultless earlier e.0 (good e (inl refl)) (before e (inl refl)) in
    let rest : first_fault (e.0 ∷ earlier) es ≡ None =
    no-fault (e.0 ∷ earlier) es (second _ _ sorted) (λ x has. good x (inr has)) (λ x y hx hy. one x y (inr hx) (inr hy))
    (λ x has i. apart x has (is_same_message x.0 e.0) refl i || before x (inr has) i) in
    λ i. option_or (own i) (rest i)
  where
    apart : (x : Path × ℕ) → Has es x → (b : Bool) → is_same_message x.0 e.0 ≡ b → b ≡ false
    apart x has true is =
        let same = one x e (inr has) (inl refl) is in
        let below : path_cmp e.0 x.0 ≡ Less = later e.0 es x (first _ _ sorted) has in
        let tied : path_cmp e.0 x.0 ≡ Equal = ap (path_cmp e.0) same ∙ tied_itself path_total e.0 in
        cc
    apart x has false is = refl

-- ---- the greatest stamp

within : (s : State) (clock from : ℕ) (es : List (Path × ℕ)) → from ≤ clock →
    ((x : Path × ℕ) → Has es x → stamp_of (file_by s.files x.1) ≤ clock) →
    fold (λ c e. max c (stamp_of (file_by s.files e.1))) from es ≤ clock
within s clock from [] below each = below
within s clock from (e ∷ es) below each =
    let own = each e (inl refl) in
    within s clock (max from (stamp_of (file_by s.files e.1))) es (omega (arith, below, own)) (λ x has. each x (inr has))

-- ---- all paths

module _ (s : State) (clock : ℕ) (h : IsLoadable s clock) where
  there : (x : Path × ℕ) → Has (entries s.names) x → file_at s x.0 ≡ Some x.1
  there x has = has-get path_total path_exact s.names x has

  pub loadable-loads : HasOnePath s → load_refusal s ≡ None
  loadable-loads one = no-fault [] (entries s.names) (entries_sorted s.names) (λ x has. h.good x.0 x.1 (there x has)) same (λ x has. refl)
    where
      same : (x y : Path × ℕ) → Has (entries s.names) x → Has (entries s.names) y → is_same_message x.0 y.0 ≡ true → x.0 ≡ y.0
      same x y hx hy is =
          let parts = and_parts (is_message x.0 && is_message y.0) (bytes_eq (unique_of x.0.name) (unique_of y.0.name)) is in
          let both = and_parts (is_message x.0) (is_message y.0) parts.0 in
          one x.0 y.0 x.1 y.1 (there x hx) (there y hy) both.0 both.1 ((bytes_eq-Decides (unique_of x.0.name) (unique_of y.0.name)).0 parts.1)

  pub loadable-clock : first_clock s ≤ clock
  loadable-clock = within s clock 0 (entries s.names) (omega arith) (λ x has. h.stamped x.0 x.1 (there x has))

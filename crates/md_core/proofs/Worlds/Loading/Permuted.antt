-- What a look at entries finds doesn't hang on their order, where none has a fault.
use Rattle.std.proofs.Common.{ℕ, ◌≡◌, List, [], ◌∷◌, Some, None, Bool, false, cond, ◌||◌, refl, sym, ◌∙◌}
use Rattle.std.specs.List.{list_any, AllByRecursion, IsDistinct}
use Rattle.std.specs.List.Sorted.{IsPermutation}
use Rattle.std.proofs.lemmas.List.Elements.{recursion_from_All, All-from_recursion}
use Rattle.std.proofs.lemmas.List.Sorted.{All-permutation, IsPermutation-sym, list_any-IsPermutation}
use Rattle.std.proofs.lemmas.Map.Keys.{IsDistinct-IsPermutation}
use Rattle.md_core.proofs.Values.{State, Path, file_by, stamp_of, option_or, Seen, is_same_message, fault_of, first_fault, IsLookOf, is_message_of, is_tmp_of}
use Rattle.md_jobs.specs.declared.error.CoreError.TheVariants as core
use Rattle.md_core.proofs.Lists.Permuted.{greatest-moved}
use Rattle.md_core.proofs.Worlds.Loading.Loaded.{IsFaultless, no-fault, both_none, first_none, later_none, same-turned}

-- ---- entries of which none has a fault

-- two entries that are messages of one name
abbrev same : Path × ℕ → Path × ℕ → Bool
same x y = is_same_message x.0 y.0

turned : (x y : Path × ℕ) → same x y ≡ same y x
turned x y = same-turned x.0 y.0

abbrev AreFaultless : List Path → List (Path × ℕ) → Type 0
AreFaultless earlier = AllByRecursion (λ e. IsFaultless earlier e.0)

fewer : (p : Path) (earlier : List Path) (es : List (Path × ℕ)) → AreFaultless (p ∷ earlier) es → AreFaultless earlier es
fewer p earlier [] all = tt
fewer p earlier (e ∷ es) all = (
  record { name = all.0.name; short = all.0.short; single = later_none (is_same_message e.0 p) _ all.0.single },
  fewer p earlier es all.1,
)

apart : (x : Path × ℕ) (earlier : List Path) (es : List (Path × ℕ)) → AreFaultless (x.0 ∷ earlier) es → AllByRecursion (λ y. same x y ≡ false) es
apart x earlier [] all = tt
apart x earlier (e ∷ es) all = (
  turned x e ∙ first_none (is_same_message e.0 x.0) (list_any (is_same_message e.0) earlier) all.0.single,
  apart x earlier es all.1,
)

more : (x : Path × ℕ) (earlier : List Path) (es : List (Path × ℕ)) → AreFaultless earlier es → AllByRecursion (λ y. same x y ≡ false) es →
    AreFaultless (x.0 ∷ earlier) es
more x earlier [] all differ = tt
more x earlier (e ∷ es) all differ = (
  record { name = all.0.name; short = all.0.short; single = (λ i. (turned e x ∙ differ.0) i || all.0.single i) },
  more x earlier es all.1 differ.1,
)

each : (earlier : List Path) (es : List (Path × ℕ)) → first_fault earlier es ≡ None → AreFaultless earlier es × IsDistinct same es
unfolding IsDistinct
each earlier [] none = (tt, tt)
each earlier (e ∷ es) none =
    let parts = both_none (fault_of earlier e.0) (first_fault (e.0 ∷ earlier) es) none in
    let rest = each (e.0 ∷ earlier) es parts.1 in
    ((no-fault earlier e.0 parts.0, fewer e.0 earlier es rest.0), (apart e earlier es rest.0, rest.1))

none-of : (earlier : List Path) (p : Path) → IsFaultless earlier p → fault_of earlier p ≡ None
none-of earlier p is = λ i. cond (is.name i) (Some core.BadName) (cond (is.short i) (Some core.LongUnique) (cond (is.single i) (Some core.DuplicateUnique) None))

all : (earlier : List Path) (es : List (Path × ℕ)) → AreFaultless earlier es → IsDistinct same es → first_fault earlier es ≡ None
unfolding IsDistinct
all earlier [] each differ = refl
all earlier (e ∷ es) each differ =
    λ i. option_or (none-of earlier e.0 each.0 i) (all (e.0 ∷ earlier) es (more e earlier es each.1 differ.0) differ.1 i)

-- in another order none has one either
none-moved : (es fs : List (Path × ℕ)) → IsPermutation es fs → first_fault [] fs ≡ None → first_fault [] es ≡ None
none-moved es fs moved none =
    let parts = each [] fs none in
    let back = IsPermutation-sym es fs moved in
    let Faultless = λ (e : Path × ℕ). IsFaultless [] e.0 in
    all [] es
    (recursion_from_All Faultless es (All-permutation Faultless fs es back (All-from_recursion Faultless fs parts.0)))
    (IsDistinct-IsPermutation same turned fs es back parts.1)

-- ---- what was seen

pub look-moved : (s : State) (es fs : List (Path × ℕ)) (seen : Seen) → IsPermutation es fs → IsLookOf s fs seen → IsLookOf s es seen
look-moved s es fs seen moved look = record {
  messages = λ u. look.messages u ∙ sym (list_any-IsPermutation (λ e. is_message_of u e.0) es fs moved);
  tmp = λ u. look.tmp u ∙ sym (list_any-IsPermutation (λ e. is_tmp_of u e.0) es fs moved);
  clock = look.clock ∙ greatest-moved (λ (e : Path × ℕ). stamp_of (file_by s.files e.1)) 0 es fs moved;
  faultless = none-moved es fs moved look.faultless;
}

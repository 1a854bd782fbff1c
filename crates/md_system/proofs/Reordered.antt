-- Which names break the format hangs on no order in which they are seen.
use Rattle.std.proofs.Common.{ℕ, ◌<◌, ◌↔◌, cond, List, Any}
use Rattle.std.proofs.Common.{sym, subst}
use Rattle.std.specs.List.Sorted.{IsPermutation}
use Rattle.std.proofs.lemmas.List.Sorted.{Contains-permutation, IsPermutation-sym, sum_by-IsPermutation}
use Rattle.md_name.specs.Names.{unique_of}
use Rattle.md_system.specs.Checks.{Breaks, IsElsewhere, IsFlawOf, is_of_in}
use Rattle.md_system.specs.declared.flaw.Flaw.{Flaw}
use Rattle.md_system.specs.declared.flaw.FlawKind.{FlawKind}
use Rattle.md_system.specs.declared.flaw.FlawKind.TheVariants as flaw
use Rattle.md_system.specs.declared.seen.Seen.{Seen}

any-permuted : {X : Type 0} (P : X → Type 0) (xs ys : List X) → IsPermutation xs ys → Any P xs → Any P ys
any-permuted P xs ys same some =
    let at = Contains-permutation xs ys some.1 same (some.0, some.2, some.3) in (at.0, some.1, at.1, at.2, some.4)

breaks-permuted : (xs ys : List Seen) → IsPermutation xs ys → (one : Seen) (kind : FlawKind) → Breaks xs one kind → Breaks ys one kind
breaks-permuted xs ys same one flaw.TwiceInFolder is = (
  is.0,
  subst (λ (n : ℕ). 1 < n) (sym (sum_by-IsPermutation (λ (s : Seen). cond (is_of_in one.folder (unique_of one.name) s) 1 0) xs ys same)) is.1,
)
breaks-permuted xs ys same one flaw.InOtherFolders is = (is.0, any-permuted (IsElsewhere one) xs ys same is.1)
breaks-permuted xs ys same one flaw.NotAFile is = is
breaks-permuted xs ys same one flaw.Unused is = is
breaks-permuted xs ys same one flaw.DotName is = is
breaks-permuted xs ys same one flaw.InfoInNew is = is
breaks-permuted xs ys same one flaw.NoInfo is = is
breaks-permuted xs ys same one flaw.FlagsOutOfOrder is = is
breaks-permuted xs ys same one flaw.NotText is = is
breaks-permuted xs ys same one flaw.LongName is = is

told-permuted : (xs ys : List Seen) → IsPermutation xs ys → (f : Flaw) → Any (λ one. IsFlawOf xs one f) xs → Any (λ one. IsFlawOf ys one f) ys
told-permuted xs ys same f some =
    let there = any-permuted (λ (one : Seen). IsFlawOf xs one f) xs ys same some in
    let is = there.4 in (
      there.0,
      there.1,
      there.2,
      there.3,
      record { folder = is.folder; place = is.place; name = is.name; breaks = breaks-permuted xs ys same there.1 f.kind is.breaks },
    )

pub told-alike : (xs ys : List Seen) → IsPermutation xs ys → (f : Flaw) → Any (λ one. IsFlawOf ys one f) ys ↔ Any (λ one. IsFlawOf xs one f) xs
told-alike xs ys same f = (told-permuted ys xs (IsPermutation-sym xs ys same) f, told-permuted xs ys same f)

-- The order of flaws is total, and only equal flaws tie.
use Rattle.std.proofs.Common.{ℕ, zero, suc, ◌≡◌, true, refl, sym, ap, ◌∙◌}
use Rattle.std.specs.Cmp.{IsTotalOrder}
use Rattle.std.specs.Ordering.{is_eq, nat_cmp}
use Rattle.std.specs.declared.cmp.Ordering.{Ordering}
use Rattle.std.specs.declared.cmp.Ordering.TheVariants.{Less, Equal, Greater}
use Rattle.std.proofs.lemmas.Cmp.{on_total, then_total, nat_cmp_total}
use Rattle.std.proofs.lemmas.Map.Lookups.{CmpEqualImpliesEq, exact_pairs, exact_unsigned}
use Rattle.md_dirs.specs.Path.{path_cmp}
use Rattle.md_dirs.specs.declared.paths.Path.{Path}
use Rattle.md_dirs.proofs.PathOrder.{path_total, path_exact}
use Rattle.md_system.specs.Checks.{flaw_cmp, kind_index, path_in}
use Rattle.md_system.specs.declared.flaw.Flaw.{Flaw}
use Rattle.md_system.specs.declared.flaw.FlawKind.{FlawKind}
use Rattle.md_system.specs.declared.flaw.FlawKind.TheVariants as flaw

pub flaw_total : IsTotalOrder flaw_cmp
flaw_total = then_total (on_total path_in path_total) (on_total (λ (f : Flaw). kind_index f.kind) nat_cmp_total)

-- the kind of an index
abbrev kind_of : ℕ → FlawKind
kind_of zero = flaw.TwiceInFolder
kind_of (suc zero) = flaw.InOtherFolders
kind_of (suc (suc zero)) = flaw.Unused
kind_of (suc (suc (suc zero))) = flaw.NotAFile
kind_of (suc (suc (suc (suc zero)))) = flaw.DotName
kind_of (suc (suc (suc (suc (suc zero))))) = flaw.InfoInNew
kind_of (suc (suc (suc (suc (suc (suc zero)))))) = flaw.NoInfo
kind_of (suc (suc (suc (suc (suc (suc (suc zero))))))) = flaw.FlagsOutOfOrder
kind_of (suc (suc (suc (suc (suc (suc (suc (suc zero)))))))) = flaw.NotText
kind_of (suc (suc (suc (suc (suc (suc (suc (suc (suc n))))))))) = flaw.LongName

kind_of-kind_index : (kind : FlawKind) → kind_of (kind_index kind) ≡ kind
kind_of-kind_index flaw.TwiceInFolder = refl
kind_of-kind_index flaw.InOtherFolders = refl
kind_of-kind_index flaw.Unused = refl
kind_of-kind_index flaw.NotAFile = refl
kind_of-kind_index flaw.DotName = refl
kind_of-kind_index flaw.InfoInNew = refl
kind_of-kind_index flaw.NoInfo = refl
kind_of-kind_index flaw.FlagsOutOfOrder = refl
kind_of-kind_index flaw.NotText = refl
kind_of-kind_index flaw.LongName = refl

-- a flaw of its parts
abbrev built : Path × ℕ → Flaw
built t = record { folder = t.0.folder; place = t.0.place; name = t.0.name; kind = kind_of t.1 }

abbrev parts : Flaw → Path × ℕ
parts f = (path_in f, kind_index f.kind)

built-parts : (f : Flaw) → built (parts f) ≡ f
built-parts f = ap (λ (kind : FlawKind). record { folder = f.folder; place = f.place; name = f.name; kind = kind }) (kind_of-kind_index f.kind)

-- flaws that tie are one
pub flaw_exact : CmpEqualImpliesEq flaw_cmp
flaw_exact f g tie =
    sym (built-parts f) ∙ ap built (exact_pairs path_cmp nat_cmp path_exact exact_unsigned (parts f) (parts g) tie) ∙ built-parts g

is-equal : (o : Ordering) → is_eq o ≡ true → o ≡ Equal
is-equal Equal is = refl
is-equal Less is = cc
is-equal Greater is = cc

pub same-flaw : (f g : Flaw) → is_eq (flaw_cmp f g) ≡ true → f ≡ g
same-flaw f g is = flaw_exact f g (is-equal (flaw_cmp f g) is)

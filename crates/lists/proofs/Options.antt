-- An option that has a value.
use Rattle.std.proofs.Common.{◌≡◌, Option, Some, None, IsSome, is_some, refl, ap}
use Rattle.std.specs.Option.{option_or}
use Rattle.std.proofs.lemmas.Bool.{false≢true}

pub value : {X : Type 0} (o : Option X) → IsSome o → (x : X) × (o ≡ Some x)
value None some = absurd (false≢true some)
value (Some x) some = (x, refl)

pub is-there : {X : Type 0} (o : Option X) (x : X) → o ≡ Some x → IsSome o
is-there o x is = ap is_some is

-- neither has what both together lack
pub neither : {X : Type 0} (a b : Option X) → option_or a b ≡ None → (a ≡ None) × (b ≡ None)
neither None b is = (refl, is)
neither (Some x) b is = cc

pub or-none : {X : Type 0} (o : Option X) → option_or o None ≡ o
or-none None = refl
or-none (Some x) = refl

-- What the test that one key is below another says.
use Rattle.std.proofs.Common.{◌≡◌, true, T, refl, sym, subst}
use Rattle.std.specs.declared.cmp.Ordering.{Ordering}
use Rattle.std.specs.declared.cmp.Ordering.TheVariants.{Less, Equal, Greater}
use Rattle.std.specs.Ordering.{is_lt}
use Rattle.lists.proofs.Booleans.{holds}

pub less : (o : Ordering) → T (is_lt o) → o ≡ Less
less Less p = refl
less Equal p = absurd p
less Greater p = absurd p

pub is-less : (o : Ordering) → is_lt o ≡ true → o ≡ Less
is-less o is = less o (holds _ is)

pub is_less : (o : Ordering) → o ≡ Less → T (is_lt o)
is_less o is = subst (λ r. T (is_lt r)) (sym is) tt

-- What tests that hold say, one by one and together.
use Rattle.std.proofs.Common.{◌≡◌, Bool, true, false, T, ◌&&◌, refl, sym, subst}

pub first : (a b : Bool) → T (a && b) → T a
first true b p = tt
first false b p = p

pub second : (a b : Bool) → T (a && b) → T b
second true b p = p
second false b p = absurd p

pub both : (a b : Bool) → T a → T b → T (a && b)
both true b p q = q
both false b p q = p

pub holds : (b : Bool) → b ≡ true → T b
holds b is = subst T (sym is) tt

pub is_true : (b : Bool) → T b → b ≡ true
is_true true h = refl
is_true false h = absurd h

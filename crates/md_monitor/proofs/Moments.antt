-- The moments of a history are in order, and what has been so since a moment is told by it.
use Rattle.std.proofs.Common.{ℕ, suc, ◌≡◌, ◌≤◌, ◌⊎◌, inl, inr, refl, sym, ap, subst, ◌∙◌, arith}
use Rattle.md_log.specs.declared.line.Step.{Step}
use Rattle.md_law.specs.History.{History, opening, next, before, Once, Since, IsUpTo}

-- how many steps there were
abbrev size : History → ℕ
size (opening m) = 0
size (next past x) = suc (size past)

pub upto-itself : (h : History) → IsUpTo h h
unfolding Once
upto-itself (opening m) = refl
upto-itself (next past x) = inl refl

pub upto-next : (a past : History) (x : Step) → IsUpTo a past → IsUpTo a (next past x)
unfolding Once
upto-next a past x up = inr up

pub upto-before : (h : History) → IsUpTo (before h) h
unfolding Once
upto-before (opening m) = refl
upto-before (next past x) = inr (upto-itself past)

pub upto-trans : (a b c : History) → IsUpTo a b → IsUpTo b c → IsUpTo a c
unfolding Once
upto-trans a b (opening m) ab bc = subst (λ k. IsUpTo a k) (sym bc) ab
upto-trans a b (next past x) ab (inl same) = subst (λ k. IsUpTo a k) (sym same) ab
upto-trans a b (next past x) ab (inr low) = inr (upto-trans a b past ab low)

size-upto : (a h : History) → IsUpTo a h → size a ≤ size h
unfolding Once
size-upto a (opening m) same = let size : size (opening m) ≡ size a = ap size same in omega (arith, size)
size-upto a (next past x) (inl same) = let size : size (next past x) ≡ size a = ap size same in omega (arith, size)
size-upto a (next past x) (inr low) = let less = size-upto a past low in omega (arith, less)

-- no history ends after its last step
pub not-after : (past : History) (x : Step) → IsUpTo (next past x) past → ⊥
not-after past x up = let less = size-upto (next past x) past up in omega (arith, less)

pub upto-same : (a b : History) → IsUpTo a b → IsUpTo b a → a ≡ b
unfolding Once
upto-same a (opening m) same ba = sym same
upto-same a (next past x) (inl same) ba = sym same
upto-same a (next past x) (inr low) ba = absurd (not-after past x (upto-trans (next past x) a past ba low))

-- of two moments of a history the first is not after the second, or the second is before it
pub upto-either : (a b h : History) → IsUpTo a h → IsUpTo b h → IsUpTo a b ⊎ IsUpTo b (before a)
unfolding Once
upto-either a b (opening m) same same' = inl (subst (λ k. IsUpTo a k) (sym same ∙ same') (upto-itself a))
upto-either a b (next past x) (inl same) (inl same') = inl (subst (λ k. IsUpTo a k) (sym same ∙ same') (upto-itself a))
upto-either a b (next past x) (inl same) (inr low) = inr (subst (λ k. IsUpTo b (before k)) same low)
upto-either a b (next past x) (inr low) (inl same) = inl (subst (λ k. IsUpTo a k) same (inr low))
upto-either a b (next past x) (inr low) (inr low') = upto-either a b past low low'

-- ---- what has been so since a moment

-- at each moment from the first on to the last, but at the first itself, this is so
abbrev pub HoldsFrom : History → History → (History → Type 0) → Type 0
HoldsFrom m h Q = (j : History) → IsUpTo m j → IsUpTo j h → (j ≡ m) ⊎ Q j

pub since-found : (P Q : History → Type 0) (h : History) → Since P Q h → (m : History) × IsUpTo m h × P m × HoldsFrom m h Q
unfolding Once Since
since-found P Q (opening s) is = (opening s, refl, is, λ j from to. inl (sym to))
since-found P Q (next past x) (inl is) = (next past x, inl refl, is, λ j from to. inl (upto-same j (next past x) to from))
since-found P Q (next past x) (inr rest) =
    let it = since-found P Q past rest.1 in
    (it.0, inr it.1, it.2, λ j from to. elim to [ inl same ↦ inr (subst Q same rest.0) | inr low ↦ it.3 j from low ])

pub since-from : (P Q : History → Type 0) (m h : History) → IsUpTo m h → P m → HoldsFrom m h Q → Since P Q h
unfolding Once Since
since-from P Q m (opening s) same is each = subst P (sym same) is
since-from P Q m (next past x) (inl same) is each = inl (subst P (sym same) is)
since-from P Q m (next past x) (inr low) is each = elim (each (next past x) (inr low) (inl refl)) [
  | inl same ↦ inl (subst P (sym same) is)
  | inr holds ↦ inr (holds, since-from P Q m past low is (λ j from to. each j from (inr to)))
]

pub since-now : (P Q : History → Type 0) (h : History) → P h → Since P Q h
unfolding Since
since-now P Q (opening m) is = is
since-now P Q (next past x) is = inl is

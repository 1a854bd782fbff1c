-- Findings come in order as one more is added.
use Rattle.std.proofs.Common.{ℕ, zero, suc, ◌≡◌, ◌<◌, ◌≤◌, ◌+◌, inl, inr, List, [], ◌∷◌, ◌++◌, Some, length, get_or, slice_get, refl, subst, arith}
use Rattle.std.proofs.lemmas.Option.{slice_get_within, slice_get-get_or}
use Rattle.md_log.specs.declared.clause.Clause.{Clause}
use Rattle.md_judge.specs.declared.log.Finding.{Finding}
use Rattle.md_log.specs.Texts.{clause_index}
use Rattle.md_judge.specs.Verdict.{IsEarlier, AreEarlier, AreInOrder}
use Rattle.md_judge.proofs.Lists.{one-more}

-- what is earlier than a clause is earlier than those after it
still-earlier : (f : Finding) (line i k : ℕ) → i ≤ k → IsEarlier f line i → IsEarlier f line k
still-earlier f line i k up earlier = elim earlier [
  | inl low ↦ inl low
  | inr here ↦ let before = here.1 in inr (here.0, omega (arith, up, before))
]

-- one more finding comes after those that are earlier
pub one-ordered : (fs gs : List Finding) (f : Finding) → gs ≡ fs ++ f ∷ [] → AreInOrder fs → AreEarlier fs f.line (clause_index f.clause)
    → AreInOrder gs × AreEarlier gs f.line (suc (clause_index f.clause))
one-ordered fs gs f more order earlier = (
  λ a b g h up first last. elim (one-more fs f b h (subst (λ (hs : List Finding). slice_get hs b ≡ Some h) more last)) [
    | inl was' ↦ elim (one-more fs f a g (subst (λ (hs : List Finding). slice_get hs a ≡ Some g) more first)) [
      | inl was ↦ order a b g h up was was'
      | inr now ↦ absurd (let end = now.0 in let low = slice_get_within fs b h was' in omega (arith, end, low, up))
    ]
    | inr now' ↦ elim (one-more fs f a g (subst (λ (hs : List Finding). slice_get hs a ≡ Some g) more first)) [
      | inl was ↦ subst (λ (x : Finding). IsEarlier g x.line (clause_index x.clause)) now'.1 (earlier a g was)
      | inr now ↦ absurd (let end = now.0 in let end' = now'.0 in omega (arith, end, end', up))
    ]
  ],
  λ k g is. elim (one-more fs f k g (subst (λ (hs : List Finding). slice_get hs k ≡ Some g) more is)) [
    | inl was ↦ still-earlier g f.line (clause_index f.clause) (suc (clause_index f.clause)) (omega arith) (earlier k g was)
    | inr now ↦ subst (λ (x : Finding). IsEarlier x f.line (suc (clause_index f.clause))) now.1 (inr (refl, omega arith))
  ],
)

-- clauses that have the numbers from this one on
abbrev pub HaveNumbersFrom : ℕ → List Clause → Type 0
HaveNumbersFrom n [] = Unit {0}
HaveNumbersFrom n (c ∷ cs) = (clause_index c ≡ n) × HaveNumbersFrom (suc n) cs

pub numbered : (cs : List Clause) (n i : ℕ) (c : Clause) → HaveNumbersFrom n cs → slice_get cs i ≡ Some c → clause_index c ≡ n + i
numbered [] n i c all is = absurd (cc is)
numbered (x ∷ cs) n zero c all is =
    let same : x ≡ c = cc is in
    let first : clause_index x ≡ n = all.0 in
    let number : clause_index c ≡ n = subst (λ (o : Clause). clause_index o ≡ n) same first in
    omega (arith, number)
numbered (x ∷ cs) n (suc i) c all is =
    let number : clause_index c ≡ suc n + i = numbered cs (suc n) i c all.1 is in
    omega (arith, number)

-- what holds of findings, and of those of a line up to a clause, as the next clause is passed
pub clause-next : (Holds : List Finding → Type 0) (HoldsUpTo : List Finding → ℕ → ℕ → Type 0) (clauses : List Clause) (line i : ℕ) (d : Clause)
    (fs gs : List Finding) → HaveNumbersFrom 0 clauses → i < length clauses → Holds fs → HoldsUpTo fs line i
    → (Holds fs → HoldsUpTo fs line (clause_index (get_or clauses i d))
    → Holds gs × HoldsUpTo gs line (suc (clause_index (get_or clauses i d)))) → Holds gs × HoldsUpTo gs line (i + 1)
clause-next Holds HoldsUpTo clauses line i d fs gs all within holds before more =
    let c : Clause = get_or clauses i d in
    let number : clause_index c ≡ 0 + i = numbered clauses 0 i c all (slice_get-get_or clauses i d within) in
    let here : i ≡ clause_index c = omega (arith, number) in
    let next : suc (clause_index c) ≡ i + 1 = omega (arith, number) in
    let now = more holds (subst (λ k. HoldsUpTo fs line k) here before) in
    (now.0, subst (λ k. HoldsUpTo gs line k) next now.1)

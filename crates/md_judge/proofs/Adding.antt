-- Findings of a step, clause by clause.
use Rattle.std.proofs.Common.{ℕ, ◌≡◌, ◌<◌, ◌≤◌, ◌+◌, ◌⊎◌, inl, inr, ◌↔◌, List, [], ◌++◌, ◌∷◌, Option, Some, length, get_or, slice_get, refl, sym, ap, subst, ◌∙◌, arith}
use Rattle.std.proofs.lemmas.Option.{slice_get_within, slice_get-get_or, get_or_from_slice_get}
use Rattle.std.proofs.lemmas.Bool.{cases_lt}
use Rattle.md_log.specs.declared.clause.Clause.{Clause}
use Rattle.md_log.specs.declared.clause.Clause.TheVariants as clause
use Rattle.md_judge.specs.declared.log.Finding.{Finding}
use Rattle.md_judge.specs.declared.session.Session.{Session}
use Rattle.md_log.specs.Texts.{clauses, clause_index}
use Rattle.md_judge.specs.Verdict.{IsAmong}
use Rattle.md_judge.specs.Placed.{AddsFinding}
use Rattle.md_judge.proofs.Lists.{one-more, stays, last-is}
use Rattle.md_judge.proofs.Ordered.{HaveNumbersFrom}

-- a broken clause comes after the others
pub adds-one : (c o : Clause) (n : ℕ) (before : Option ℕ) (fs gs : List Finding) (P : Clause → Type 0) → P c
    → gs ≡ fs ++ record { line = n; clause = c; before = before } ∷ []
    → (m : ℕ) → IsAmong gs m o ↔ (IsAmong fs m o ⊎ ((n ≡ m) × ((c ≡ o) × P o)))
adds-one c o n before fs gs P broken more m =
    let f : Finding = record { line = n; clause = c; before = before } in (
      λ now. elim (one-more fs f now.0 now.1 (subst (λ (hs : List Finding). slice_get hs now.0 ≡ Some now.1) more now.2)) [
        | inl was ↦ inl (now.0, now.1, was, now.3, now.4)
        | inr is ↦
            let same : c ≡ o = ap (λ (g : Finding). g.clause) is.1 ∙ now.4 in
            inr (ap (λ (g : Finding). g.line) is.1 ∙ now.3, (same, subst P same broken))
      ],
      λ some. subst (λ (hs : List Finding). IsAmong hs m o) (sym more) (elim some [
        | inl was ↦ (was.0, was.1, stays fs f was.0 was.1 was.2, was.3, was.4)
        | inr one ↦ (length fs, f, last-is fs f, one.0, one.1.0)
      ]),
    )

-- the clauses have their numbers
pub clauses-numbered : HaveNumbersFrom 0 clauses
clauses-numbered = search

-- each clause has its place
pub listed : (c : Clause) → slice_get clauses (clause_index c) ≡ Some c
listed clause.NotADirectory = refl
listed c = refl

-- a clause is among the first of these
abbrev pub Passed : Clause → List Clause → ℕ → Type 0
Passed c items i = (k : ℕ) × (k < i) × (slice_get items k ≡ Some c)

-- at first none is passed
pub adds-first : (c : Clause) (n : ℕ) (items : List Clause) (P : Type 0) (a : Session) → AddsFinding c n (Passed c items 0 × P) a a
adds-first c n items P a m = (
  λ was. inl was,
  λ some. elim some [ inl was ↦ was | inr one ↦ absurd (let low = one.1.0.1 in omega (arith, low)) ],
)

-- one more clause is passed
pub adds-next : (c : Clause) (n : ℕ) (items : List Clause) (i : ℕ) (d : Clause) (P : Type 0) (a b e : Session) → i < length items
    → AddsFinding c n (Passed c items i × P) a b → AddsFinding c n ((get_or items i d ≡ c) × P) b e
    → AddsFinding c n (Passed c items (i + 1) × P) a e
adds-next c n items i d P a b e within first more m = (
  λ now. elim ((more m).0 now) [
    | inl before ↦ elim ((first m).0 before) [
      | inl was ↦ inl was
      | inr one ↦ let low : one.1.0.0 < i = one.1.0.1 in inr (one.0, ((one.1.0.0, omega (arith, low), one.1.0.2), one.1.1))
    ]
    | inr one ↦ inr (one.0, ((i, omega arith, slice_get-get_or items i d within ∙ ap Some one.1.0), one.1.1))
  ],
  λ some. elim some [
    | inl was ↦ (more m).1 (inl ((first m).1 (inl was)))
    | inr one ↦ elim (cases_lt one.1.0.0 i) [
      | inl low ↦ (more m).1 (inl ((first m).1 (inr (one.0, ((one.1.0.0, low, one.1.0.2), one.1.1)))))
      | inr high ↦
          let below : one.1.0.0 < i + 1 = one.1.0.1 in
          let last : one.1.0.0 ≡ i = omega (arith, below, high) in
          let is : slice_get items i ≡ Some c = subst (λ k. slice_get items k ≡ Some c) last one.1.0.2 in
          (more m).1 (inr (one.0, (get_or_from_slice_get items i c d is, one.1.1)))
    ]
  ],
)

-- all are passed
pub adds-all : (c : Clause) (n i : ℕ) (P Q : Type 0) (a b : Session) → length clauses ≤ i → (P ↔ Q)
    → AddsFinding c n (Passed c clauses i × P) a b → AddsFinding c n Q a b
adds-all c n i P Q a b end same adds m = (
  λ now. elim ((adds m).0 now) [
    | inl was ↦ inl was
    | inr one ↦ inr (one.0, same.0 one.1.1)
  ],
  λ some. elim some [
    | inl was ↦ (adds m).1 (inl was)
    | inr one ↦
        let within : clause_index c < length clauses = slice_get_within clauses (clause_index c) c (listed c) in
        (adds m).1 (inr (one.0, ((clause_index c, omega (arith, within, end), listed c), same.1 one.1)))
  ],
)

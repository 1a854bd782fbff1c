-- Fewer elements pass a narrower test if one passes the wider alone.
use Rattle.std.proofs.Common.{ℕ, zero, suc, ◌≡◌, ◌≢◌, ◌<◌, ◌≤◌, ◌==◌, ◌↔◌, Bool, true, false, cond, ◌&&◌, List, [], ◌∷◌, length, get_or, count_by, Any, Contains}
use Rattle.std.proofs.Common.{refl, sym, ◌∙◌, arith}
use Rattle.std.proofs.lemmas.Bool.{eq-eqb, eqb-true}
use Rattle.std.proofs.lemmas.List.Sums.{sum_by-cons}
use Rattle.md_name.specs.Names.{unique_of}
use Rattle.std.proofs.lemmas.Slice.Eq.{bytes_eq-Decides}
use Rattle.md_system.specs.Checks.{is_message, is_of, is_of_in, IsElsewhere}
use Rattle.md_system.specs.declared.seen.Seen.{Seen}

module _ {X : Type 0} (q r : X → Bool) where
  abbrev narrow : X → Bool
  narrow x = q x && r x

  abbrev Apart : X → Type 0
  Apart x = (q x ≡ true) × (r x ≡ false)

  fewer : (xs : List X) → count_by narrow xs ≤ count_by q xs
  fewer [] = omega arith
  fewer (x ∷ xs) =
      omega (arith, by (q x) (r x), fewer xs, sum_by-cons (λ (y : X). cond (narrow y) 1 0) x xs, sum_by-cons (λ (y : X). cond (q y) 1 0) x xs)
    where
      by : (b c : Bool) → cond (b && c) 1 0 ≤ cond b 1 0
      by true true = omega arith
      by true false = omega arith
      by false c = omega arith

  pub apart-from-less : (xs : List X) → count_by narrow xs < count_by q xs → Any Apart xs
  apart-from-less [] less = absurd (omega (arith, less))
  apart-from-less (x ∷ xs) less = by (q x) (r x) refl refl (apart-from-less xs)
    where
      as-many : (b c : Bool) → ◌≡◌ {A = ℕ} (cond (b && c) 1 0) (cond b 1 0) → q x ≡ b → r x ≡ c → count_by narrow xs < count_by q xs
      as-many b c same is-b is-c =
          let one : ◌≡◌ {A = ℕ} (cond (q x && r x) 1 0) (cond (q x) 1 0) = (λ i. cond (is-b i && is-c i) 1 0) ∙ same ∙ sym (λ i. cond (is-b i) 1 0) in
          omega (arith, less, one, sum_by-cons (λ (y : X). cond (narrow y) 1 0) x xs, sum_by-cons (λ (y : X). cond (q y) 1 0) x xs)

      later : Any Apart xs → Any Apart (x ∷ xs)
      later some = (suc some.0, some.1, omega (arith, some.2), some.3, some.4)

      by : (b c : Bool) → q x ≡ b → r x ≡ c → (count_by narrow xs < count_by q xs → Any Apart xs) → Any Apart (x ∷ xs)
      by true false is-b is-c rest = (0, x, omega arith, refl, (is-b, is-c))
      by true true is-b is-c rest = later (rest (as-many true true refl is-b is-c))
      by false c is-b is-c rest = later (rest (as-many false c refl is-b is-c))

  pub less-from-apart : (xs : List X) (k : ℕ) (x : X) → k < length xs → get_or xs k x ≡ x → Apart x → count_by narrow xs < count_by q xs
  less-from-apart [] k x within is apart = absurd (omega arith)
  less-from-apart (y ∷ ys) zero x within is apart =
      let more : ◌≡◌ {A = ℕ} (cond (q y && r y) 1 0) 0 =
      (λ i. cond (q (is i) && r (is i)) 1 0) ∙ (λ i. cond (apart.0 i && apart.1 i) 1 0) in
      let one : ◌≡◌ {A = ℕ} (cond (q y) 1 0) 1 = (λ i. cond (q (is i)) 1 0) ∙ (λ i. cond (apart.0 i) 1 0) in
      omega (arith, more, one, fewer ys, sum_by-cons (λ (y : X). cond (narrow y) 1 0) y ys, sum_by-cons (λ (y : X). cond (q y) 1 0) y ys)
  less-from-apart (y ∷ ys) (suc k) x within is apart =
      omega (
        arith,
        less-from-apart ys k x (omega arith) is apart,
        fewer (y ∷ []),
        sum_by-cons (λ (y : X). cond (narrow y) 1 0) y ys,
        sum_by-cons (λ (y : X). cond (q y) 1 0) y ys,
        sum_by-cons (λ (y : X). cond (narrow y) 1 0) y [],
        sum_by-cons (λ (y : X). cond (q y) 1 0) y [],
      )

apart-by : (a b : ℕ) → ((a == b) ≡ false) ↔ (a ≢ b)
apart-by a b = (λ test same. cc (test, eq-eqb a b same), by (a == b) refl)
  where
    by : (t : Bool) → (a == b) ≡ t → a ≢ b → t ≡ false
    by true is apart = absurd (apart (eqb-true a b is))
    by false is apart = refl

-- a message of another folder has the unique name if more have it everywhere than in this folder
pub elsewhere : (one : Seen) (all : List Seen) →
    (count_by (is_of_in one.folder (unique_of one.name)) all < count_by (is_of (unique_of one.name)) all) ↔ Any (IsElsewhere one) all
elsewhere one all = (
  λ less. let some = apart-from-less (is_of (unique_of one.name)) (λ (other : Seen). other.folder == one.folder) all less in
      (some.0, some.1, some.2, some.3, (some.4.0, (apart-by some.1.folder one.folder).0 some.4.1)),
  λ some. less-from-apart (is_of (unique_of one.name)) (λ (other : Seen). other.folder == one.folder) all some.0 some.1 some.2 some.3
      (some.4.0, (apart-by some.1.folder one.folder).1 some.4.1),
)

-- a message that is among these is one of its unique name in its folder
itself : (one : Seen) → is_message one ≡ true → is_of_in one.folder (unique_of one.name) one ≡ true
itself one message = λ i. (message i && (bytes_eq-Decides (unique_of one.name) (unique_of one.name)).1 refl i) && eq-eqb one.folder one.folder refl i

-- a message that is twice in its folder has a twin
pub twin-if-twice : (one : Seen) (all : List Seen) → 1 < count_by (is_of_in one.folder (unique_of one.name)) all
    → 1 < count_by (is_of (unique_of one.name)) all
twin-if-twice one all twice = omega (arith, twice, fewer (is_of (unique_of one.name)) (λ (other : Seen). other.folder == one.folder) all)

-- and so has one that is in another folder too
pub twin-if-elsewhere : (one : Seen) (all : List Seen) → Contains all one → is_message one ≡ true → Any (IsElsewhere one) all
    → 1 < count_by (is_of (unique_of one.name)) all
twin-if-elsewhere one all here message some =
    let less = (elsewhere one all).1 some in
    let self = less-from-apart (is_of_in one.folder (unique_of one.name)) (λ (other : Seen). false) all here.0 one here.1 here.2 (itself one message, refl) in
    omega (arith, less, self)

-- That some paths name a file of which a test holds is told by their count.
use Rattle.std.proofs.Common.{ℕ, ◌≡◌, ◌↔◌, ◌<◌, ◌+◌, inl, inr, cond, nat_lt, List, [], ◌∷◌, Some, Bool, true, false, refl, sym, ap, ◌∙◌, arith}
use Rattle.std.specs.Bool.{Decides}
use Rattle.std.specs.List.{count_by}
use Rattle.std.specs.FinMap as finmap
use Rattle.std.proofs.lemmas.Bool.Decides.{Decides-eqb, Decides-ltb, Decides-and, Decides-like}
use Rattle.std.proofs.lemmas.List.Sums.{sum_by-cons}
use Rattle.md_dirs.specs.State.{State, file_at}
use Rattle.md_dirs.specs.declared.paths.Path.{Path}
use Rattle.md_dirs.proofs.PathOrder.{path_total, path_exact}
use Rattle.lists.proofs.Members.{Has, get-has, has-get}
use Rattle.md_law.specs.Messages.{is_message, IsSeen}
use Rattle.md_monitor.specs.Files.{count_where, times, is_seen}

-- an element of which the test holds, or none
pub counted : {X : Type 0} (test : X → Bool) (xs : List X) → (0 < count_by test xs) ↔ ((x : X) × Has xs x × (test x ≡ true))
counted test [] = (λ some. absurd (omega arith), λ h. absurd h.1)
counted test (y ∷ xs) = by (counted test xs) (test y) refl
  where
    count : count_by test (y ∷ xs) ≡ cond (test y) 1 0 + count_by test xs
    count = sum_by-cons (λ x. cond (test x) 1 0) y xs

    by : (0 < count_by test xs) ↔ ((x : _) × Has xs x × (test x ≡ true)) → (b : Bool) → test y ≡ b
        → (0 < count_by test (y ∷ xs)) ↔ ((x : _) × Has (y ∷ xs) x × (test x ≡ true))
    by rest true holds = (
      λ some. (y, inl refl, holds),
      λ h. let one = count ∙ ap (λ b. cond b 1 0 + count_by test xs) holds in omega (arith, one),
    )
    by rest false fails =
        let less = count ∙ ap (λ b. cond b 1 0 + count_by test xs) fails in (
          λ some. let it = rest.0 (omega (arith, less)) in (it.0, inr it.1, it.2),
          λ (x, has, holds). elim has [
            | inl same ↦ let here = ap test (sym same) in absurd (cc)
            | inr later ↦ let some = rest.1 (x, later, holds) in omega (arith, less)
          ],
        )

-- some path with its file, of which the test holds
pub some-where : (test : Path × ℕ → Bool) (P : Path → ℕ → Type 0) → ((e : Path × ℕ) → Decides (test e) (P e.0 e.1)) → (s : State)
    → Decides (nat_lt 0 (count_where test s)) ((p : Path) × (n : ℕ) × (file_at s p ≡ Some n) × P p n)
some-where test P each s = Decides-like _
    (λ some. let at = (counted test (finmap.entries s.names)).0 some in
    (at.0.0, at.0.1, has-get path_total path_exact s.names at.0 at.1, (each at.0).0 at.2))
    (λ (p, n, there, holds). (counted test (finmap.entries s.names)).1
    ((p, n), get-has path_total path_exact s.names p n there, (each (p, n)).1 holds))
    (Decides-ltb 0 (count_where test s))

-- some path of which the test holds names the file
pub times-is : (test : Path → Bool) (P : Path → Type 0) → ((p : Path) → Decides (test p) (P p)) → (s : State) (n : ℕ)
    → Decides (nat_lt 0 (times test s n)) ((p : Path) × (file_at s p ≡ Some n) × P p)
times-is test P each s n = Decides-like _
    (λ (p, m, there, both). (p, there ∙ ap Some both.0, both.1))
    (λ (p, there, holds). (p, n, there, (refl, holds)))
    (some-where _ (λ p m. (m ≡ n) × P p) (λ e. Decides-and _ _ (Decides-eqb e.1 n) (each e.0)) s)

pub seen-is : (s : State) (n : ℕ) → Decides (is_seen s n) (IsSeen s n)
seen-is s n = times-is is_message (λ p. is_message p ≡ true) (λ p. (λ t. t, λ t. t)) s n

-- That there are two paths of which a test holds is told by their count.
use Rattle.std.proofs.Common.{ℕ, ◌≡◌, ◌≢◌, ◌<◌, ◌+◌, inl, inr, cond, nat_lt, List, [], ◌∷◌, Some, Bool, true, false, T, refl, sym, ap, ◌∙◌, arith}
use Rattle.std.specs.Bool.{Decides}
use Rattle.std.specs.List.{count_by}
use Rattle.std.specs.FinMap as finmap
use Rattle.std.specs.FinMap.{is_sorted, entries_sorted}
use Rattle.std.specs.FinMap.Entries.{below_all}
use Rattle.std.specs.declared.cmp.Ordering.TheVariants.{Less}
use Rattle.std.proofs.lemmas.Bool.Decides.{Decides-ltb, Decides-like}
use Rattle.std.proofs.lemmas.Cmp.{tied_itself}
use Rattle.std.proofs.lemmas.List.Sums.{sum_by-cons}
use Rattle.md_dirs.specs.Path.{path_cmp}
use Rattle.md_dirs.specs.State.{State, file_at}
use Rattle.md_dirs.specs.declared.paths.Path.{Path}
use Rattle.md_dirs.proofs.PathOrder.{path_total, path_exact}
use Rattle.lists.proofs.Booleans.{first, second}
use Rattle.lists.proofs.Orders.{less}
use Rattle.lists.proofs.Maps as maps
use Rattle.lists.proofs.Members.{Has, get-has, has-get}
use Rattle.md_monitor.specs.Files.{count_where}
use Rattle.md_monitor.proofs.Seeing.{counted}

-- a path with its file
abbrev Entry : Type 0
Entry = Path × ℕ

-- a path that is below another is not that one
apart : (q p : Path) → path_cmp q p ≡ Less → q ≢ p
apart q p below same =
    let tie = tied_itself path_total q in
    let itself : path_cmp q q ≡ Less = ap (path_cmp q) same ∙ below in
    cc

-- a path that is below all of a list is none of them
other-above : (q : Path) (es : List Entry) (f : Entry) → T (below_all path_cmp q es) → Has es f → q ≢ f.0
other-above q [] f low has = absurd has
other-above q (e ∷ es) f low (inl is) = λ same. apart q e.0 (less _ (first _ _ low)) (same ∙ ap (λ (x : Entry). x.0) is)
other-above q (e ∷ es) f low (inr later) = other-above q es f (second _ _ low) later

module _ (test : Entry → Bool) where
  count : (y : Entry) (es : List Entry) (b : Bool) → test y ≡ b → count_by test (y ∷ es) ≡ cond b 1 0 + count_by test es
  count y es b is = sum_by-cons (λ x. cond (test x) 1 0) y es ∙ ap (λ t. cond t 1 0 + count_by test es) is

  -- two entries of which the test holds
  abbrev Two : List Entry → Type 0
  Two es = (e f : Entry) × Has es e × Has es f × (e.0 ≢ f.0) × (test e ≡ true) × (test f ≡ true)

  two : (es : List Entry) → T (is_sorted path_cmp es) → 1 < count_by test es → Two es
  two [] sorted more = absurd (omega arith)
  two (y ∷ es) sorted more = by (two es (second _ _ sorted)) (test y) refl
    where
      by : (1 < count_by test es → Two es) → (b : Bool) → test y ≡ b → Two (y ∷ es)
      by rest true is =
          let size = count y es true is in
          let it = (counted test es).0 (omega (arith, size)) in
          (y, it.0, inl refl, inr it.1, other-above y.0 es it.0 (first _ _ sorted) it.1, is, it.2)
      by rest false is =
          let size = count y es false is in
          let it = rest (omega (arith, size)) in
          (it.0, it.1, inr it.2, inr it.3, it.4, it.5, it.6)

  more : (es : List Entry) (e f : Entry) → Has es e → Has es f → e.0 ≢ f.0 → test e ≡ true → test f ≡ true → 1 < count_by test es
  more [] e f has has' other holds holds' = absurd has
  more (y ∷ es) e f (inl is) (inl is') other holds holds' = absurd (other (ap (λ (x : Entry). x.0) (is ∙ sym is')))
  more (y ∷ es) e f (inl is) (inr later) other holds holds' =
      let size = count y es true (ap test (sym is) ∙ holds) in
      let some = (counted test es).1 (f, later, holds') in
      omega (arith, size, some)
  more (y ∷ es) e f (inr later) (inl is) other holds holds' =
      let size = count y es true (ap test (sym is) ∙ holds') in
      let some = (counted test es).1 (e, later, holds) in
      omega (arith, size, some)
  more (y ∷ es) e f (inr later) (inr later') other holds holds' =
      let size = sum_by-cons (λ x. cond (test x) 1 0) y es in
      let rest = more es e f later later' other holds holds' in
      omega (arith, size, rest)

-- beside a path of which the test holds there is another of which it holds
pub another-is : (test : Entry → Bool) (P : Path → ℕ → Type 0) → ((e : Entry) → Decides (test e) (P e.0 e.1))
    → (s : State) (p : Path) (m : ℕ) → file_at s p ≡ Some m → P p m
    → Decides (nat_lt 1 (count_where test s)) ((q : Path) × (n : ℕ) × (p ≢ q) × (file_at s q ≡ Some n) × P q n)
another-is test P each s p m there holds = Decides-like _ (λ some. to (two test (finmap.entries s.names) (entries_sorted s.names) some))
    (λ (q, n, other, there', holds'). more test (finmap.entries s.names) (p, m) (q, n)
    (get-has path_total path_exact s.names p m there) (get-has path_total path_exact s.names q n there') other
    ((each (p, m)).1 holds) ((each (q, n)).1 holds'))
    (Decides-ltb 1 (count_where test s))
  where
    to : Two test (finmap.entries s.names) → (q : Path) × (n : ℕ) × (p ≢ q) × (file_at s q ≡ Some n) × P q n
    to (e, f, has, has', other, holds, holds') = maps.by_key path_total path_exact p e.0
        (λ same. (f.0, f.1, λ one. other (sym same ∙ one), has-get path_total path_exact s.names f has', (each f).0 holds'))
        (λ not. (e.0, e.1, not, has-get path_total path_exact s.names e has, (each e).0 holds))

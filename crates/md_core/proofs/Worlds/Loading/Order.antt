-- The entries of directories in their order: all before a directory, then those in it.
use Rattle.std.proofs.Common.{ℕ, ◌≡◌, ◌<◌, ◌≤◌, ◌+◌, ◌⊎◌, inl, inr, List, [], ◌∷◌, ◌++◌, Bool, true, false, cond, T, not, ◌&&◌, ◌||◌, ◌==◌, nat_lt, filter, refl, sym, ap, ◌∙◌, arith}
use Rattle.std.specs.declared.cmp.Ordering.{Ordering}
use Rattle.std.specs.declared.cmp.Ordering.TheVariants.{Less, Equal, Greater}
use Rattle.std.specs.Ordering.{nat_cmp, ordering_then, is_lt}
use Rattle.std.specs.FinMap.Entries.{below_all}
use Rattle.std.proofs.lemmas.Bool.Decides.{nat_tests}
use Rattle.md_core.proofs.Values.{State, IsSound, Path, Place, Tmp, path_cmp, place_index, is_in, is_sorted, entries, entries_sorted, is_before, entries_before}
use Rattle.md_dirs.proofs.PathOrder.{path_total, path_exact}
use Rattle.lists.proofs.Members.{Has, has-get}

-- ---- lists cut by two tests

pub first : (a b : Bool) → T (a && b) → T a
first true b p = tt
first false b p = p

pub second : (a b : Bool) → T (a && b) → T b
second true b p = p
second false b p = absurd p

pub less : (o : Ordering) → T (is_lt o) → o ≡ Less
less Less p = refl
less other p = absurd p

pub same_filter : {X : Type 0} (p q : X → Bool) (es : List X) → ((x : X) → Has es x → p x ≡ q x) → filter p es ≡ filter q es
same_filter p q [] same = refl
same_filter p q (e ∷ es) same = let rest = same_filter p q es (λ x has. same x (inr has)) in (λ i. cond (same e (inl refl) i) (e ∷ rest i) (rest i))

pub all_filter : {X : Type 0} (es : List X) → filter (λ _. true) es ≡ es
all_filter [] = refl
all_filter (e ∷ es) = ap (λ xs. e ∷ xs) (all_filter es)

pub none_filter : {X : Type 0} (es : List X) → filter (λ _. false) es ≡ []
none_filter [] = refl
none_filter (e ∷ es) = none_filter es

module _ (before here : Path → Bool) (late : (x y : Path) → path_cmp x y ≡ Less → here x ≡ true → before y ≡ false) (apart : (x : Path) →
    here x ≡ true → before x ≡ false) where
  -- behind what is here nothing comes before
  none_before : (x : Path) → here x ≡ true → (es : List (Path × ℕ)) → T (below_all path_cmp x es) → filter (λ e. before e.0) es ≡ []
  none_before x h [] below = refl
  none_before x h (e ∷ es) below =
      ap (λ b. cond b (e ∷ filter (λ y. before y.0) es) (filter (λ y. before y.0) es)) (late x e.0 (less _ (first _ _ below)) h)
      ∙ none_before x h es (second _ _ below)

  pub cut : (es : List (Path × ℕ)) → T (is_sorted path_cmp es) →
      filter (λ e. before e.0 || here e.0) es ≡ filter (λ e. before e.0) es ++ filter (λ e. here e.0) es
  cut [] sorted = refl
  cut (e ∷ es) sorted = by (before e.0) (here e.0) refl refl (cut es (second _ _ sorted))
    where
      by : (b h : Bool) → before e.0 ≡ b → here e.0 ≡ h → filter (λ x. before x.0 || here x.0) es ≡ filter (λ x. before x.0) es ++ filter (λ x. here x.0) es →
          cond (b || h) (e ∷ filter (λ x. before x.0 || here x.0) es) (filter (λ x. before x.0 || here x.0) es)
          ≡ cond b (e ∷ filter (λ x. before x.0) es) (filter (λ x. before x.0) es) ++ cond h (e ∷ filter (λ x. here x.0) es) (filter (λ x. here x.0) es)
      by true true is at rest = let no = apart e.0 at in cc
      by true false is at rest = ap (λ xs. e ∷ xs) rest
      by false true is at rest =
          let none = none_before e.0 at es (first _ _ sorted) in
          ap (λ xs. e ∷ xs) rest ∙ ap (λ xs. e ∷ (xs ++ filter (λ x. here x.0) es)) none ∙ ap (λ xs. xs ++ e ∷ filter (λ x. here x.0) es) (sym none)
      by false false is at rest = rest

-- ---- the order of paths is by folder and place first

less_then : (o next : Ordering) → ordering_then o next ≡ Less → (o ≡ Less) ⊎ ((o ≡ Equal) × (next ≡ Less))
less_then Less next is = inl refl
less_then Equal next is = inr (refl, is)
less_then Greater next is = cc

below_of : (a b : ℕ) → nat_cmp a b ≡ Less → a < b
below_of a b is = grind (arith, nat_tests)

same_of : (a b : ℕ) → nat_cmp a b ≡ Equal → a ≡ b
same_of a b is = grind (arith, nat_tests)

path-less : (x y : Path) → path_cmp x y ≡ Less → (x.folder < y.folder) ⊎ ((x.folder ≡ y.folder) × (place_index x.place ≤ place_index y.place))
path-less x y is = elim (less_then (nat_cmp x.folder y.folder) _ is) [
  | inl below ↦ inl (below_of x.folder y.folder below)
  | inr (same, next) ↦ inr (
    same_of x.folder y.folder same,
    elim (less_then (nat_cmp (place_index x.place) (place_index y.place)) _ next) [
      | inl below ↦ omega (arith, below_of (place_index x.place) (place_index y.place) below)
      | inr (equal, rest) ↦ omega (arith, same_of (place_index x.place) (place_index y.place) equal)
    ],
  )
]

late_by : (a b c d f i : ℕ) → (a < c) ⊎ ((a ≡ c) × (b ≤ d)) → (nat_lt a f || (a == f && nat_lt b i)) ≡ false → (nat_lt c f || (c == f && nat_lt d i)) ≡ false
late_by a b c d f i order is = grind (arith, nat_tests)

-- what follows a path that isn't before a directory isn't before it either
late : (f i : ℕ) (x y : Path) → path_cmp x y ≡ Less → is_before f i x ≡ false → is_before f i y ≡ false
late f i x y less is = late_by x.folder (place_index x.place) y.folder (place_index y.place) f i (path-less x y less) is

in_not_before : (a b f i : ℕ) → (a == f && b == i) ≡ true → (nat_lt a f || (a == f && nat_lt b i)) ≡ false
in_not_before a b f i is = grind (arith, nat_tests)

one_more : (a b f i : ℕ) → (nat_lt a f || (a == f && nat_lt b (i + 1))) ≡ ((nat_lt a f || (a == f && nat_lt b i)) || (a == f && b == i))
one_more a b f i = grind (arith, nat_tests)

next_folder : (a b f : ℕ) → b < 3 → (nat_lt a (f + 1) || (a == f + 1 && nat_lt b 0)) ≡ (nat_lt a f || (a == f && nat_lt b 3))
next_folder a b f within = grind (arith, nat_tests)

no_folder : (a b : ℕ) → (nat_lt a 0 || (a == 0 && nat_lt b 0)) ≡ false
no_folder a b = grind (arith, nat_tests)

below_folders : (a b f : ℕ) → a < f → (nat_lt a f || (a == f && nat_lt b 0)) ≡ true
below_folders a b f within = grind (arith, nat_tests)

place_within : (p : Place) → place_index p < 3
place_within Tmp = omega arith
place_within other = omega arith

turned : (b : Bool) → not b ≡ true → b ≡ false
turned true h = cc
turned false h = refl

either : (b : Bool) → true ≡ (b || not b)
either true = refl
either false = refl

-- ---- the entries of directories

module _ (s : State) where
  abbrev all : List (Path × ℕ)
  all = entries s.names

  -- the entries in a directory
  abbrev pub entries_in : ℕ → Place → List (Path × ℕ)
  entries_in f p = filter (λ e. is_in f p e.0) (entries s.names)

  pub before-none : entries_before s 0 0 ≡ []
  before-none = same_filter _ _ all (λ e _. no_folder e.0.folder (place_index e.0.place)) ∙ none_filter all

  pub before-more : (f : ℕ) (p : Place) → entries_before s f (place_index p + 1) ≡ entries_before s f (place_index p) ++ entries_in f p
  before-more f p =
      same_filter _ _ all (λ e _. one_more e.0.folder (place_index e.0.place) f (place_index p))
      ∙ cut (is_before f (place_index p)) (is_in f p)
      (λ x y less here. late f (place_index p) x y less (in_not_before x.folder (place_index x.place) f (place_index p) here))
      (λ x here. in_not_before x.folder (place_index x.place) f (place_index p) here)
      all (entries_sorted s.names)

  pub before-next : (f : ℕ) → entries_before s f 3 ≡ entries_before s (f + 1) 0
  before-next f = same_filter _ _ all (λ e _. sym (next_folder e.0.folder (place_index e.0.place) f (place_within e.0.place)))

  pub before-all : IsSound s → entries_before s s.folders 0 ≡ all
  before-all sound =
      same_filter _ _ all (λ e has. below_folders e.0.folder (place_index e.0.place) s.folders
      (sound.housed e.0 e.1 (has-get path_total path_exact s.names e has)))
      ∙ all_filter all

  -- the entries before a directory come first
  pub before-first : (f i : ℕ) → all ≡ entries_before s f i ++ filter (λ e. not (is_before f i e.0)) all
  before-first f i =
      sym (all_filter all)
      ∙ same_filter _ _ all (λ e _. either (is_before f i e.0))
      ∙ cut (is_before f i) (λ x. not (is_before f i x)) (λ x y less here. late f i x y less (turned _ here)) (λ x here. turned _ here) all
      (entries_sorted s.names)

-- What a quick look finds of names, and what that says of all directories.
use Rattle.std.proofs.Common.{ℕ, ◌≡◌, ◌≢◌, ◌+◌, ◌∙◌, inl, inr, List, [], ◌∷◌, ◌++◌, Option, Some, None, Bool, true, false, cond, not, is_some, ◌&&◌, ◌||◌, ◌==◌, IsSome, nat_lt, max, length, filter, refl, sym, ap, subst, arith}
use Rattle.std.proofs.lemmas.Bool.{cases_lt, or_parts, and_parts, not-true, eq-eqb, eqb-true}
use Rattle.std.proofs.lemmas.Bool.Decides.{nat_tests}
use Rattle.std.proofs.lemmas.List.Sorted.{list_any-IsPermutation}
use Rattle.std.proofs.lemmas.List.Sums.{fold-append}
use Rattle.md_dirs.specs.Once.{HoldsEachOnce}
use Rattle.md_dirs.proofs.PathOrder.{path_total, path_exact}
use Rattle.md_core.proofs.Values.{State, IsSound, Place, Tmp, New, Cur, Row, file_at, file_by, path_of, is_in, rows_of, row_named, Path, unique_of, is_message_name, is_tmp, is_message, HasOnePath, stamp_of, first_clock, list_any, entries, is_bad_name, is_long_unique, load_refusal, IsQuickLook, AreBare, AreFree, AreSingle, has_fault, entries_before}
use Rattle.lists.proofs.Members.{Has, get-has}
use Rattle.md_core.proofs.Lists.Permuted.{greatest-moved}
use Rattle.md_core.proofs.Looking.LookUps.{in-path, no-row}
use Rattle.md_core.proofs.Settling.Loadable.{IsGoodPath, IsLoadable, loadable-loads}
use Rattle.md_core.proofs.Worlds.Loading.Loaded.{none-has, first-clock}
use Rattle.md_core.proofs.Worlds.Loading.Lying.{Follows, IsUnordered}
use Rattle.md_core.proofs.Worlds.Loading.Order.{entries_in, before-none}
use Rattle.md_core.proofs.Worlds.Submitted.{any-push}

-- ---- the folder of all messages

-- one folder more
pub bare-more : (s : State) (k only : ℕ) → AreBare s k only → length (rows_of s k New) ≡ 0 → length (rows_of s k Cur) ≡ 0 → AreBare s (k + 1) only
bare-more s k only bare no_new no_cur j place within plain differ = elim (cases_lt j k) [
  | inl below ↦ bare j place below plain differ
  | inr here ↦ let same : k ≡ j = omega (arith, here, within) in at place plain same
]
  where
    at : (place : Place) → is_tmp place ≡ false → k ≡ j → length (rows_of s j place) ≡ 0
    at Tmp plain same = cc
    at New plain same = subst (λ n. length (rows_of s n New) ≡ 0) same no_new
    at Cur plain same = subst (λ n. length (rows_of s n Cur) ≡ 0) same no_cur

-- one folder more that has a name, the first
pub bare-met : (s : State) (k : ℕ) → ((only : ℕ) → AreBare s k only) → AreBare s (k + 1) k
bare-met s k bare j place within plain differ = elim (cases_lt j k) [
  | inl below ↦ bare k j place below plain differ
  | inr here ↦ absurd (differ (omega (arith, here, within)))
]

-- ---- messages of one unique part

-- whether a name of the other directory has the unique part of a message
abbrev pub is_taken : State → ℕ → Place → Path → Bool
is_taken s folder other p = is_message_name p.name && is_some (row_named (unique_of p.name) (rows_of s folder other))

not-taken : (b : Bool) (o : Option Row) → (b ≡ true → o ≡ None) → (b && is_some o) ≡ false
not-taken true o none = ap is_some (none refl)
not-taken false o none = refl

-- what passes one test of a list of those that pass another
filtered-any : {X : Type 0} (p q : X → Bool) (xs : List X) (x : X) → list_any q (filter p xs) ≡ false → Has xs x → p x ≡ true → q x ≡ false
filtered-any p q [] x none has passes = absurd has
filtered-any p q (y ∷ xs) x none has passes = by (λ fewer later. filtered-any p q xs x fewer later passes) (p y) refl none
  where
    by : (list_any q (filter p xs) ≡ false → Has xs x → q x ≡ false) → (b : Bool) → p y ≡ b →
        list_any q (cond b (y ∷ filter p xs) (filter p xs)) ≡ false → q x ≡ false
    by rest true here none =
        let parts = or_parts (q y) (list_any q (filter p xs)) none in
        elim has [
          | inl is ↦ ap q is ∙ parts.0
          | inr later ↦ rest parts.1 later
        ]
    by rest false here none = elim has [
      | inl is ↦ let no : p x ≡ false = ap p is ∙ here in cc
      | inr later ↦ rest none later
    ]

none-more : {X : Type 0} (q : X → Bool) (xs : List X) (x : X) → list_any q xs ≡ false → q x ≡ false → list_any q (xs ++ x ∷ []) ≡ false
none-more q xs x none one = any-push q xs x ∙ (λ i. none i || one i)

module _ (s : State) (folder : ℕ) (place other : Place) where
  -- no entry's name is taken
  abbrev pub AreUntaken : List (Path × ℕ) → Type 0
  AreUntaken es = list_any (λ e. is_taken s folder other e.0) es ≡ false

  pub free-more : (r : Row) → (is_message_name r.name ≡ true → row_named (unique_of r.name) (rows_of s folder other) ≡ None) →
      Follows s folder place r AreUntaken AreUntaken
  free-more r free es e path stamp none =
      none-more (λ x. is_taken s folder other x.0) es e none
      (ap (is_taken s folder other) path ∙ not-taken (is_message_name r.name) (row_named (unique_of r.name) (rows_of s folder other)) free)

  pub free-moved : IsUnordered AreUntaken
  free-moved es fs moved none = list_any-IsPermutation (λ e. is_taken s folder other e.0) es fs moved ∙ none

  pub free-all : AreUntaken (entries_in s folder place) → AreFree s folder place other
  free-all untaken name n there message =
      let has = get-has path_total path_exact s.names (path_of folder place name) n there in
      let free : is_taken s folder other (path_of folder place name) ≡ false =
      filtered-any (λ e. is_in folder place e.0) (λ e. is_taken s folder other e.0) (entries s.names) (path_of folder place name, n)
      untaken has (in-path folder place name) in
      none (row_named (unique_of name) (rows_of s folder other))
      (ap (λ b. b && is_some (row_named (unique_of name) (rows_of s folder other))) (sym message) ∙ free)
    where
      none : (o : Option Row) → is_some o ≡ false → o ≡ None
      none None is = refl
      none (Some row) is = cc

-- ---- all messages

module _ (s : State) (only : ℕ) (bare : AreBare s s.folders only) (single : AreSingle s only) (sound : IsSound s) where
  -- a message is in the one folder
  in-only : (p : Path) (n : ℕ) → file_at s p ≡ Some n → is_tmp p.place ≡ false → p.folder ≡ only
  in-only p n there plain = by (p.folder == only) refl
    where
      empty : (rows : List Row) → length rows ≡ 0 → row_named (unique_of p.name) rows ≡ None
      empty [] none = refl
      empty (row ∷ rows) none = absurd (omega (arith, none))

      by : (b : Bool) → (p.folder == only) ≡ b → p.folder ≡ only
      by true is = eqb-true _ _ is
      by false is =
          let differ : p.folder ≢ only = λ same. let yes = eq-eqb p.folder only same in cc in
          let none = bare p.folder p.place (sound.housed p n there) plain differ in
          absurd (no-row s p.folder p.place (unique_of p.name) (empty (rows_of s p.folder p.place) none) p.name n there refl)

  apart : (p q : Place) → AreFree s only p q → (a b : List ℕ) (m n : ℕ) → file_at s (path_of only p a) ≡ Some m → file_at s (path_of only q b) ≡ Some n →
      is_message_name a ≡ true → unique_of b ≢ unique_of a
  apart p q free a b m n there there' message = no-row s only q (unique_of a) (free a m there message) b n there'

  some : (o : Option ℕ) (n : ℕ) → o ≡ Some n → IsSome o
  some None n is = cc
  some (Some m) n is = refl

  once : (place : Place) → HoldsEachOnce s only place → (a b : List ℕ) (m n : ℕ) → file_at s (path_of only place a) ≡ Some m →
      file_at s (path_of only place b) ≡ Some n → unique_of a ≡ unique_of b → path_of only place a ≡ path_of only place b
  once place each a b m n there there' same =
      ap (path_of only place) (each a b (some (file_at s (path_of only place a)) m there) (some (file_at s (path_of only place b)) n there') same)

  one-of : (p q : Place) (a b : List ℕ) (m n : ℕ) → file_at s (path_of only p a) ≡ Some m → file_at s (path_of only q b) ≡ Some n →
      is_tmp p ≡ false → is_tmp q ≡ false → is_message_name a ≡ true → is_message_name b ≡ true → unique_of a ≡ unique_of b →
      path_of only p a ≡ path_of only q b
  one-of Tmp q a b m n there there' plain plain' message message' same = cc
  one-of New Tmp a b m n there there' plain plain' message message' same = cc
  one-of Cur Tmp a b m n there there' plain plain' message message' same = cc
  one-of New New a b m n there there' plain plain' message message' same = once New single.new a b m n there there' same
  one-of Cur Cur a b m n there there' plain plain' message message' same = once Cur single.cur a b m n there there' same
  one-of New Cur a b m n there there' plain plain' message message' same = elim single.free [
    | inl free ↦ absurd (apart New Cur free a b m n there there' message (sym same))
    | inr free ↦ absurd (apart Cur New free b a n m there' there message' same)
  ]
  one-of Cur New a b m n there there' plain plain' message message' same = elim single.free [
    | inl free ↦ absurd (apart New Cur free b a n m there' there message' same)
    | inr free ↦ absurd (apart Cur New free a b m n there there' message (sym same))
  ]

  plain-of : (p : Path) → is_message p ≡ true → (is_tmp p.place ≡ false) × (is_message_name p.name ≡ true)
  plain-of p message =
      let parts = and_parts (not (is_tmp p.place)) (is_message_name p.name) message in
      (not-true (is_tmp p.place) parts.0, parts.1)

  pub one-path : HasOnePath s
  one-path p q m n there there' message message' same =
      let a = plain-of p message in
      let b = plain-of q message' in
      let here : p ≡ path_of only p.place p.name = λ i. record { folder = in-only p m there a.0 i; place = p.place; name = p.name } in
      let here' : q ≡ path_of only q.place q.name = λ i. record { folder = in-only q n there' b.0 i; place = q.place; name = q.name } in
      here ∙ one-of p.place q.place p.name q.name m n (ap (file_at s) (sym here) ∙ there) (ap (file_at s) (sym here') ∙ there') a.0 b.0 a.1 b.1 same
      ∙ sym here'

  -- so no name has a fault
  module _ (found : ℕ) (look : IsQuickLook s (entries s.names) found) where
    good-path : (p : Path) → has_fault p ≡ false → IsGoodPath p
    good-path p none =
        let parts = or_parts (is_bad_name p.name) (is_long_unique p) none in
        record {
          name = parts.0;
          short = λ message.
              let long : nat_lt 200 (length (unique_of p.name)) ≡ false =
              ap (λ b. b && nat_lt 200 (length (unique_of p.name))) (sym message) ∙ parts.1 in
              grind (arith, nat_tests);
        }

    loadable : IsLoadable s (first_clock s)
    loadable = record {
      good = λ p n there. good-path p (none-has (λ e. has_fault e.0) (entries s.names) (p, n) look.good (get-has path_total path_exact s.names p n there));
      stamped = λ p n there. first-clock s p n there;
    }

    pub quick-loads : load_refusal s ≡ None
    quick-loads = loadable-loads s (first_clock s) loadable one-path

-- ---- one directory

pub quick-more : (s : State) (folder : ℕ) (place : Place) (r : Row) (found : ℕ) → ((other : Place) → has_fault (path_of 0 other r.name) ≡ false) →
    Follows s folder place r (λ es. IsQuickLook s es found) (λ es. IsQuickLook s es (max found r.stamp))
quick-more s folder place r found good es e path stamp look = record {
  clock = (λ i. max (look.clock i) (sym stamp i)) ∙ sym (fold-append (λ c (x : Path × ℕ). max c (stamp_of (file_by s.files x.1))) 0 es (e ∷ []));
  good = none-more (λ x. has_fault x.0) es e look.good (ap has_fault path ∙ good place);
}

pub quick-moved : (s : State) (found : ℕ) → IsUnordered (λ es. IsQuickLook s es found)
quick-moved s found es fs moved look = record {
  clock = look.clock ∙ greatest-moved (λ (e : Path × ℕ). stamp_of (file_by s.files e.1)) 0 es fs moved;
  good = list_any-IsPermutation (λ e. has_fault e.0) es fs moved ∙ look.good;
}

pub quick-none : (s : State) → IsQuickLook s (entries_before s 0 0) 0
quick-none s = subst (λ es. IsQuickLook s es 0) (sym (before-none s)) (record { clock = refl; good = refl })

-- What is kept of a thing says at which moments it was there, and goes on by steps.
use Rattle.std.proofs.Common.{ℕ, zero, suc, ◌≡◌, ◌+◌, ◌<◌, ◌≤◌, ◌++◌, ◌∷◌, ◌&&◌, ◌||◌, ◌⊎◌, inl, inr, [], List, Option, Some, None, Bool, true, false, not, cond, nat_le, slice_get, length, refl, sym, ap, ◌∙◌, arith}
use Rattle.std.proofs.Math.Bool.{or-false}
use Rattle.std.proofs.lemmas.Bool.{le-leb, lt-leb}
use Rattle.std.proofs.lemmas.List.Folds.{list_all-append, list_any-append}
use Rattle.std.proofs.lemmas.Option.{slice_get_within}
use Rattle.std.specs.List.{list_all, list_any}
use Rattle.md_watch.specs.declared.spells.Spell.{Spell}
use Rattle.md_watch.specs.Spells.{since_of, ended_of, was_through, always_by, ever_by, Passes, IsTimely}

-- ---- a last time

-- a time after the others decides, or leaves it to them
turned : (a b all after before were : Bool) → ((a && (b && (all && (after && true)))) || (after && (before || were)))
    ≡ (after && (before || ((a && (b && all)) || were)))
turned false b all after before were = refl
turned true false all after before were = refl
turned true true false after before were = refl
turned true true true false before were = refl
turned true true true true false were = refl
turned true true true true true were = refl

abbrev pub ends : ℕ → ℕ × ℕ → Bool
ends last t = nat_le last t.1

module _ (first last : ℕ) where
  one : (t : ℕ × ℕ) → was_through (t ∷ []) first last ≡ (ends last t && nat_le t.0 first)
  one t = by (nat_le t.0 first) (ends last t)
    where
      by : (a b : Bool) → ((a && (b && true)) || false) ≡ (b && a)
      by false false = refl
      by false true = refl
      by true false = refl
      by true true = refl

  -- a last time decides, or leaves it to the earlier ones
  pub last-time : (times : List (ℕ × ℕ)) (t : ℕ × ℕ)
      → was_through (times ++ t ∷ []) first last ≡ (ends last t && (nat_le t.0 first || was_through times first last))
  last-time [] t = one t ∙ by (nat_le t.0 first)
    where
      by : (a : Bool) → (ends last t && a) ≡ (ends last t && (a || false))
      by false = refl
      by true = refl
  last-time (s ∷ times) t =
      let all = list_all-append (ends last) times (t ∷ []) in
      let rest = last-time times t in
      ap (λ (b : Bool). (nat_le s.0 first && (ends last s && b)) || was_through (times ++ t ∷ []) first last) all
      ∙ ap (λ (b : Bool). (nat_le s.0 first && (ends last s && (list_all (ends last) times && (ends last t && true)))) || b) rest
      ∙ turned (nat_le s.0 first) (ends last s) (list_all (ends last) times) (ends last t) (nat_le t.0 first) (was_through times first last)

-- ---- times that all ended before a moment

abbrev EndBefore : ℕ → List (ℕ × ℕ) → Type 0
EndBefore last times = (k : ℕ) (t : ℕ × ℕ) → slice_get times k ≡ Some t → t.1 < last

-- none of them goes through to it
none-through : (times : List (ℕ × ℕ)) (first last : ℕ) → EndBefore last times → was_through times first last ≡ false
none-through [] first last before = refl
none-through (t ∷ times) first last before =
    by (nat_le t.0 first) (nat_le last t.1) (list_all (λ (s : ℕ × ℕ). nat_le last s.1) times) (was_through times first last)
    (lt-leb last t.1 (before 0 t refl)) (none-through times first last (λ k u is. before (suc k) u is))
  where
    by : (a b c d : Bool) → b ≡ false → d ≡ false → ((a && (b && c)) || d) ≡ false
    by false b c d none rest = rest
    by true b c d none rest = cc

-- and none of them was later
none-later : (times : List (ℕ × ℕ)) (last : ℕ) → EndBefore last times → list_any (λ (t : ℕ × ℕ). nat_le last t.1) times ≡ false
none-later [] last before = refl
none-later (t ∷ times) last before =
    let here = lt-leb last t.1 (before 0 t refl) in
    let rest = none-later times last (λ k u is. before (suc k) u is) in
    cc (here, rest)

-- ---- a time that is added

moved : (ts us : List (ℕ × ℕ)) → ts ≡ us → (k : ℕ) (t : ℕ × ℕ) → slice_get ts k ≡ Some t → slice_get us k ≡ Some t
moved ts us same k t at = sym (ap (λ xs. slice_get xs k) same) ∙ at

-- it is the last
pushed : (ts : List (ℕ × ℕ)) (u : ℕ × ℕ) (k : ℕ) (t : ℕ × ℕ) → slice_get (ts ++ u ∷ []) k ≡ Some t
    → (slice_get ts k ≡ Some t) ⊎ ((k ≡ length ts) × (u ≡ t))
pushed [] u zero t at = inr (refl, cc at)
pushed [] u (suc k) t at = absurd (cc at)
pushed (s ∷ ts) u zero t at = inl at
pushed (s ∷ ts) u (suc k) t at = elim (pushed ts u k t at) [ inl old ↦ inl old | inr both ↦ inr (ap suc both.0, both.1) ]

-- ---- each time ended before now

ended-before : (n : ℕ) (is : Bool) (o : Option Spell) → IsTimely n is o → EndBefore n (ended_of o)
ended-before n true o timely k t at = let apart = timely.apart refl k t at in let begun = timely.begun refl in omega (arith, apart, begun)
ended-before n false o timely k t at = timely.gone refl k t at

-- ---- how it goes on

pub timely-none : (n : ℕ) (is : Bool) → IsTimely n is None
timely-none n is = record {
  begun = λ there. omega arith;
  apart = λ there k t at. absurd (cc at);
  gone = λ gone k t at. absurd (cc at);
  later = λ j k t u lt atJ atK. absurd (cc atJ);
}

pub passes-none : (b : Bool) (n : ℕ) (o : Option Spell) → Passes b b n o o
passes-none true n o = record { since = refl; ended = refl }
passes-none false n o = record { since = refl; ended = refl }

-- the times are apart from each other as before
same-later : (n : ℕ) (was : Bool) (o o' : Option Spell) → IsTimely n was o → ended_of o' ≡ ended_of o
    → (j k : ℕ) (t u : ℕ × ℕ) → j < k → slice_get (ended_of o') j ≡ Some t → slice_get (ended_of o') k ≡ Some u → t.1 + 1 < u.0
same-later n was o o' timely same j k t u lt atJ atK = timely.later j k t u lt (moved _ _ same j t atJ) (moved _ _ same k u atK)

-- whether it was there before the step, and is there after it: was (was is)
pub timely-next : (n : ℕ) (was is : Bool) (o o' : Option Spell) → IsTimely n was o → Passes was is n o o' → IsTimely (n + 1) is o'
timely-next n false false o o' timely passes = record {
  begun = λ there. absurd (cc there);
  apart = λ there k t at. absurd (cc there);
  gone = λ gone k t at. let lt = timely.gone refl k t (moved _ _ passes.ended k t at) in omega (arith, lt);
  later = same-later n false o o' timely passes.ended;
}
timely-next n true true o o' timely passes = record {
  begun = λ there. let low = timely.begun refl in let same = passes.since in omega (arith, low, same);
  apart = λ there k t at.
      let lt = timely.apart refl k t (moved _ _ passes.ended k t at) in let same = passes.since in omega (arith, lt, same);
  gone = λ gone k t at. absurd (cc gone);
  later = same-later n true o o' timely passes.ended;
}
timely-next n false true o o' timely passes = record {
  begun = λ there. let same = passes.since in omega (arith, same);
  apart = λ there k t at.
      let lt = timely.gone refl k t (moved _ _ passes.ended k t at) in let same = passes.since in omega (arith, lt, same);
  gone = λ gone k t at. absurd (cc gone);
  later = same-later n false o o' timely passes.ended;
}
timely-next n true false o o' timely passes = record {
  begun = λ there. absurd (cc there);
  apart = λ there k t at. absurd (cc there);
  gone = λ gone k t at. elim (parts k t at) [
    | inl old ↦ let lt = ended-before n true o timely k t old in omega (arith, lt)
    | inr new ↦ let end : n ≡ t.1 = ap (λ (p : ℕ × ℕ). p.1) new.1 in omega (arith, end)
  ];
  later = λ j k t u lt atJ atK. elim (parts k u atK) [
    | inl old ↦ elim (parts j t atJ) [
      | inl earlier ↦ timely.later j k t u lt earlier old
      | inr new ↦ let low = slice_get_within (ended_of o) k u old in let end = new.0 in absurd (omega (arith, lt, low, end))
    ]
    | inr new ↦ elim (parts j t atJ) [
      | inl earlier ↦
          let apart = timely.apart refl j t earlier in
          let begin : since_of o ≡ u.0 = ap (λ (p : ℕ × ℕ). p.0) new.1 in
          omega (arith, apart, begin)
      | inr both ↦ let end = new.0 in let other = both.0 in absurd (omega (arith, lt, end, other))
    ]
  ];
}
  where
    parts : (k : ℕ) (t : ℕ × ℕ) → slice_get (ended_of o') k ≡ Some t
        → (slice_get (ended_of o) k ≡ Some t) ⊎ ((k ≡ length (ended_of o)) × ((since_of o, n) ≡ t))
    parts k t at = pushed (ended_of o) (since_of o, n) k t (moved _ _ passes.ended k t at)

-- ---- at each moment

-- up to now it was there from a moment on
pub always-now : (n : ℕ) (is : Bool) (o : Option Spell) → IsTimely n is o → (first : ℕ) → first ≤ n
    → always_by is o first n ≡ (is && nat_le (since_of o) first)
always-now n is o timely first low =
    ap (λ b. (is && nat_le (since_of o) first) || b) (none-through (ended_of o) first n (ended-before n is o timely))
    ∙ or-false (is && nat_le (since_of o) first)

pub always-here : (n : ℕ) (is : Bool) (o : Option Spell) → IsTimely n is o → always_by is o n n ≡ is
always-here n true o timely = always-now n true o timely n (omega arith) ∙ le-leb (since_of o) n (timely.begun refl)
always-here n false o timely = always-now n false o timely n (omega arith)

pub always-next : (n : ℕ) (was is : Bool) (o o' : Option Spell) → IsTimely n was o → Passes was is n o o'
    → (first : ℕ) → first ≤ n → always_by is o' first (n + 1) ≡ (is && always_by was o first n)
always-next n was is o o' timely passes first low =
    always-now (n + 1) is o' (timely-next n was is o o' timely passes) first (omega (arith, low))
    ∙ by was is passes.since ∙ ap (λ b. is && b) (sym (always-now n was o timely first low))
  where
    by : (was is : Bool) → since_of o' ≡ cond (not was && is) (n + 1) (since_of o)
        → (is && nat_le (since_of o') first) ≡ (is && (was && nat_le (since_of o) first))
    by was false since = refl
    by true true since = ap (λ k. nat_le k first) since
    by false true since = lt-leb (since_of o') first (omega (arith, since, low))

-- what is said of moments so far stays so
pub always-stays : (n : ℕ) (was is : Bool) (o o' : Option Spell) → IsTimely n was o → Passes was is n o o'
    → (first last : ℕ) → first ≤ last → last ≤ n → always_by is o' first last ≡ always_by was o first last
always-stays n false false o o' timely passes first last low high = ap (λ ts. was_through ts first last) passes.ended
always-stays n true true o o' timely passes first last low high =
    λ i. nat_le (passes.since i) first || was_through (passes.ended i) first last
always-stays n false true o o' timely passes first last low high =
    let since = passes.since in
    ap (λ b. b || was_through (ended_of o') first last) (lt-leb (since_of o') first (omega (arith, since, low, high)))
    ∙ ap (λ ts. was_through ts first last) passes.ended
always-stays n true false o o' timely passes first last low high =
    ap (λ ts. was_through ts first last) passes.ended
    ∙ last-time first last (ended_of o) (since_of o, n)
    ∙ ap (λ b. b && (nat_le (since_of o) first || was_through (ended_of o) first last)) (le-leb last n high)

-- ---- at some moment

pub ever-here : (n : ℕ) (is : Bool) (o : Option Spell) → IsTimely n is o → ever_by is o n ≡ is
ever-here n is o timely = ap (λ b. is || b) (none-later (ended_of o) n (ended-before n is o timely)) ∙ or-false is

pub ever-next : (n : ℕ) (was is : Bool) (o o' : Option Spell) → IsTimely n was o → Passes was is n o o'
    → (first : ℕ) → first ≤ n → ever_by is o' first ≡ (is || ever_by was o first)
ever-next n was true o o' timely passes first low = refl
ever-next n false false o o' timely passes first low = ap (list_any (λ (t : ℕ × ℕ). nat_le first t.1)) passes.ended
ever-next n true false o o' timely passes first low =
    ap (list_any (λ (t : ℕ × ℕ). nat_le first t.1)) passes.ended
    ∙ list_any-append (λ (t : ℕ × ℕ). nat_le first t.1) (ended_of o) ((since_of o, n) ∷ [])
    ∙ ap (λ b. list_any (λ (t : ℕ × ℕ). nat_le first t.1) (ended_of o) || (b || false)) (le-leb first n low)
    ∙ or-true (list_any (λ (t : ℕ × ℕ). nat_le first t.1) (ended_of o))
  where
    or-true : (b : Bool) → (b || true) ≡ true
    or-true true = refl
    or-true false = refl

-- What is kept of files follows a turn of paths.
use Rattle.std.proofs.Common.{ℕ, ◌≡◌, ◌+◌, ◌-◌, ◌==◌, ◌&&◌, ◌||◌, cond, List, Option, Some, None, IsSome, Bool, true, false, slice_get, refl, sym, ap, ◌∙◌, arith}
use Rattle.std.specs.Option.{option_map}
use Rattle.std.proofs.lemmas.Bool.Decides.{Decides-eqb, Decides-like}
use Rattle.md_dirs.specs.declared.paths.Path.{Path}
use Rattle.md_law.specs.Messages.{is_message}
use Rattle.md_monitor.specs.Files.{is_some_and, is_cur, is_cur_message, comes_to}
use Rattle.md_kept.specs.declared.files.FileKept.{FileKept}
use Rattle.md_kept.specs.Changes.{Turn}
use Rattle.md_kept.specs.Files.{Follows, was_cur_in, was_seen_in, times_of, times_in, shown, hidden, come, gone}
use Rattle.md_kept.proofs.Keys.{same-tests}
use Rattle.md_watch.proofs.Counting.{one}

pub same-number : (a b : ℕ) → (a == b) ≡ (b == a)
same-number a b = same-tests _ _ (Decides-eqb a b) (Decides-like _ (λ is. sym is) (λ is. sym is) (Decides-eqb b a))

-- ---- what a path that goes leaves

module _ {A : Type 0} (part : Option FileKept → A) (keeps : (f : FileKept) → part (Some (hidden f)) ≡ part (Some f)) where
  hides : (b : Bool) (o : Option FileKept) → part (cond b (option_map hidden o) o) ≡ part o
  hides true None = refl
  hides true (Some f) = keeps f
  hides false o = refl

  gone-keeps : (went : Option (Path × ℕ)) (n : ℕ) (o : Option FileKept) → part (gone went n o) ≡ part o
  gone-keeps None n o = refl
  gone-keeps (Some e) n o = hides (is_message e.0 && n == e.1) o

  pub both-keep : (t : Turn) (n : ℕ) (o : Option FileKept) → part (gone t.turned n (gone t.taken n o)) ≡ part o
  both-keep t n o = gone-keeps t.turned n (gone t.taken n o) ∙ gone-keeps t.taken n o

  -- ---- what no path changes

  module _ (comes : (c : Bool) (f : FileKept) → part (Some (shown c f)) ≡ part (Some f)) where
    shows : (b c : Bool) (o : Option FileKept) → part (cond b (option_map (shown c) o) o) ≡ part o
    shows true c None = refl
    shows true c (Some f) = comes c f
    shows false c o = refl

    come-keeps : (named : Option (Path × ℕ)) (n : ℕ) (o : Option FileKept) → part (come named n o) ≡ part o
    come-keeps None n o = refl
    come-keeps (Some e) n o = shows (is_message e.0 && n == e.1) (is_cur e.0.place) o

    pub turned-same : (t : Turn) (old new : List FileKept) → Follows t old new → (n : ℕ) → part (slice_get new n) ≡ part (slice_get old n)
    turned-same t old new follows n = ap part (follows.kept n) ∙ both-keep t n (come t.named n (slice_get old n))
        ∙ come-keeps t.named n (slice_get old n)

-- ---- what a path that comes adds

abbrev cur_of : Option FileKept → Bool
cur_of o = is_some_and o (λ f. f.was_cur)

abbrev seen_of : Option FileKept → Bool
seen_of o = is_some_and o (λ f. f.was_seen)

-- by whether the path is a message's, whether the number is its file's, and whether it is in cur
by-cur : (m t c : Bool) (o : Option FileKept) → (t ≡ true → IsSome o)
    → cur_of (cond (m && t) (option_map (shown c) o) o) ≡ ((t && (m && c)) || cur_of o)
by-cur true true c (Some f) there = refl
by-cur true true c None there = let no = there refl in absurd (cc)
by-cur true false c o there = refl
by-cur false true c o there = refl
by-cur false false c o there = refl

by-seen : (m t c : Bool) (o : Option FileKept) → (t ≡ true → IsSome o)
    → seen_of (cond (m && t) (option_map (shown c) o) o) ≡ ((t && m) || seen_of o)
by-seen true true c (Some f) there = refl
by-seen true true c None there = let no = there refl in absurd (cc)
by-seen true false c o there = refl
by-seen false true c o there = refl
by-seen false false c o there = refl

by-times : (m t c : Bool) (o : Option FileKept) → (t ≡ true → IsSome o)
    → times_of (cond (m && t) (option_map (shown c) o) o) ≡ times_of o + one (t && m)
by-times true true c (Some f) there = refl
by-times true true c None there = let no = there refl in absurd (cc)
by-times true false c o there = omega arith
by-times false true c o there = omega arith
by-times false false c o there = omega arith

by-less : (m t : Bool) (o : Option FileKept) → times_of (cond (m && t) (option_map hidden o) o) ≡ times_of o - one (t && m)
by-less true true None = refl
by-less true true (Some f) = refl
by-less true false o = omega arith
by-less false true o = omega arith
by-less false false o = omega arith

abbrev seen_as : ℕ → Option (Path × ℕ) → Bool
seen_as n o = is_some_and o (λ e. e.1 == n && is_message e.0)

-- the file of a path that came is there
abbrev IsThere : Option (Path × ℕ) → ℕ → Option FileKept → Type 0
IsThere named n o = (p : Path) → named ≡ Some (p, n) → IsSome o

there-at : (e : Path × ℕ) (n : ℕ) (o : Option FileKept) → IsThere (Some e) n o → (n == e.1) ≡ true → IsSome o
there-at e n o there is = there e.0 (let same = (Decides-eqb n e.1).0 is in λ i. Some (e.0, (sym same) i))

come-cur : (named : Option (Path × ℕ)) (n : ℕ) (o : Option FileKept) → IsThere named n o
    → cur_of (come named n o) ≡ (comes_to named is_cur_message n || cur_of o)
come-cur None n o there = refl
come-cur (Some e) n o there = by-cur (is_message e.0) (n == e.1) (is_cur e.0.place) o (there-at e n o there)
    ∙ ap (λ b. (b && (is_message e.0 && is_cur e.0.place)) || cur_of o) (same-number n e.1)

come-seen : (named : Option (Path × ℕ)) (n : ℕ) (o : Option FileKept) → IsThere named n o
    → seen_of (come named n o) ≡ (comes_to named is_message n || seen_of o)
come-seen None n o there = refl
come-seen (Some e) n o there = by-seen (is_message e.0) (n == e.1) (is_cur e.0.place) o (there-at e n o there)
    ∙ ap (λ b. (b && is_message e.0) || seen_of o) (same-number n e.1)

come-times : (named : Option (Path × ℕ)) (n : ℕ) (o : Option FileKept) → IsThere named n o
    → times_of (come named n o) ≡ times_of o + one (seen_as n named)
come-times None n o there = omega arith
come-times (Some e) n o there = by-times (is_message e.0) (n == e.1) (is_cur e.0.place) o (there-at e n o there)
    ∙ ap (λ b. times_of o + one (b && is_message e.0)) (same-number n e.1)

gone-times : (went : Option (Path × ℕ)) (n : ℕ) (o : Option FileKept) → times_of (gone went n o) ≡ times_of o - one (seen_as n went)
gone-times None n o = omega arith
gone-times (Some e) n o = by-less (is_message e.0) (n == e.1) o ∙ ap (λ b. times_of o - one (b && is_message e.0)) (same-number n e.1)

-- ---- a turn

module _ (t : Turn) (old new : List FileKept) (follows : Follows t old new) (n : ℕ) where
  module _ (there : (p : Path) → t.named ≡ Some (p, n) → IsSome (slice_get old n)) where
    pub turned-cur : was_cur_in new n ≡ (comes_to t.named is_cur_message n || was_cur_in old n)
    turned-cur = ap cur_of (follows.kept n) ∙ both-keep cur_of (λ f. refl) t n (come t.named n (slice_get old n))
        ∙ come-cur t.named n (slice_get old n) there

    pub turned-seen : was_seen_in new n ≡ (comes_to t.named is_message n || was_seen_in old n)
    turned-seen = ap seen_of (follows.kept n) ∙ both-keep seen_of (λ f. refl) t n (come t.named n (slice_get old n))
        ∙ come-seen t.named n (slice_get old n) there

    pub turned-times : (before after : ℕ) → times_in old n ≡ before
        → after + (one (seen_as n t.taken) + one (seen_as n t.turned)) ≡ before + one (seen_as n t.named) → times_in new n ≡ after
    turned-times before after was recounts =
        let o = slice_get old n in
        let is = ap times_of (follows.kept n) in
        let a = come-times t.named n o there in
        let b = gone-times t.taken n (come t.named n o) in
        let c = gone-times t.turned n (gone t.taken n (come t.named n o)) in
        omega (arith, was, recounts, is, a, b, c)

-- A stretch, as its steps are placed.
use Rattle.std.proofs.Common.{ℕ, zero, suc, ◌≡◌, ◌≢◌, ◌<◌, ◌≤◌, ◌+◌, ◌-◌, inl, inr, ◌↔◌, List, [], ◌∷◌, ◌++◌, Option, Some, None, length, slice_get, refl, sym, ap, subst, ◌∙◌, arith}
use Rattle.std.proofs.lemmas.Bool.{cases_lt}
use Rattle.md_log.specs.declared.line.ticks.Ticks.{Ticks}
use Rattle.md_judge.specs.declared.stretch.Waiting.{Waiting}
use Rattle.md_judge.specs.declared.session.Session.{Session}
use Rattle.md_judge.specs.declared.stretch.Stretch.{Stretch}
use Rattle.md_watch.specs.declared.watch.Watch.{Watch}
use Rattle.md_watch.specs.Watches.{Holds}
use Rattle.md_judge.specs.declared.clauses.Clauses.{Clauses}
use Rattle.md_judge.specs.declared.log.Finding.{Finding}
use Rattle.md_judge.specs.Clauses.{Has}
use Rattle.md_judge.specs.Logs.{Log, Numbered, with_step}
use Rattle.md_judge.specs.Orders.{AreOfOneStretch, MayComeFirst, IsFindingIn}
use Rattle.md_judge.specs.Verdict.{history, AreInOrder, IsAllowed, IsAmong}
use Rattle.md_judge.specs.Placed.{ticks_of, KeepsTicks, TakesAt, AreInOrderAtLines, AreWaiting, IsNextStep, HasLines, HasJudged, HasWaiting, HasSettled}
use Rattle.md_judge.proofs.Lists.{one-more, stands-at, no-more}
use Rattle.std.proofs.lemmas.List.{length_push}
use Rattle.std.proofs.lemmas.Option.{slice_get_within}

-- ---- the ticks of an order

-- The first steps of an order keep their ticks, and none of them begins after this tick.
pub record AreKeptTo (steps : List (Option Waiting)) (order : List ℕ) (k latest : ℕ) : Type 0 where
  pub begun : (a i : ℕ) (t : Ticks) → a < k → slice_get order a ≡ Some i → ticks_of (slice_get steps i) ≡ Some t → t.begin ≤ latest
  pub kept : (a b i j : ℕ) → a < b → b < k → slice_get order a ≡ Some i → slice_get order b ≡ Some j
      → MayComeFirst (ticks_of (slice_get steps i)) (ticks_of (slice_get steps j))

-- ---- the steps of a stretch, one by one

-- where no step waits, all are placed
pub settled-none : (number : ℕ) (l : Log) (s : Session) → s.stretch.steps.items ≡ [] → HasWaiting number l s → HasSettled number l s
settled-none number l s none w =
    let nothing : length s.stretch.steps.items ≡ 0 = ap length none in
    let many = w.waits.many in
    let long = w.waits.long in
    record {
      order = w.order;
      log = w.log;
      read = w.read;
      judged = w.judged;
      all = omega (arith, nothing, many);
      steps = none;
      lines = no-more s.stretch.lines.items (omega (arith, long, nothing));
    }

-- A session has judged the first steps of a stretch in this order. They come after those that were judged before, which are as many as this.
pub record IsPlacing (number : ℕ) (l : Log) (many : ℕ) (stretch : Stretch) (chosen : List ℕ) (k : ℕ) (s : Session) : Type 0 where
  pub order : List ℕ
  pub log : Log
  pub read : HasLines number l s
  pub judged : HasJudged number l order log s
  pub long : length order ≡ many + k
  pub before : (a i : ℕ) → a < many → slice_get order a ≡ Some i → i < many
  pub after : (b i : ℕ) → slice_get order (many + b) ≡ Some i → (at : ℕ) × (slice_get chosen b ≡ Some at) × (i ≡ many + at)
  pub lines : s.stretch.lines ≡ stretch.lines
  pub had : (a : ℕ) (w : Waiting) → slice_get s.stretch.steps.items a ≡ Some (Some w) → slice_get stretch.steps.items a ≡ Some (Some w)
  pub gone : (a i : ℕ) (w : Waiting) → a < k → slice_get chosen a ≡ Some i → slice_get s.stretch.steps.items i ≡ Some (Some w) → ⊥

-- at first none is judged
pub places-none : (number : ℕ) (l : Log) (chosen : List ℕ) (s : Session) (w : HasWaiting number l s)
    → IsPlacing number l (length w.order) s.stretch chosen 0 s
places-none number l chosen s w = record {
  order = w.order;
  log = w.log;
  read = w.read;
  judged = w.judged;
  long = omega arith;
  before = λ a i low is. w.placed a i is;
  after = λ b i is. absurd (let low = slice_get_within w.order (length w.order + b) i is in omega (arith, low));
  lines = refl;
  had = λ a v is. is;
  gone = λ a i v low is has. absurd (omega (arith, low));
}

-- what changes nothing of a stretch and of what was judged changes nothing of what waits
abbrev pub waits-on : (number : ℕ) (l : Log) (s t : Session) → t.folders ≡ s.folders → t.stretch ≡ s.stretch
    → ((order : List ℕ) (m : Log) → HasJudged number l order m s → HasJudged number l order m t) → HasWaiting number l s → HasWaiting number l t
waits-on number l s t folders stretch judged w = record {
  order = w.order;
  log = w.log;
  read = record {
    folders = folders ∙ w.read.folders;
    housed = w.read.housed;
    numbered = w.read.numbered;
  };
  judged = judged w.order w.log w.judged;
  placed = w.placed;
  waits = subst (λ (x : Stretch). AreWaiting (length w.order) l x) (sym stretch) w.waits;
}

module _ (number : ℕ) (l : Log) (many : ℕ) (stretch : Stretch) (waits : AreWaiting many l stretch) (chosen : List ℕ)
    (kept : KeepsTicks stretch.steps.items chosen) (all : length chosen ≡ length stretch.steps.items) (k at : ℕ) (s : Session)
    (is : slice_get chosen k ≡ Some at) (p : IsPlacing number l many stretch chosen k s) (w : Waiting)
    (has : slice_get s.stretch.steps.items at ≡ Some (Some w)) where
  pub before-all : at < length stretch.steps.items
  before-all = slice_get_within stretch.steps.items at (Some w) (p.had at w has)

  abbrev first : (x : Numbered) × (slice_get l.steps (many + k) ≡ Some x)
  first =
      let low = slice_get_within chosen k at is in
      let together = waits.many in
      stands-at l.steps (many + k) (omega (arith, low, all, together))

  abbrev other : (y : Numbered) × (slice_get l.steps (many + at) ≡ Some y)
  other =
      let low = before-all in
      let together = waits.many in
      stands-at l.steps (many + at) (omega (arith, low, together))

  -- the ticks of a step that waits are those of the step of the log
  ticks-are : (a : ℕ) (x : Numbered) → slice_get l.steps (many + a) ≡ Some x → ticks_of (slice_get stretch.steps.items a) ≡ x.step.ticks
  ticks-are a x there =
      let low = slice_get_within l.steps (many + a) x there in
      let together = waits.many in
      let some = stands-at stretch.steps.items a (omega (arith, low, together)) in
      let step = waits.steps a some.0 x some.1 there in
      ap ticks_of (some.1 ∙ ap Some step.1) ∙ (λ i. (step.2 i).ticks)

  -- steps of the stretch are of one
  one-stretch : (a b : ℕ) → many ≤ a → many ≤ b → AreOfOneStretch l a b
  one-stretch a b low low' o x between there = elim between [
    | inl up ↦ let from = up.0 in by (o - many) (omega (arith, low, from))
    | inr down ↦ let from = down.0 in by (o - many) (omega (arith, low', from))
  ]
    where
      by : (d : ℕ) → many + d ≡ o → x.step.ticks ≢ None
      by d same = waits.ticks d x (ap (slice_get l.steps) same ∙ there)

  -- no step before the stretch is of one with a step of it
  apart : (j i : ℕ) → j < many → many ≤ i → AreOfOneStretch l j i → ⊥
  apart j i low high are =
      let together = waits.many in
      let last = stands-at l.steps (many - 1) (omega (arith, low, together)) in
      are (many - 1) last.0 (inl (omega (arith, low), omega (arith, high))) last.1
      (waits.begins (many - 1) last.0 (omega (arith, low)) last.1)

  fresh : (a : ℕ) → slice_get p.order a ≡ Some (many + at) → ⊥
  fresh a there = elim (cases_lt a many) [
    | inl low ↦ let early = p.before a (many + at) low there in omega (arith, early)
    | inr high ↦ by (a - many) (omega (arith, high))
  ]
    where
      by : (b : ℕ) → many + b ≡ a → ⊥
      by b same =
          let from = p.after b (many + at) (ap (slice_get p.order) same ∙ there) in
          let low = slice_get_within p.order a (many + at) there in
          let long = p.long in
          let same-at : from.0 ≡ at = (let e = from.2 in omega (arith, e)) in
          p.gone b at w (omega (arith, low, long, same)) (from.1 ∙ ap Some same-at) has

  comes-ticks : (a j : ℕ) (x y : Numbered) → slice_get p.order a ≡ Some j → AreOfOneStretch l j (many + at) → slice_get l.steps j ≡ Some x
      → slice_get l.steps (many + at) ≡ Some y → MayComeFirst x.step.ticks y.step.ticks
  comes-ticks a j x y there are x-is y-is = elim (cases_lt a many) [
    | inl low ↦ absurd (apart j (many + at) (p.before a j low there) (omega arith) are)
    | inr high ↦ by (a - many) (omega (arith, high))
  ]
    where
      by : (b : ℕ) → many + b ≡ a → MayComeFirst x.step.ticks y.step.ticks
      by b same =
          let from = p.after b j (ap (slice_get p.order) same ∙ there) in
          let low = slice_get_within p.order a j there in
          let long = p.long in
          let one = ticks-are from.0 x (ap (slice_get l.steps) (sym from.2) ∙ x-is) in
          let two = ticks-are at y y-is in
          subst (λ o. MayComeFirst x.step.ticks o) two (subst (λ o. MayComeFirst o (ticks_of (slice_get stretch.steps.items at))) one
          (kept b k from.0 at (omega (arith, low, long, same)) from.1 is))

  -- it has ticks
  pub has-ticks : other.0.step.ticks ≢ None
  has-ticks = waits.ticks at other.0 other.1

  -- the next step that is chosen may come next
  pub is-next : IsNextStep l p.order (many + at) first.0 other.0 k at s.stretch
  is-next = record {
    here = ap (slice_get l.steps) p.long ∙ first.1;
    there = other.1;
    moment = (λ i. slice_get (p.lines i).items k) ∙ waits.lines k first.0 first.1;
    line = (λ i. slice_get (p.lines i).items at) ∙ waits.lines at other.0 other.1;
    waits = λ v there.
        let step = waits.steps at (Some v) other.0 (p.had at v there) other.1 in
        let same : v ≡ step.0 = (let e = step.1 in cc e) in
        ap (λ (x : Waiting). x.step) same ∙ step.2;
    comes = record {
      fresh = fresh;
      near = λ a j there up. one-stretch (many + at) j (omega arith) (omega (arith, up));
      ticks = comes-ticks;
    };
  }

  -- and then it is placed
  pub places-next : (t : Session) → TakesAt at s.stretch t.stretch → HasLines number l t
      → HasJudged number l (p.order ++ (many + at) ∷ []) (with_step p.log first.0.number other.0.step) t
      → IsPlacing number l many stretch chosen (k + 1) t
  places-next t takes read judged =
      let i : ℕ = many + at in
      let long = p.long in
      record {
        order = p.order ++ i ∷ [];
        log = with_step p.log first.0.number other.0.step;
        read = read;
        judged = judged;
        long = let more = length_push p.order i in omega (arith, more, long);
        before = λ a j low there. elim (one-more p.order i a j there) [
          | inl was ↦ p.before a j low was
          | inr now ↦ absurd (let end = now.0 in omega (arith, low, end, long))
        ];
        after = λ b j there. elim (one-more p.order i (many + b) j there) [
          | inl was ↦ p.after b j was
          | inr now ↦
              let end = now.0 in
              let here : k ≡ b = omega (arith, end, long) in
              (at, ap (slice_get chosen) (sym here) ∙ is, sym now.1)
        ];
        lines = takes.lines ∙ p.lines;
        had = λ a v there. elim (cases_lt a at) [
          | inl low ↦ p.had a v (sym (takes.others a (λ same. omega (arith, low, same))) ∙ there)
          | inr high ↦ elim (cases_lt at a) [
            | inl low ↦ p.had a v (sym (takes.others a (λ same. omega (arith, low, same))) ∙ there)
            | inr high' ↦ absurd (takes.gone v (let same : at ≡ a = omega (arith, high, high') in ap (slice_get t.stretch.steps.items) same ∙ there))
          ]
        ];
        gone = λ a j v low there still. elim (cases_lt j at) [
          | inl below ↦ was-gone a j v low there still (λ same. omega (arith, below, same))
          | inr high ↦ elim (cases_lt at j) [
            | inl below ↦ was-gone a j v low there still (λ same. omega (arith, below, same))
            | inr high' ↦ takes.gone v (let same : at ≡ j = omega (arith, high, high') in ap (slice_get t.stretch.steps.items) same ∙ still)
          ]
        ];
      }
    where
      was-gone : (a j : ℕ) (v : Waiting) → a < k + 1 → slice_get chosen a ≡ Some j → slice_get t.stretch.steps.items j ≡ Some (Some v)
          → j ≢ at → ⊥
      was-gone a j v low there still other-place = elim (cases_lt a k) [
        | inl before ↦ p.gone a j v before there (sym (takes.others j other-place) ∙ still)
        | inr last ↦
            let same : k ≡ a = omega (arith, low, last) in
            let said : Some at ≡ Some j = sym is ∙ ap (slice_get chosen) same ∙ there in
            other-place (sym (cc said))
      ]

-- what was judged stays so where the watch, the findings and the steps that were moved stay
pub judged-on : (number : ℕ) (l : Log) (order : List ℕ) (m : Log) (s t : Session)
    → t.watch ≡ s.watch → t.allowed ≡ s.allowed → t.findings.items ≡ s.findings.items → t.stretch.moved ≡ s.stretch.moved
    → HasJudged number l order m s → HasJudged number l order m t
judged-on number l order m s t watch allowed findings moved judged = record {
  may = judged.may;
  same = judged.same;
  fits = judged.fits;
  holds = subst (λ (w : Watch). Holds (history m (length order)) w) (sym watch) judged.holds;
  allowed = λ c. subst (λ (a : Clauses). Has a c ↔ IsAllowed l c) (sym allowed) (judged.allowed c);
  found = λ n c. subst (λ (fs : List Finding). IsAmong fs n c ↔ IsFindingIn order l m n c) (sym findings) (judged.found n c);
  at_lines = subst (λ (fs : List Finding). AreInOrderAtLines fs) (sym findings) judged.at_lines;
  unmoved = λ none. judged.unmoved (sym moved ∙ none);
  ordered = λ none. subst (λ (fs : List Finding). AreInOrder fs) (sym findings) (judged.ordered (sym moved ∙ none));
  plain = λ none. moved ∙ judged.plain none;
}

-- a session that has placed all has settled
pub all-placed : (number : ℕ) (l : Log) (many k : ℕ) (stretch : Stretch) (chosen : List ℕ) (s t : Session) → AreWaiting many l stretch
    → k ≡ length stretch.steps.items → IsPlacing number l many stretch chosen k s → t.folders ≡ s.folders → t.watch ≡ s.watch
    → t.allowed ≡ s.allowed → t.findings.items ≡ s.findings.items → t.stretch.moved ≡ s.stretch.moved → t.stretch.steps.items ≡ []
    → t.stretch.lines.items ≡ [] → HasSettled number l t
all-placed number l many k stretch chosen s t waits end p folders watch allowed findings moved steps lines = record {
  order = p.order;
  log = p.log;
  read = record {
    folders = folders ∙ p.read.folders;
    housed = p.read.housed;
    numbered = p.read.numbered;
  };
  judged = judged-on number l p.order p.log s t watch allowed findings moved p.judged;
  all = let together = waits.many in let long = p.long in omega (arith, end, together, long);
  steps = steps;
  lines = lines;
}

-- Readings of directories, part by part: which moments a reading has, and what it shows.
use Rattle.std.proofs.Common.{ℕ, zero, suc, ◌≡◌, ◌⊎◌, inl, inr, List, [], ◌∷◌, Some, slice_get, Bool, true, false, refl, sym, subst, ◌∙◌}
use Rattle.std.specs.Bool.{Decides}
use Rattle.std.specs.List.{list_any}
use Rattle.std.proofs.lemmas.Bool.Decides.{Decides-eqb, Decides-and, Decides-or, Decides-like}
use Rattle.std.proofs.lemmas.Slice.Eq.{bytes_eq-Decides}
use Rattle.md_dirs.specs.declared.paths.Place.{Place}
use Rattle.md_dirs.specs.declared.paths.Place.TheVariants.{Tmp, New, Cur}
use Rattle.md_log.specs.declared.line.Call.{Call}
use Rattle.md_log.specs.declared.line.Call.TheVariants as call
use Rattle.md_log.specs.declared.line.Reply.{Reply}
use Rattle.md_log.specs.declared.line.Reply.TheVariants as reply
use Rattle.md_log.specs.declared.line.Step.{Step}
use Rattle.md_law.specs.History.{History, opening, next, at, now, before, Once, Since, IsUpTo}
use Rattle.md_law.specs.Readings.{Looker, Reads, IsPart, IsReadOn, IsReading, IsMomentOf, Shows}
use Rattle.md_monitor.specs.Readings as found
use Rattle.md_monitor.specs.Readings.{is_place, is_more, reads_by}
use Rattle.md_monitor.proofs.Stepping.{is-call, is-by}
use Rattle.md_monitor.proofs.Moments.{upto-itself, upto-next, upto-before, upto-trans, upto-same, upto-either, not-after, since-found, since-from}

-- ---- tests

pub place-is : (p q : Place) → Decides (is_place p q) (p ≡ q)
place-is Tmp Tmp = (λ t. refl, λ e. refl)
place-is New New = (λ t. refl, λ e. refl)
place-is Cur Cur = (λ t. refl, λ e. refl)
place-is p q = (λ t. absurd (cc), λ e. absurd (cc e))

pub more-is : (r : Reply) → Decides (is_more r) (r ≡ reply.More)
more-is reply.More = (λ t. refl, λ e. refl)
more-is r = (λ t. absurd (cc), λ e. absurd (cc e))

-- some element, by its place
pub any-is : {A : Type 0} (test : A → Bool) (P : A → Type 0) → ((a : A) → Decides (test a) (P a)) → (xs : List A)
    → Decides (list_any test xs) ((k : ℕ) × (a : A) × (slice_get xs k ≡ Some a) × P a)
any-is test P each [] = (λ t. absurd (cc), λ (k, a, is, holds). absurd (cc))
any-is test P each (y ∷ ys) = Decides-like _ to from (Decides-or _ _ (each y) (any-is test P each ys))
  where
    to : P y ⊎ ((k : ℕ) × (a : _) × (slice_get ys k ≡ Some a) × P a) → (k : ℕ) × (a : _) × (slice_get (y ∷ ys) k ≡ Some a) × P a
    to (inl holds) = (0, y, refl, holds)
    to (inr (k, a, is, holds)) = (suc k, a, is, holds)

    from : (k : ℕ) × (a : _) × (slice_get (y ∷ ys) k ≡ Some a) × P a → P y ⊎ ((k : ℕ) × (a : _) × (slice_get ys k ≡ Some a) × P a)
    from (zero, a, is, holds) = inl (subst P (let same : y ≡ a = cc in sym same) holds)
    from (suc k, a, is, holds) = inr (k, a, is, holds)

-- ---- parts

-- the last step is a part, and this holds of its answer and the names that it shows
abbrev pub IsPartOf : Looker → (Reply → List (List ℕ) → Type 0) → History → Type 0
IsPartOf d A h = (r : Reply) × (shown : List (List ℕ)) × Reads h d r shown × A r shown

-- the call is such a part
reads-is : (k : Call) (d : Looker) (test : Reply → List (List ℕ) → Bool) (A : Reply → List (List ℕ) → Type 0)
    → ((r : Reply) (shown : List (List ℕ)) → Decides (test r shown) (A r shown))
    → Decides (reads_by k d test) ((r : Reply) × (shown : List (List ℕ)) × (k ≡ call.List d.folder d.place r shown) × A r shown)
reads-is (call.List folder place r shown) d test A each = Decides-like _
    (λ both. (r, shown, (λ i. call.List (both.0.0 i) (both.0.1 i) r shown), both.1))
    (λ (q, names, is, holds).
    let answer : r ≡ q = cc is in
    let same : shown ≡ names = cc is in
    ((cc is, cc is), subst (λ w. A r w) (sym same) (subst (λ w. A w names) (sym answer) holds)))
    (Decides-and _ _ (Decides-and _ _ (Decides-eqb folder d.folder) (place-is place d.place)) (each r shown))
reads-is k d test A each = (λ t. absurd (cc), λ (q, names, is, holds). absurd (cc is))

module _ (past : History) (x : Step) (d : Looker) where
  pub part-of : (test : Reply → List (List ℕ) → Bool) (A : Reply → List (List ℕ) → Type 0)
      → ((r : Reply) (shown : List (List ℕ)) → Decides (test r shown) (A r shown))
      → Decides (found.is_part (at past) (now (next past x)) x d test) (IsPartOf d A (next past x))
  part-of test A each = Decides-like _
      (λ (by, (r, shown, is, holds)). (r, shown, ((is-by past x d.actor).1 by, (is-call past x _).1 is), holds))
      (λ (r, shown, reads, holds). ((is-by past x d.actor).0 reads.0, (r, shown, (is-call past x _).0 reads.1, holds)))
      (Decides-and _ _ (bytes_eq-Decides x.actor d.actor) (reads-is x.call d test A each))

  pub part-is : Decides (found.is_part (at past) (now (next past x)) x d (λ r shown. true)) ((r : Reply) × IsPart (next past x) d r)
  part-is = Decides-like _ (λ (r, shown, reads, u). (r, (shown, reads))) (λ (r, part). (r, part.0, part.1, tt))
      (part-of (λ r shown. true) (λ r shown. Unit {0}) (λ r shown. (λ t. tt, λ u. refl)))

  pub more-part : Decides (found.is_part (at past) (now (next past x)) x d (λ r shown. is_more r)) (IsPart (next past x) d reply.More)
  more-part = Decides-like _ (λ (r, shown, reads, is). (shown, subst (λ q. Reads (next past x) d q shown) is reads))
      (λ part. (reply.More, part.0, part.1, refl))
      (part-of (λ r shown. is_more r) (λ r shown. r ≡ reply.More) (λ r shown. more-is r))

module _ (d : Looker) where
  -- a part has one answer, and shows the names that it shows
  pub one-part : (h : History) (r q : Reply) (shown names : List (List ℕ)) → Reads h d r shown → Reads h d q names
      → (r ≡ q) × (shown ≡ names)
  one-part (opening m) r q shown names part other = absurd (let none = part.0.1 in cc)
  one-part (next past x) r q shown names part other =
      let same : call.List d.folder d.place r shown ≡ call.List d.folder d.place q names =
      sym ((is-call past x _).0 part.1) ∙ (is-call past x _).0 other.1 in
      (cc same, cc same)

  one-answer : (h : History) (r q : Reply) → IsPart h d r → IsPart h d q → r ≡ q
  one-answer h r q part other = (one-part h r q part.0 other.0 part.1 other.1).0

  -- ---- what is so of a reading

  -- since the reading began that the next part goes on with, or else since now, this was so at a moment
  abbrev pub During : (History → Type 0) → History → Type 0
  During P h = Since P (λ m. IsReadOn m d) h

  -- the last step is a part that shows a name of which this holds
  abbrev pub ShowsOne : (List ℕ → Type 0) → History → Type 0
  ShowsOne N m = IsPartOf d (λ r shown. (k : ℕ) × (name : List ℕ) × (slice_get shown k ≡ Some name) × N name) m

  -- a part so far of the open reading does
  abbrev pub HasShown : (List ℕ → Type 0) → History → Type 0
  HasShown N h = During (λ m. IsReadOn m d × ShowsOne N m) h

  -- ---- the moments of a reading

  -- a reading is open, which began with the last step of a history, that or an earlier one
  record Opens (first h : History) : Type 0 where
    begins : (r : Reply) × IsPart first d r
    fresh : IsReadOn (before first) d → ⊥
    goes_on : IsUpTo first h
    more : (m : History) (r : Reply) → IsUpTo first m → IsUpTo m h → IsPart m d r → r ≡ reply.More

  -- what tells of each history whether a reading is open
  abbrev pub Tells : (History → Bool) → Type 0
  Tells is_open = (h : History) → Decides (is_open h) (IsReadOn h d)

  -- a reading that goes on began
  opens : (is_open : History → Bool) → Tells is_open → (h : History) → IsReadOn h d → (first : History) × Opens first h
  unfolding Once Since
  opens is_open each (opening m) on = absurd (let none = on.1.0.1 in cc)
  opens is_open each (next past x) (inl part) = by (λ on. opens is_open each past on) (is_open past) refl
    where
      by : (IsReadOn past d → (first : History) × Opens first past) → (b : Bool) → is_open past ≡ b
          → (first : History) × Opens first (next past x)
      by rest true t =
          let it = rest ((each past).0 t) in
          let o = it.1 in (
            it.0,
            record {
              begins = o.begins;
              fresh = o.fresh;
              goes_on = inr o.goes_on;
              more = λ m r from to here. elim to [
                | inl same ↦ one-answer m r reply.More here (subst (λ k. IsPart k d reply.More) same part)
                | inr low ↦ o.more m r from low here
              ];
            },
          )
      by rest false f = (
        next past x,
        record {
          begins = (reply.More, part);
          fresh = λ on. let t = (each past).1 on in cc;
          goes_on = inl refl;
          more = λ m r from to here. elim to [
            | inl same ↦ one-answer m r reply.More here (subst (λ k. IsPart k d reply.More) same part)
            | inr low ↦ absurd (not-after past x (upto-trans (next past x) m past from low))
          ];
        },
      )
  opens is_open each (next past x) (inr rest) =
      let it = opens is_open each past rest.1 in
      let o = it.1 in (
        it.0,
        record {
          begins = o.begins;
          fresh = o.fresh;
          goes_on = inr o.goes_on;
          more = λ m r from to here. elim to [
            | inl same ↦ absurd (rest.0 r (subst (λ k. IsPart k d r) (sym same) here))
            | inr low ↦ o.more m r from low here
          ];
        },
      )

  -- each part is one of a reading
  pub has-first : (is_open : History → Bool) → Tells is_open → (past : History) (x : Step) (r : Reply) → IsPart (next past x) d r
      → (first : History) × IsReading first (next past x) d
  unfolding Once
  has-first is_open each past x r part = by (is_open past) refl
    where
      by : (b : Bool) → is_open past ≡ b → (first : History) × IsReading first (next past x) d
      by true t =
          let it = opens is_open each past ((each past).0 t) in
          let o = it.1 in (
            it.0,
            record {
              begins = o.begins;
              fresh = o.fresh;
              goes_on = inr o.goes_on;
              more = o.more;
              ends = (r, part);
            },
          )
      by false f = (
        next past x,
        record {
          begins = (r, part);
          fresh = λ on. let t = (each past).1 on in cc;
          goes_on = inl refl;
          more = λ m q from to here. absurd (not-after past x (upto-trans (next past x) m past from to));
          ends = (r, part);
        },
      )

  module _ (first past : History) (x : Step) (reading : IsReading first (next past x) d) where
    abbrev h : History
    h = next past x

    -- at each moment of it from its first part on it is read on
    pub reads-on : (j : History) → IsUpTo first j → IsUpTo j past → IsReadOn j d
    unfolding Once Since
    reads-on (opening m) from to = absurd (let none = (subst (λ k. (r : Reply) × IsPart k d r) (sym from) reading.begins).1.1.0.1 in cc)
    reads-on (next p y) from to = by (λ low up. reads-on p low up) (found.is_part (at p) (now (next p y)) y d (λ r shown. true)) refl
      where
        by : (IsUpTo first p → IsUpTo p past → IsReadOn p d) → (b : Bool)
            → found.is_part (at p) (now (next p y)) y d (λ r shown. true) ≡ b → IsReadOn (next p y) d
        by rest true t =
            let part = (part-is p y d).0 t in
            inl (subst (λ q. IsPart (next p y) d q) (reading.more (next p y) part.0 from to part.1) part.1)
        by rest false f = elim from [
          | inl same ↦ absurd (let t = (part-is p y d).1 (subst (λ k. (r : Reply) × IsPart k d r) (sym same) reading.begins) in cc)
          | inr low ↦ inr (
            λ r part. let t = (part-is p y d).1 (r, part) in cc,
            rest low (upto-trans p (next p y) past (upto-next p p y (upto-itself p)) to),
          )
        ]

    -- it began before its last part
    pub before-past : IsUpTo (before first) past
    unfolding Once
    before-past = elim reading.goes_on [
      | inl same ↦ subst (λ k. IsUpTo (before k) past) same (upto-itself past)
      | inr low ↦ upto-trans (before first) first past (upto-before first) low
    ]

    -- what is so at a moment of the reading has been so since it began, and is found there
    pub moment-since : (P : History → Type 0) (m : History) → IsMomentOf m first h → P m → During P past
    moment-since P m moment holds = since-from P (λ k. IsReadOn k d) m past moment.1 holds (λ j from to.
        elim (upto-either first j h reading.goes_on (upto-next j past x to)) [
          | inl after ↦ inr (reads-on j after to)
          | inr low ↦ inl (upto-same j m (upto-trans j (before first) m low moment.0) from)
        ])

    pub since-moment : (P : History → Type 0) → During P past → (m : History) × IsMomentOf m first h × P m
    since-moment P since =
        let it = since-found P (λ k. IsReadOn k d) past since in
        (it.0, (by it.0 it.1 it.3, it.1), it.2)
      where
        by : (m : History) → IsUpTo m past
            → ((j : History) → IsUpTo m j → IsUpTo j past → (j ≡ m) ⊎ IsReadOn j d) → IsUpTo (before first) m
        by m up each = elim (upto-either (before first) m past before-past up) [
          | inl low ↦ low
          | inr low ↦ elim (each (before first) (upto-trans m _ (before first) low (upto-before (before first))) before-past) [
            | inl same ↦ subst (λ k. IsUpTo (before first) k) same (upto-itself (before first))
            | inr on ↦ absurd (reading.fresh on)
          ]
        ]

    -- ---- what it shows

    -- it shows a name where its last part does, or one before
    pub shown-to : (N : List ℕ → Type 0) → (name : List ℕ) × Shows first h d name × N name → ShowsOne N h ⊎ HasShown N past
    unfolding Once
    shown-to N (name, (m, r, shown, k, from, to, reads, is), holds) = elim to [
      | inl same ↦ inl (subst (ShowsOne N) (sym same) (r, shown, reads, (k, name, is, holds)))
      | inr low ↦ inr (moment-since (λ j. IsReadOn j d × ShowsOne N j) m
          (upto-trans (before first) first m (upto-before first) from, low) (reads-on m from low, (r, shown, reads, (k, name, is, holds))))
    ]

    pub shown-from : (N : List ℕ → Type 0) → ShowsOne N h ⊎ HasShown N past → (name : List ℕ) × Shows first h d name × N name
    shown-from N (inl (r, shown, reads, (k, name, is, holds))) =
        (name, (h, r, shown, k, reading.goes_on, upto-itself h, reads, is), holds)
    shown-from N (inr since) =
        let it = since-moment (λ j. IsReadOn j d × ShowsOne N j) since in
        by it.0 it.1 it.2.0 it.2.1
      where
        by : (m : History) → IsMomentOf m first h → IsReadOn m d → ShowsOne N m → (name : List ℕ) × Shows first h d name × N name
        by m moment on (r, shown, reads, (k, name, is, holds)) =
            let to = upto-next m past x moment.1 in
            elim (upto-either first m h reading.goes_on to) [
              | inl from ↦ (name, (m, r, shown, k, from, to, reads, is), holds)
              | inr low ↦ absurd (reading.fresh (subst (λ j. IsReadOn j d) (upto-same m (before first) low moment.0) on))
            ]

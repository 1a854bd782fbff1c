-- Two histories as one are legal unless a name is used again, and then they are not.
use Rattle.std.proofs.Common.{ℕ, ◌≡◌, ◌≤◌, ◌+◌, ◌-◌, ◌++◌, List, [], ◌∷◌, Option, Some, None, refl, sym, ap, subst, ◌∙◌, inl, inr, length, take, slice_get, arith}
use Rattle.std.specs.FinMap as finmap
use Rattle.std.proofs.lemmas.Bool.{cases_lt}
use Rattle.std.proofs.lemmas.List.{take_all, take-append-le, take-map}
use Rattle.std.proofs.lemmas.Option.{slice_get_within, slice_get-map}
use Rattle.std.proofs.Math.Seq.{take-append-add}
use Rattle.md_core.proofs.Values.{Change, Effect, Listed, Names, names_after_change, names_after, IsNowhere, WasNowhere, IsAllowed, IsAllowedAfter, IsLegal, option_map, job_after, numbered_after, joined, AddsName, UsesAgain, HasJobsTo, HasJobsFromOne}
use Rattle.md_jobs.specs.declared.effect.Change.TheVariants as change
use Rattle.md_core.proofs.Lists.Places.{at_joint, get-second}
use Rattle.md_core.proofs.Mailbox.Allowed.{FitsNames, allowed-fits, allowed-fresh}

-- the name that an allowed effect adds is fresh
added-fresh : (m : Names) (P : List ℕ → Type 0) (c : Change) (u : List ℕ) → FitsNames m P c → AddsName c u → P u
added-fresh m P (change.Add folder place name size) u fits adds = subst P adds fits.1
added-fresh m P c u fits adds = absurd adds

names-joined : (m : Names) (es fs : List Effect) → names_after m (es ++ fs) ≡ names_after (names_after m es) fs
names-joined m [] fs = refl
names-joined m (e ∷ es) fs = names-joined (names_after_change m e.change) es fs

-- numbers of jobs are no matter of names
names-numbered : (n : ℕ) (m : Names) (es : List Effect) → names_after m (numbered_after n es) ≡ names_after m es
names-numbered n m [] = refl
names-numbered n m (e ∷ es) = names-numbered n (names_after_change m e.change) es

module _ (opening : Names) (earlier later : List Effect) (jobs : ℕ) where
  abbrev middle : Names
  middle = names_after opening earlier

  abbrev all : List Effect
  all = joined jobs earlier later

  -- the first effects of the two as one
  first-joined : (j : ℕ) → take (length earlier + j) all ≡ joined jobs earlier (take j later)
  first-joined j = take-append-add earlier (numbered_after jobs later) j ∙ ap (λ es. earlier ++ es) (take-map (job_after jobs) j later)

  names-at : (j : ℕ) → names_after opening (joined jobs earlier (take j later)) ≡ names_after middle (take j later)
  names-at j = names-joined opening earlier (numbered_after jobs (take j later)) ∙ names-numbered jobs middle (take j later)

  late-at : (j : ℕ) (o : Option Effect) → slice_get later j ≡ o → slice_get (numbered_after jobs later) j ≡ option_map (job_after jobs) o
  late-at j o is = slice_get-map (job_after jobs) later j ∙ ap (option_map (job_after jobs)) is

  -- an effect of the later history, as it is in the two as one
  late-effect : (j : ℕ) (x : Effect) → slice_get (numbered_after jobs later) j ≡ Some x →
      (e : Effect) × (slice_get later j ≡ Some e) × (x ≡ job_after jobs e)
  late-effect j x at = by (slice_get later j) refl
    where
      by : (o : Option Effect) → slice_get later j ≡ o → (e : Effect) × (o ≡ Some e) × (x ≡ job_after jobs e)
      by None is = let h : None ≡ Some x = sym (late-at j None is) ∙ at in cc
      by (Some e) is = let h : Some (job_after jobs e) ≡ Some x = sym (late-at j (Some e) is) ∙ at in (e, refl, cc)

  get-late : (j : ℕ) (e : Effect) → slice_get later j ≡ Some e → slice_get all (length earlier + j) ≡ Some (job_after jobs e)
  get-late j e at = get-second earlier (numbered_after jobs later) (length earlier + j) j refl ∙ late-at j (Some e) at

  -- a name that no effect may use again was nowhere in the earlier history
  nowhere-earlier : (UsesAgain opening earlier later → ⊥) → (j : ℕ) (e : Effect) → slice_get later j ≡ Some e → (u : List ℕ) → AddsName e.change u →
      WasNowhere opening earlier u
  nowhere-earlier never j e at u adds k = by (finmap.get (names_after opening (take k earlier)) u) refl
    where
      by : (o : Option Listed) → finmap.get (names_after opening (take k earlier)) u ≡ o → o ≡ None
      by None is = refl
      by (Some x) is = absurd (never (record { unique = u; i = j; effect = e; at = at; adds = adds; k = k; message = x; had = is }))

  -- a name that was nowhere in both is nowhere in the two as one
  nowhere-joined : (j : ℕ) (u : List ℕ) → WasNowhere opening earlier u → WasNowhere middle (take j later) u →
      WasNowhere opening (joined jobs earlier (take j later)) u
  nowhere-joined j u first second k = elim (cases_lt k (length earlier)) [
    | inl early ↦ subst (λ (es : List Effect). IsNowhere (names_after opening es) u)
        (sym (take-append-le k earlier (numbered_after jobs (take j later)) (omega (arith, early)))) (first k)
    | inr late ↦
        let i = k - length earlier in
        let e : k ≡ length earlier + i = omega (arith, late) in
        let same : names_after opening (take k (joined jobs earlier (take j later))) ≡ names_after middle (take i (take j later)) =
        ap (λ n. names_after opening (take n (joined jobs earlier (take j later)))) e
        ∙ ap (names_after opening) (take-append-add earlier (numbered_after jobs (take j later)) i)
        ∙ names-joined opening earlier (take i (numbered_after jobs (take j later)))
        ∙ ap (names_after middle) (take-map (job_after jobs) i (take j later))
        ∙ names-numbered jobs middle (take i (take j later)) in
        subst (λ (m : Names). IsNowhere m u) (sym same) (second i)
  ]

  module _ (folders : ℕ) where
    -- the two as one
    module _ (first : IsLegal folders opening earlier) (second : IsLegal folders middle later) (to : HasJobsTo jobs earlier)
        (from : HasJobsFromOne later) (never : UsesAgain opening earlier later → ⊥) where
      once : (i j : ℕ) (a b : Effect) → slice_get all i ≡ Some a → slice_get all j ≡ Some b → a.job ≡ b.job → i ≡ j
      once i j a b ata atb same =
          at_joint earlier (numbered_after jobs later) i a ata
          (λ earlya. at_joint earlier (numbered_after jobs later) j b atb
          (λ earlyb. first.once i j a b earlya earlyb same)
          (λ l _ lateb. absurd (apart i a l b earlya lateb same)))
          (λ k ek latea. at_joint earlier (numbered_after jobs later) j b atb
          (λ earlyb. absurd (apart j b k a earlyb latea (sym same)))
          (λ l el lateb.
          let x = late-effect k a latea in
          let y = late-effect l b lateb in
          let jobs-same : jobs + x.0.job ≡ jobs + y.0.job = sym (ap (λ (z : Effect). z.job) x.2) ∙ same ∙ ap (λ (z : Effect). z.job) y.2 in
          let one : k ≡ l = second.once k l x.0 y.0 x.1 y.1 (omega (arith, jobs-same)) in
          omega (arith, ek, el, one)))
        where
          -- numbers of the later jobs are greater
          apart : (p : ℕ) (c : Effect) (q : ℕ) (d : Effect) → slice_get earlier p ≡ Some c → slice_get (numbered_after jobs later) q ≡ Some d →
              c.job ≡ d.job → ⊥
          apart p c q d atc atd equal =
              let y = late-effect q d atd in
              let low = to p c atc in
              let high = from q y.0 y.1 in
              let number : d.job ≡ jobs + y.0.job = ap (λ (z : Effect). z.job) y.2 in
              omega (arith, low, high, number, equal)

      each : (i : ℕ) (e : Effect) → slice_get all i ≡ Some e → IsAllowedAfter folders opening (take i all) e
      each i e at = at_joint earlier (numbered_after jobs later) i e at
          (λ early.
          let within : i ≤ length earlier = (let h = slice_get_within earlier i e early in omega (arith, h)) in
          subst (λ (es : List Effect). IsAllowedAfter folders opening es e)
          (sym (take-append-le i earlier (numbered_after jobs later) within)) (first.each i e early))
          (λ j ej late.
          let x = late-effect j e late in
          let before = second.each j x.0 x.1 in
          let now = names_after middle (take j later) in
          let allowed : IsAllowed folders now (WasNowhere opening (joined jobs earlier (take j later))) x.0.answer x.0.change =
          allowed-fresh folders now (WasNowhere middle (take j later)) (WasNowhere opening (joined jobs earlier (take j later)))
          x.0.answer x.0.change (λ u adds was. nowhere-joined j u (nowhere-earlier never j x.0 x.1 u adds) was) before in
          let here : IsAllowedAfter folders opening (joined jobs earlier (take j later)) x.0 =
          subst (λ (m : Names). IsAllowed folders m (WasNowhere opening (joined jobs earlier (take j later))) x.0.answer x.0.change)
          (sym (names-at j)) allowed in
          subst (λ (es : List Effect). IsAllowedAfter folders opening es e) (sym (ap (λ n. take n all) ej ∙ first-joined j))
          (subst (λ (y : Effect). IsAllowedAfter folders opening (joined jobs earlier (take j later)) y) (sym x.2) here))

      pub legal-joined : IsLegal folders opening all
      legal-joined = record { once = once; each = each }

    -- a name that is used again is not fresh in the two as one
    pub never-again : IsLegal folders opening all → UsesAgain opening earlier later → ⊥
    never-again legal again = at_moment again.k again.had
      where
        e : Effect
        e = again.effect

        fresh : WasNowhere opening (joined jobs earlier (take again.i later)) again.unique
        fresh =
            let before = take (length earlier + again.i) all in
            let allowed = legal.each (length earlier + again.i) (job_after jobs e) (get-late again.i e again.at) in
            subst (λ (es : List Effect). WasNowhere opening es again.unique) (first-joined again.i)
            (added-fresh (names_after opening before) (WasNowhere opening before) e.change again.unique
            (allowed-fits folders (names_after opening before) (WasNowhere opening before) e.answer e.change allowed) again.adds)

        none-within : (k : ℕ) → k ≤ length earlier → IsNowhere (names_after opening (take k earlier)) again.unique
        none-within k within = subst (λ (es : List Effect). IsNowhere (names_after opening es) again.unique)
            (take-append-le k earlier (numbered_after jobs (take again.i later)) within) (fresh k)

        none-at : (k : ℕ) → IsNowhere (names_after opening (take k earlier)) again.unique
        none-at k = elim (cases_lt k (length earlier)) [
          | inl within ↦ none-within k (omega (arith, within))
          | inr past ↦ subst (λ (es : List Effect). IsNowhere (names_after opening es) again.unique)
              (take_all (length earlier) earlier (omega arith) ∙ sym (take_all k earlier past)) (none-within (length earlier) (omega arith))
        ]

        at_moment : (k : ℕ) → finmap.get (names_after opening (take k earlier)) again.unique ≡ Some again.message → ⊥
        at_moment k had = let none = none-at k in cc

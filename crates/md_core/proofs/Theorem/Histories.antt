-- The history of a run: it is legal, it gives the names of the mailbox, and it has the effect of each job that had one.
use Rattle.std.proofs.Common.{ℕ, zero, suc, ◌≡◌, ◌≢◌, ◌<◌, ◌≤◌, length, ◌++◌, List, [], ◌∷◌, Option, Some, None, Bool, true, false, cond, MatchBool, MatchOption, IfSome, refl, sym, ap, subst, ◌∙◌, filter, slice_get, arith, ◌==◌}
use Rattle.std.proofs.lemmas.Bool.Decides.{nat_tests}
use Rattle.std.proofs.lemmas.List.{append-nil, take-append-le, take_at}
use Rattle.std.proofs.lemmas.List.Elements.{filter-append}
use Rattle.std.proofs.lemmas.Option.{slice_get_within}
use Rattle.md_core.proofs.Values.{Call, Answer, Task, Effect, mailbox_of, Names, names_of, names_after_change, names_after, WasNowhere, IsAllowed, IsAllowedAfter, IsLegal, Machine, Standing, working, answered, standing_of, Step, AsAlone, is_success, MakesMessage, option_to_list, option_or}
use Rattle.md_core.proofs.Induction.Good.{IsGood, own_effect, Affects, Settles}
use Rattle.md_core.proofs.Lists.Places.{at_end}
use Rattle.md_core.proofs.Induction.Going.{Goes, AllApart, goes-cases, goes-as_many, still-working}
use Rattle.md_core.proofs.Theorem.Effects.{nowhere-kept, after-push, now-nowhere, was_nowhere-push}
use Rattle.md_core.proofs.Mailbox.Allowed.{allowed-fresh, allowed-fits}

-- the effects that a job has had, by how it stands
abbrev pub Has : ℕ → Standing → List Effect → Type 0
Has number (working task) es = es ≡ option_to_list (own_effect number task)
Has number (answered a) es = MatchBool (is_success a) ((e : Effect) × (es ≡ e ∷ []) × (e.answer ≡ a)) (es ≡ [])

-- the history of a machine, from the names at the opening
pub record Tells (folders : ℕ) (opening : Names) (calls : List Call) (m : Machine) : Type 0 where
  pub folders_stay : m.dirs.folders ≡ folders
  pub legal : IsLegal folders opening m.effects
  pub names : names_after opening m.effects ≡ names_of (mailbox_of m.dirs)
  -- a name that a job without an effect makes was nowhere
  pub nowhere : (j : ℕ) (asked : Call) (task : Task) (u : List ℕ) → slice_get calls j ≡ Some asked → slice_get m.jobs j ≡ Some (working task) →
      own_effect (suc j) task ≡ None → MakesMessage asked u → WasNowhere opening m.effects u
  -- a job has the one effect that it had, or none
  pub own : (j : ℕ) (job : Standing) → slice_get m.jobs j ≡ Some job → Has (suc j) job (filter (λ e. e.job == suc j) m.effects)
  -- each effect is of a job that is there
  pub there : (i : ℕ) (e : Effect) → slice_get m.effects i ≡ Some e → (0 < e.job) × (e.job ≤ length m.jobs)

-- what no element passes finds none
none_passes : {X : Type 0} (p : X → Bool) (xs : List X) (i : ℕ) (x : X) → filter p xs ≡ [] → slice_get xs i ≡ Some x → p x ≡ true → ⊥
none_passes p [] i x none at is = cc
none_passes p (y ∷ xs) i x none at is = by (λ k h at'. none_passes p xs k x h at' is) (p y) refl i none at
  where
    by : ((k : ℕ) → filter p xs ≡ [] → slice_get xs k ≡ Some x → ⊥) → (b : Bool) → p y ≡ b → (k : ℕ) → cond b (y ∷ filter p xs) (filter p xs) ≡ [] →
        slice_get (y ∷ xs) k ≡ Some x → ⊥
    by rest true t k h at' = cc
    by rest false t zero h at' = let same : y ≡ x = cc in let yes : p y ≡ true = ap p same ∙ is in cc
    by rest false t (suc k) h at' = rest k h at'

same_number : (n : ℕ) → (n == n) ≡ true
same_number n = grind (arith, nat_tests)

other_number : (n k : ℕ) → n ≢ k → (n == k) ≡ false
other_number n k differ = grind (arith, nat_tests)

-- how a job stands after a turn that leaves it with this effect, or none
has-standing : (number : ℕ) (task : Task) (o : Option Answer) (had : Option Effect) → MatchOption o (own_effect number task ≡ had) (Settles had) →
    Has number (standing_of task o) (option_to_list had)
has-standing number task None had is = ap option_to_list (sym is)
has-standing number task (Some a) had settles = by (is_success a) settles
  where
    by : (b : Bool) → MatchBool b ((e : Effect) × (had ≡ Some e) × (e.answer ≡ a)) (had ≡ None) →
        MatchBool b ((e : Effect) × (option_to_list had ≡ e ∷ []) × (e.answer ≡ a)) (option_to_list had ≡ [])
    by true h = (h.0, ap option_to_list h.1, h.2)
    by false h = ap option_to_list h

module _ (folders : ℕ) (opening : Names) (calls : List Call) (apart : AllApart calls) (m m' : Machine) (what : Step) (g : Goes calls m m' what)
    (good : IsGood calls m) (tells : Tells folders opening calls m) where
  abbrev number : ℕ
  number = what.job

  at_number : suc g.place ≡ number
  at_number = sym g.number_is

  as_many : length m'.jobs ≡ length m.jobs
  as_many = goes-as_many calls m m' what g

  -- the effects of the job before
  mine-before : filter (λ (e : Effect). e.job == number) m.effects ≡ option_to_list (own_effect number g.task)
  mine-before = subst (λ (n : ℕ). filter (λ (e : Effect). e.job == n) m.effects ≡ option_to_list (own_effect n g.task)) at_number
      (tells.own g.place (working g.task) g.there)

  -- the job that took its turn is as it should be, if its effects are these
  own-here : (es : List Effect) (j : ℕ) (job : Standing) → j ≡ g.place → job ≡ standing_of g.task' what.answer →
      filter (λ (e : Effect). e.job == number) es ≡ option_to_list (option_or what.effect (own_effect number g.task)) →
      Has (suc j) job (filter (λ (e : Effect). e.job == suc j) es)
  own-here es j job same is all =
      let n : number ≡ suc j = sym (ap suc same ∙ at_number) in
      subst (λ (k : ℕ). Has k job (filter (λ (e : Effect). e.job == k) es)) n
      (subst (λ (x : Standing). Has number x (filter (λ (e : Effect). e.job == number) es)) (sym is)
      (subst (Has number (standing_of g.task' what.answer)) (sym all)
      (has-standing number g.task' what.answer (option_or what.effect (own_effect number g.task)) g.does.settles)))

  -- a job that works on without an effect was without one before
  before : {C : Type 0} (j : ℕ) (asked : Call) (task : Task) → slice_get calls j ≡ Some asked → slice_get m'.jobs j ≡ Some (working task) →
      own_effect (suc j) task ≡ None →
      ((t : Task) → slice_get m.jobs j ≡ Some (working t) → own_effect (suc j) t ≡ None → (j ≡ g.place → what.effect ≡ None) → C) → C
  before j asked task of at without then = goes-cases calls m m' what g j (working task) at
      (λ same is.
      let on = still-working task g.task' what.answer is in
      let n : suc j ≡ number = ap suc same ∙ at_number in
      let kept : own_effect number g.task' ≡ option_or what.effect (own_effect number g.task) =
      subst (λ (o : Option Answer). MatchOption o (own_effect number g.task' ≡ option_or what.effect (own_effect number g.task))
      (Settles (option_or what.effect (own_effect number g.task)))) on.0 g.does.settles in
      let none : option_or what.effect (own_effect number g.task) ≡ None = sym kept ∙ ap (own_effect number) (sym on.1) ∙
      ap (λ k. own_effect k task) (sym n) ∙ without in
      let both = neither what.effect (own_effect number g.task) none in
      then g.task (ap (slice_get m.jobs) same ∙ g.there) (ap (λ k. own_effect k g.task) n ∙ both.1) (λ _. both.0))
      (λ differ was. then task was without (λ same. absurd (differ same)))
    where
      neither : (a b : Option Effect) → option_or a b ≡ None → (a ≡ None) × (b ≡ None)
      neither None b is = (refl, is)
      neither (Some e) b is = cc

  -- a turn that is no effect
  module _ (none : what.effect ≡ None) where
    effects-same : m'.effects ≡ m.effects
    effects-same = g.effects ∙ ap (λ o. m.effects ++ option_to_list o) none ∙ append-nil m.effects

    mailbox-same : mailbox_of m'.dirs ≡ mailbox_of m.dirs
    mailbox-same = subst (λ (o : Option Effect). AsAlone g.asked o (mailbox_of m.dirs) (mailbox_of m'.dirs)) none g.does.as_alone

    pub tells-quiet : Tells folders opening calls m'
    tells-quiet = record {
      folders_stay = g.does.folders ∙ tells.folders_stay;
      legal = subst (IsLegal folders opening) (sym effects-same) tells.legal;
      names = ap (names_after opening) effects-same ∙ tells.names ∙ ap names_of (sym mailbox-same);
      nowhere = λ j asked task u of at without makes. before j asked task of at without
          (λ t was own _. subst (λ (es : List Effect). WasNowhere opening es u) (sym effects-same) (tells.nowhere j asked t u of was own makes));
      own = λ j job at. goes-cases calls m m' what g j job at
          (λ same is. own-here m'.effects j job same is (ap (filter (λ (e : Effect). e.job == number)) effects-same ∙ mine-before ∙
          ap (λ o. option_to_list (option_or o (own_effect number g.task))) (sym none)))
          (λ differ was. subst (λ (es : List Effect). Has (suc j) job (filter (λ (e : Effect). e.job == suc j) es)) (sym effects-same) (tells.own j job was));
      there = λ i e at. let was = tells.there i e (ap (λ (es : List Effect). slice_get es i) (sym effects-same) ∙ at) in (was.0, omega (arith, was.1, as_many));
    }

  -- a turn that is an effect
  module _ (e : Effect) (some : what.effect ≡ Some e) where
    effects-more : m'.effects ≡ m.effects ++ e ∷ []
    effects-more = g.effects ∙ ap (λ o. m.effects ++ option_to_list o) some

    affects : Affects number g.asked m.dirs.folders (mailbox_of m.dirs) (mailbox_of m'.dirs) e
    affects = subst (λ (o : Option Effect). IfSome o (Affects number g.asked m.dirs.folders (mailbox_of m.dirs) (mailbox_of m'.dirs))) some g.does.effect

    first : own_effect number g.task ≡ None
    first = subst (λ (o : Option Effect). IfSome o (λ _. own_effect number g.task ≡ None)) some g.does.first

    -- no effect before is of this job
    no_earlier : filter (λ (x : Effect). x.job == number) m.effects ≡ []
    no_earlier = mine-before ∙ ap option_to_list first

    is_first : (i : ℕ) (x : Effect) → slice_get m.effects i ≡ Some x → x.job ≡ e.job → ⊥
    is_first i x at same =
        none_passes (λ (y : Effect). y.job == number) m.effects i x no_earlier at (ap (λ n. n == number) (same ∙ affects.of) ∙ same_number number)

    -- it is allowed among the names of the history so far, and its job makes only names that were nowhere
    allowed-now : IsAllowed folders (names_after opening m.effects) (MakesMessage g.asked) e.answer e.change
    allowed-now = subst (λ (n : Names). IsAllowed folders n (MakesMessage g.asked) e.answer e.change) (sym tells.names)
        (subst (λ (n : ℕ). IsAllowed n (names_of (mailbox_of m.dirs)) (MakesMessage g.asked) e.answer e.change) tells.folders_stay affects.allowed)

    fresh : (u : List ℕ) → MakesMessage g.asked u → WasNowhere opening m.effects u
    fresh u makes = tells.nowhere g.place g.asked g.task u g.of g.there (ap (λ n. own_effect n g.task) at_number ∙ first) makes

    allowed : IsAllowedAfter folders opening m.effects e
    allowed = allowed-fresh folders (names_after opening m.effects) (MakesMessage g.asked) (WasNowhere opening m.effects) e.answer e.change (λ u _. fresh u) allowed-now

    legal-more : IsLegal folders opening (m.effects ++ e ∷ [])
    legal-more = record {
      once = λ i j a b ata atb same.
          at_end m.effects e i a ata
          (λ earlya. at_end m.effects e j b atb
          (λ earlyb. tells.legal.once i j a b earlya earlyb same)
          (λ endb isb. absurd (is_first i a earlya (same ∙ ap (λ (x : Effect). x.job) isb))))
          (λ enda isa. at_end m.effects e j b atb
          (λ earlyb. absurd (is_first j b earlyb (sym same ∙ ap (λ (x : Effect). x.job) isa)))
          (λ endb isb. enda ∙ sym endb));
      each = λ i x at. at_end m.effects e i x at
          (λ early. subst (λ (es : List Effect). IsAllowedAfter folders opening es x)
          (sym (take-append-le i m.effects (e ∷ []) (let h = slice_get_within m.effects i x early in omega arith))) (tells.legal.each i x early))
          (λ end is. subst (λ (es : List Effect). IsAllowedAfter folders opening es x) (sym (take_at m.effects (e ∷ []) i (sym end)))
          (subst (IsAllowedAfter folders opening m.effects) (sym is) allowed));
    }

    names-more : names_after opening (m.effects ++ e ∷ []) ≡ names_of (mailbox_of m'.dirs)
    names-more = after-push opening m.effects e ∙ ap (λ (n : Names). names_after_change n e.change) tells.names ∙ sym affects.changes

    own-other : (j : ℕ) → j ≢ g.place → filter (λ (x : Effect). x.job == suc j) (m.effects ++ e ∷ []) ≡ filter (λ (x : Effect). x.job == suc j) m.effects
    own-other j differ =
        let other : e.job ≢ suc j = (λ is. differ (let h : suc g.place ≡ suc j = at_number ∙ sym affects.of ∙ is in omega arith)) in
        filter-append (λ (x : Effect). x.job == suc j) m.effects (e ∷ [])
        ∙ ap (λ b. filter (λ (x : Effect). x.job == suc j) m.effects ++ cond b (e ∷ []) []) (other_number e.job (suc j) other)
        ∙ append-nil (filter (λ (x : Effect). x.job == suc j) m.effects)

    mine-after : filter (λ (x : Effect). x.job == number) (m.effects ++ e ∷ []) ≡ e ∷ []
    mine-after =
        filter-append (λ (x : Effect). x.job == number) m.effects (e ∷ [])
        ∙ ap (λ es. es ++ filter (λ (x : Effect). x.job == number) (e ∷ [])) no_earlier
        ∙ ap (λ b. cond b (e ∷ []) []) (ap (λ k. k == number) affects.of ∙ same_number number)

    pub tells-loud : Tells folders opening calls m'
    tells-loud = record {
      folders_stay = g.does.folders ∙ tells.folders_stay;
      legal = subst (IsLegal folders opening) (sym effects-more) legal-more;
      names = ap (names_after opening) effects-more ∙ names-more;
      nowhere = λ j asked task u of at without makes. before j asked task of at without (λ t was own mine.
          let nowhere = tells.nowhere j asked t u of was own makes in
          let other : j ≢ g.place = (λ same. let h = mine same in cc) in
          subst (λ (es : List Effect). WasNowhere opening es u) (sym effects-more)
          (was_nowhere-push opening m.effects e u nowhere
          (nowhere-kept (names_after opening m.effects) (MakesMessage g.asked) e.change u
          (allowed-fits folders (names_after opening m.effects) (MakesMessage g.asked) e.answer e.change allowed-now)
          (λ its. apart g.place j g.asked asked (λ same. other (sym same)) g.of of u its makes) (now-nowhere opening m.effects u nowhere))));
      own = λ j job at. goes-cases calls m m' what g j job at
          (λ same is. own-here m'.effects j job same is (ap (filter (λ (x : Effect). x.job == number)) effects-more ∙ mine-after ∙
          ap (λ o. option_to_list (option_or o (own_effect number g.task))) (sym some)))
          (λ differ was. subst (Has (suc j) job) (sym (ap (filter (λ (x : Effect). x.job == suc j)) effects-more ∙ own-other j differ)) (tells.own j job was));
      there = λ i x at. at_end m.effects e i x (ap (λ (es : List Effect). slice_get es i) (sym effects-more) ∙ at)
          (λ early. let was = tells.there i x early in (was.0, omega (arith, was.1, as_many)))
          (λ end is.
          let job : x.job ≡ suc g.place = ap (λ (y : Effect). y.job) is ∙ affects.of ∙ g.number_is in
          let within = slice_get_within m.jobs g.place (working g.task) g.there in
          (omega (arith, job), omega (arith, job, within, as_many)));
    }

  pub tells-more : Tells folders opening calls m'
  tells-more = by what.effect refl
    where
      by : (o : Option Effect) → what.effect ≡ o → Tells folders opening calls m'
      by None none = tells-quiet none
      by (Some e) some = tells-loud e some

-- The clauses on files: in new and cur, those that are no messages stay as they are; in tmp, a delivery changes its own, and a clean takes
-- away what it saw to be old.
use Rattle.md_core.proofs.Machines.Errand.Asks.{errand-of-mail, no-append}
use Rattle.std.proofs.Common.{ℕ, zero, suc, ◌≡◌, ◌≤◌, ◌+◌, List, Option, Some, None, Bool, true, false, cond, refl, sym, ap, subst, ◌∙◌, length, take, arith}
use Rattle.std.proofs.lemmas.List.{take_all}
use Rattle.md_core.proofs.Values.{State, IsSound, file_at, file_by, Path, Tmp, Call, DirReply, Moment, Task, Deliver, Errand, Clean, Delivery, Stage, is_tmp, is_message, Asked, create, append, link, rename, unlink, list, ask_of, state_by, Step, call_at, Trace, step_at, state, state_after, file_in, turn_of, Run, machine_at, IsRun, IsTmpOf, trace_of, errand_turn, option_and_then, after_append, file_with_more, with_path, without_path, with_files_still_named, is_one_file, File}
use Rattle.md_dirs.proofs.Sound.{file_by-push, file_by-set_other, number-within, swept-kept}
use Rattle.md_jobs.specs.Tasks.Cleaning as cleaning
use Rattle.md_jobs.specs.declared.step.DirReply.TheVariants as reply
use Rattle.md_jobs.specs.Machines.Clean as cleaned_by
use Rattle.md_core.proofs.Induction.Good.{TaskFits, DeliveryFits, StageFits}
use Rattle.md_core.proofs.Lists.Places.{at_place, take-one_more}
use Rattle.md_core.proofs.Answers.Moments.{its-call, its-fits, at}
use Rattle.md_core.proofs.Traces.Same.{state-same, state-none, state-more}
use Rattle.md_core.proofs.Traces.Stands.{turn-of}
use Rattle.md_core.proofs.Traces.Headline.{theorem}
use Rattle.md_core.proofs.Answers.Files.Asking.{asked_at}
use Rattle.md_jobs.proofs.Cases.{by-delivery}

-- the call writes to no file that the path names
abbrev pub Away : State → Path → Asked → Type 0
Away s q (append p bytes) = (n : ℕ) → file_at s q ≡ Some n → file_at s p ≡ Some n → ⊥
Away s q other = Unit {0}

module _ (s : State) (sound : IsSound s) (clock : ℕ) (q : Path) (n : ℕ) (here : file_at s q ≡ Some n) where
  abbrev After : Asked → DirReply → State
  After asked r = state_by (ask_of asked clock) s r

  kept-append : (bytes : List ℕ) (o : Option ℕ) → (o ≡ Some n → ⊥) → file_by (after_append bytes clock s o).files n ≡ file_by s.files n
  kept-append bytes None away = refl
  kept-append bytes (Some m) away = file_by-set_other s.files m n (file_with_more bytes clock (file_by s.files m)) (λ same. away (ap Some (sym same)))

  files-named : (p : Path) (x : State) (o : Option ℕ) → (with_path p x o).files ≡ x.files
  files-named p x None = refl
  files-named p x (Some m) = refl

  kept-rename : (old new : Path) (b : Bool) →
      let after = cond b s (with_files_still_named (file_at s new) (with_path new (without_path old s) (file_at s old))) in
      file_at after q ≡ Some n → file_by after.files n ≡ file_by s.files n
  kept-rename old new true there = refl
  kept-rename old new false there =
      swept-kept (file_at s new) (with_path new (without_path old s) (file_at s old)) q n there
      ∙ ap (λ (fs : List (Option File)). file_by fs n) (files-named new (without_path old s) (file_at s old))

  kept : (asked : Asked) (r : DirReply) → Away s q asked → file_at (After asked r) q ≡ Some n → file_by (After asked r).files n ≡ file_by s.files n
  kept (create p) reply.Ok away there = file_by-push s.files _ n (number-within s sound q n here)
  kept (append p bytes) reply.Ok away there = kept-append bytes (file_at s p) (λ is. away n here is)
  kept (link old new) reply.Ok away there = ap (λ (fs : List (Option File)). file_by fs n) (files-named new s (file_at s old))
  kept (rename old new) reply.Ok away there = kept-rename old new (is_one_file (file_at s old) (file_at s new)) there
  kept (unlink p) reply.Ok away there = swept-kept (file_at s p) (without_path p s) q n there
  kept (list folder place) reply.Ok away there = refl
  kept asked reply.Exists away there = refl
  kept asked other away there = refl

-- a path that names what it named has the same file, where nothing is written to it
pub file-kept : (s : State) (sound : IsSound s) (clock : ℕ) (q : Path) (asked : Asked) (r : DirReply) → Away s q asked →
    file_at (state_by (ask_of asked clock) s r) q ≡ file_at s q → file_in (state_by (ask_of asked clock) s r) q ≡ file_in s q
file-kept s sound clock q asked r away names = by (file_at s q) refl
  where
    by : (o : Option ℕ) → file_at s q ≡ o → file_in (state_by (ask_of asked clock) s r) q ≡ file_in s q
    by None is =
        ap (option_and_then (file_by (state_by (ask_of asked clock) s r).files)) (names ∙ is)
        ∙ sym (ap (option_and_then (file_by s.files)) is)
    by (Some n) is =
        ap (option_and_then (file_by (state_by (ask_of asked clock) s r).files)) (names ∙ is)
        ∙ kept s sound clock q n is asked r away (names ∙ is)
        ∙ sym (ap (option_and_then (file_by s.files)) is)

-- what is written to is the delivery's own file in tmp, which no other path names
pub record Writes (s : State) (asked : Call) (p : Path) : Type 0 where
  pub own : IsTmpOf p asked
  pub in_tmp : p.place ≡ Tmp
  pub only : (n : ℕ) (q : Path) → file_at s p ≡ Some n → file_at s q ≡ Some n → q ≡ p

pub tmp-of : (s : State) (asked : Call) (d : Delivery) (p : Path) → DeliveryFits s asked d → d.tmp ≡ p → IsTmpOf p asked
tmp-of s asked d p fits is = subst (IsTmpOf p) (sym fits.of)
    (sym is ∙ (λ i. record { folder = d.tmp.folder; place = fits.in_tmp i; name = d.tmp.name }))

module _ (s : State) (number : ℕ) (d : Delivery) (at : Moment) where
  delivery-appends : (p : Path) (bytes : List ℕ) (stage : Stage) → StageFits s d stage → asked_at number d at stage ≡ append p bytes →
      (d.tmp ≡ p) × ((n : ℕ) (q : Path) → file_at s d.tmp ≡ Some n → file_at s q ≡ Some n → q ≡ d.tmp)
  delivery-appends p bytes = by-delivery number d at (λ stage turn. StageFits s d stage → turn.asked ≡ append p bytes →
      (d.tmp ≡ p) × ((n : ℕ) (q : Path) → file_at s d.tmp ≡ Some n → file_at s q ≡ Some n → q ≡ d.tmp))
      (λ fits is. cc) (λ start k more fits is. (cc, λ n q a b. fits.2.only n q a b)) (λ start k all fits is. cc) (λ start k fits is. cc)
      (λ fits is. cc) (λ x fits is. cc)

pub appends : (s : State) (asked : Call) (number : ℕ) (at : Moment) (task : Task) → TaskFits s asked task → (p : Path) (bytes : List ℕ) →
    (turn_of number task at).asked ≡ append p bytes → Writes s asked p
appends s asked number at (Deliver d) fits p bytes is =
    let h = delivery-appends s number d at p bytes d.stage fits.stage is in
    record {
      own = tmp-of s asked d p fits h.0;
      in_tmp = ap (λ (x : Path). x.place) (sym h.0) ∙ fits.in_tmp;
      only = λ n q a b. h.1 n q (ap (file_at s) h.0 ∙ a) b ∙ h.0;
    }
appends s asked number at (Errand e) fits p bytes is =
    absurd (no-append (errand_turn number e).asked p bytes (errand-of-mail number e fits.stage) is)
appends s asked number at (Clean c) fits p bytes is = by c.stage is
  where
    by : (stage : cleaning.Stage) → (cleaned_by.stage_turn c at.own stage).asked ≡ append p bytes → Writes s asked p
    by cleaning.Look h = cc
    by (cleaning.Remove name rest files) h = cc

module _ (r : Run) (run : IsRun r) where
  abbrev t : Trace
  t = trace_of r

  -- a step leaves what its directory call leaves
  pub next-state : (k : ℕ) (x : Step) → step_at t k ≡ Some x → state t (k + 1) ≡ state_by (ask_of x.asked x.at.clock) (state t k) x.reply
  next-state k x is = ap (state_after r.image) (take-one_more t.steps k x is) ∙ state-more r.image (take k t.steps) x

  pub sound-at : (k : ℕ) → IsSound (state t k)
  sound-at k = subst (λ (s : State). IsSound s) (sym (state-same r run k)) ((theorem r run).safe k).sound

  -- what a step writes to
  pub writes : (k : ℕ) (x : Step) (is : step_at t k ≡ Some x) (p : Path) (bytes : List ℕ) → x.asked ≡ append p bytes →
      (c : Call) × (call_at r.calls x.job ≡ Some c) × Writes (state t k) c p
  writes k x is p bytes asked =
      let u = turn-of r run x.job k (record { step = x; at = is; own = refl }) in
      let c = its-call r run k x.job _ u.0.there in
      let fits = its-fits r run k x.job c.0 u.0.task c.1 u.0.there in
      let asks = sym (ap (λ (d : Step). d.asked) u.1) ∙ asked in (
        c.0,
        c.1,
        subst (λ (s : State). Writes s c.0 p) (sym (state-same r run k))
            (appends (machine_at r k).dirs c.0 u.0.event.event.job (at r k x.job u.0) u.0.task fits p bytes asks),
      )

  -- files in new and cur that are no messages
  module _ (p : Path) (not_tmp : is_tmp p.place ≡ false) (not_message : is_message p ≡ false) where
    name-stays : (k : ℕ) → file_at (state t k) p ≡ file_at r.image p
    name-stays k = ap (λ (s : State). file_at s p) (state-same r run k) ∙ ((theorem r run).safe k).others p not_tmp not_message

    away : (k : ℕ) (x : Step) → step_at t k ≡ Some x → (asked : Asked) → x.asked ≡ asked → Away (state t k) p asked
    away k x is (append q bytes) asks = λ n here there.
        let w = writes k x is q bytes asks in
        let same : p ≡ q = w.2.only n p there here in
        let tmp : is_tmp p.place ≡ true = ap (λ (y : Path). is_tmp y.place) same ∙ ap is_tmp w.2.in_tmp in cc
    away k x is other asks = tt

    stays-one : (k : ℕ) → file_in (state t (k + 1)) p ≡ file_in (state t k) p
    stays-one k = at_place t.steps k
        (λ x is.
        ap (λ (s : State). file_in s p) (next-state k x is)
        ∙ file-kept (state t k) (sound-at k) x.at.clock p x.asked x.reply (away k x is x.asked refl)
        (ap (λ (s : State). file_at s p) (sym (next-state k x is)) ∙ name-stays (k + 1) ∙ sym (name-stays k)))
        (λ past. ap (λ (s : State). file_in s p) (over k past))
      where
        over : (i : ℕ) → length t.steps ≤ i → state t (i + 1) ≡ state t i
        over i past = ap (state_after r.image) (take_all (i + 1) t.steps (omega (arith, past)) ∙ sym (take_all i t.steps past))

    pub others : (k : ℕ) → file_in (state t k) p ≡ file_in r.image p
    others zero = ap (λ (s : State). file_in s p) (state-none r.image)
    others (suc k) = let e : suc k ≡ k + 1 = omega arith in ap (λ n. file_in (state t n) p) e ∙ stays-one k ∙ others k

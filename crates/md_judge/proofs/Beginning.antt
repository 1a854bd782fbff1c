-- What a session holds before the first step.
use Rattle.std.proofs.Common.{ℕ, zero, suc, ◌≡◌, ◌+◌, ◌⊎◌, inl, inr, ◌↔◌, List, [], ◌∷◌, ◌++◌, Some, false, nat_lt, length, slice_get, refl, sym, ap, subst, ◌∙◌, arith}
use Rattle.md_log.specs.declared.clause.Clause.{Clause}
use Rattle.md_watch.specs.Watches.{Holds}
use Rattle.md_judge.specs.declared.clauses.Clauses.{Clauses}
use Rattle.md_judge.specs.declared.log.Finding.{Finding}
use Rattle.md_judge.specs.declared.session.Session.{Session}
use Rattle.md_judge.specs.declared.stretch.Stretch.{Stretch}
use Rattle.md_judge.specs.Clauses.{Has}
use Rattle.md_judge.specs.Logs.{Log, Numbered}
use Rattle.md_judge.specs.Verdict.{beginning, history, IsAllowed, IsAmong}
use Rattle.md_judge.specs.Placed.{HasPlaced}
use Rattle.md_judge.proofs.Lists.{no-more, no-step}

-- A session has read the lines of a beginning.
pub record IsBeginning (l : Log) (s : Session) : Type 0 where
  pub none : l.steps ≡ []
  pub folders : s.folders ≡ l.folders
  pub housed : l.opening.folders ≡ length l.folders
  pub begun : s.has_begun ≡ false
  pub steps : s.stretch.steps.items ≡ []
  pub lines : s.stretch.lines.items ≡ []
  pub moved : s.stretch.moved ≡ false
  pub findings : s.findings.items ≡ []
  pub holds : Holds (beginning l) s.watch
  pub allowed : (c : Clause) → Has s.allowed c ↔ IsAllowed l c

nothing-among : (fs : List Finding) → ((n : ℕ) (c : Clause) → IsAmong fs n c → ⊥) → fs ≡ []
nothing-among [] none = refl
nothing-among (f ∷ fs) none = absurd (none f.line f.clause (0, f, refl, refl, refl))

pub placed-beginning : (number : ℕ) (l : Log) (s : Session) → l.steps ≡ [] → HasPlaced number l s → IsBeginning l s
placed-beginning number l s none p =
    let w = p.waiting in
    let judged = w.judged in
    let nothing : length l.steps ≡ 0 = ap length none in
    let many = w.waits.many in
    let long = w.waits.long in
    let order-none : w.order ≡ [] = no-more w.order (omega (arith, many, nothing)) in
    let log-steps : w.log.steps ≡ [] = no-more w.log.steps (judged.same.many ∙ ap length order-none) in
    let same : w.log ≡ l = judged.same.rest ∙ ap (λ (xs : List Numbered). record l { steps = xs }) (log-steps ∙ sym none) in
    record {
      none = none;
      folders = w.read.folders;
      housed = w.read.housed;
      begun = p.begun ∙ ap (λ (xs : List Numbered). nat_lt 0 (length xs)) none;
      steps = no-more s.stretch.steps.items (omega (arith, many, nothing));
      lines = no-more s.stretch.lines.items (omega (arith, many, nothing, long));
      moved = judged.plain (λ k y is. absurd (no-step l.steps none k y is));
      findings = nothing-among s.findings.items (λ n c among.
          let is = (judged.found n c).0 among in no-step w.order order-none is.1.0 is.1.1 is.1.3);
      holds = subst (λ (m : Log). Holds (history m 0) s.watch) same
          (subst (λ (o : List ℕ). Holds (history w.log (length o)) s.watch) order-none judged.holds);
      allowed = judged.allowed;
    }

pub beginning-placed : (number : ℕ) (l : Log) (s : Session) → IsBeginning l s → HasPlaced number l s
beginning-placed number l s is =
    let none = is.none in
    let nothing : length l.steps ≡ 0 = ap length none in
    let steps-none = ap length is.steps in
    let lines-none = ap length is.lines in
    record {
      begun = is.begun ∙ sym (ap (λ (xs : List Numbered). nat_lt 0 (length xs)) none);
      waiting = record {
        order = [];
        log = l;
        read = record {
          folders = is.folders;
          housed = is.housed;
          numbered = record {
            rises = λ a b x y up first last. absurd (no-step l.steps none a x first);
            below = λ k x at. absurd (no-step l.steps none k x at);
          };
        };
        judged = record {
          may = record {
            within = λ a i at. absurd (cc at);
            once = λ a b i first last. absurd (cc first);
            near = λ a b i j up first last down. absurd (cc first);
            ticks = λ a b i j y z up first last are y-is z-is. absurd (cc first);
          };
          same = record {
            rest = refl;
            many = nothing;
            steps = λ a i y z at here there. absurd (cc at);
          };
          fits = λ a y at ticks wrong. no-step l.steps none a y at;
          holds = is.holds;
          allowed = is.allowed;
          found = λ n c. (
            λ among. absurd (no-step s.findings.items is.findings among.0 among.1 among.2),
            λ found. absurd (let at = found.1.3 in cc at),
          );
          at_lines = λ a b f g up first last same. absurd (no-step s.findings.items is.findings a f first);
          unmoved = λ still a i at. absurd (cc at);
          ordered = λ still a b f g up first last. absurd (no-step s.findings.items is.findings a f first);
          plain = λ still. is.moved;
        };
        placed = λ a i at. absurd (cc at);
        waits = record {
          many = omega (arith, nothing, steps-none);
          long = lines-none ∙ sym steps-none;
          steps = λ k w y at there. absurd (no-step l.steps none (0 + k) y there);
          lines = λ k y at. absurd (no-step l.steps none (0 + k) y at);
          ticks = λ k y at. absurd (no-step l.steps none (0 + k) y at);
          begins = λ k y last at. absurd (no-step l.steps none k y at);
        };
      };
    }

-- ---- one more line of the beginning

one-allowed : (cs : List Clause) (c o : Clause) (k : ℕ) → slice_get (c ∷ cs) k ≡ Some o → ((n : ℕ) × (slice_get cs n ≡ Some o)) ⊎ (o ≡ c)
one-allowed cs c o zero is = inr (cc is)
one-allowed cs c o (suc k) is = inl (k, is)

-- one more clause is allowed
more-allowed : (l : Log) (a b : Clauses) (c : Clause) → ((o : Clause) → Has a o ↔ IsAllowed l o)
    → ((o : Clause) → Has b o ↔ (Has a o ⊎ (o ≡ c))) → (o : Clause) → Has b o ↔ IsAllowed (record l { allowed = c ∷ l.allowed }) o
more-allowed l a b c allowed adds o = (
  λ has. elim ((adds o).0 has) [
    | inl was ↦ let before = (allowed o).0 was in (suc before.0, before.1)
    | inr is ↦ (0, ap Some (sym is))
  ],
  λ is. elim (one-allowed l.allowed c o is.0 is.1) [
    | inl was ↦ (adds o).1 (inl ((allowed o).1 was))
    | inr now ↦ (adds o).1 (inr now)
  ],
)

pub allows : (l : Log) (s t : Session) (c : Clause) → IsBeginning l s → t.folders ≡ s.folders → t.has_begun ≡ s.has_begun
    → t.stretch ≡ s.stretch → t.findings.items ≡ s.findings.items → t.watch ≡ s.watch
    → ((o : Clause) → Has t.allowed o ↔ (Has s.allowed o ⊎ (o ≡ c))) → IsBeginning (record l { allowed = c ∷ l.allowed }) t
allows l s t c is folders begun stretch findings watch adds = record {
  none = is.none;
  folders = folders ∙ is.folders;
  housed = is.housed;
  begun = begun ∙ is.begun;
  steps = ap (λ (x : Stretch). x.steps.items) stretch ∙ is.steps;
  lines = ap (λ (x : Stretch). x.lines.items) stretch ∙ is.lines;
  moved = ap (λ (x : Stretch). x.moved) stretch ∙ is.moved;
  findings = findings ∙ is.findings;
  holds = subst (λ w. Holds (beginning l) w) (sym watch) is.holds;
  allowed = more-allowed l s.allowed t.allowed c is.allowed adds;
}

-- the beginning is another, as the watch has it
pub begins : (l l' : Log) (s t : Session) → IsBeginning l s → l'.steps ≡ l.steps → l'.allowed ≡ l.allowed → t.folders ≡ l'.folders
    → t.has_begun ≡ s.has_begun → t.stretch ≡ s.stretch → t.findings.items ≡ s.findings.items → t.allowed ≡ s.allowed
    → Holds (beginning l') t.watch → l'.opening.folders ≡ length l'.folders → IsBeginning l' t
begins l l' s t is steps allowed folders begun stretch findings same holds housed = record {
  housed = housed;
  none = steps ∙ is.none;
  folders = folders;
  begun = begun ∙ is.begun;
  steps = ap (λ (x : Stretch). x.steps.items) stretch ∙ is.steps;
  lines = ap (λ (x : Stretch). x.lines.items) stretch ∙ is.lines;
  moved = ap (λ (x : Stretch). x.moved) stretch ∙ is.moved;
  findings = findings ∙ is.findings;
  holds = holds;
  allowed = λ c. (
    λ has. let was = (is.allowed c).0 (subst (λ (x : Clauses). Has x c) same has) in
        (was.0, ap (λ (cs : List Clause). slice_get cs was.0) allowed ∙ was.1),
    λ in-log. subst (λ (x : Clauses). Has x c) (sym same)
        ((is.allowed c).1 (in-log.0, ap (λ (cs : List Clause). slice_get cs in-log.0) (sym allowed) ∙ in-log.1)),
  );
}

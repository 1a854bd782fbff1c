-- Runs on threads: what the next answer adds to a report.
use Rattle.std.proofs.Common.{◌≡◌, ℕ, ◌+◌, ◌<◌, ◌==◌, ◌++◌, true, List, refl, sym, ap, subst, ◌∙◌, zero, suc, is_some, not, Option, Some, None, All, [], ◌∷◌, arith, add-one, append_assoc, append-nil, length, length-append, map}
use Rattle.std.specs.Prelude.{slice_index_or}
use Rattle.std.specs.List.{list_all}
use Rattle.std.proofs.lemmas.Bool.{eqb-true}
use Rattle.std.proofs.lemmas.List.{length-map}
use Rattle.std.proofs.lemmas.List.Sums.{AllPass-from_list_all}
use Rattle.md_listing.proofs.Rows.{and-first, and-second}
use Rattle.md_jobs.specs.declared.call.Call.{Call}
use Rattle.md_jobs.specs.declared.answer.Answer.{Answer}
use Rattle.md_jobs.specs.declared.step.Event.{Event}
use Rattle.md_core.specs.Stepping.{IsRun}
use Rattle.md_core.specs.Machine.{Standing, Occurrence, job_at}
use Rattle.md_core.specs.Runs.{Run, answer_of, and_events, failures_of, log_of}
use Rattle.md_store.specs.Locks.{IsFresh}
use Rattle.md_store.specs.Ongoing.{IsSince}
use Rattle.md_script.specs.Texts.{answer_line}
use Rattle.md_runs.specs.Threading.{answers_text, is_at_zero, AllAnswered, Interleaving}

-- one more answer
pub answers-next : (jobs : List Standing) (n : ℕ) → answers_text jobs (n + 1) ≡ answers_text jobs n ++ answer_line (n + 1) (answer_of (job_at jobs (n + 1)))
unfolding answers_text
answers-next jobs n = ap (answers_text jobs) (add-one n)

-- no answer yet
pub answers-none : (jobs : List Standing) (start : List ℕ) → start ≡ start ++ answers_text jobs 0
unfolding answers_text
answers-none jobs start = sym (append-nil start)

-- a text with the answers of the first jobs, and the line of the next
pub more-answers : (jobs : List Standing) (n : ℕ) (start before after : List ℕ) (a : Answer) → before ≡ start ++ answers_text jobs n →
    answer_of (job_at jobs (n + 1)) ≡ Some a
    → after ≡ before ++ answer_line (n + 1) (Some a) → after ≡ start ++ answers_text jobs (n + 1)
more-answers jobs n start before after a is has added =
    added
    ∙ ap (λ t. t ++ answer_line (n + 1) (Some a)) is
    ∙ append_assoc start (answers_text jobs n) (answer_line (n + 1) (Some a))
    ∙ ap (λ (o : Option Answer). start ++ (answers_text jobs n ++ answer_line (n + 1) o)) (sym has)
    ∙ ap (λ t. start ++ t) (sym (answers-next jobs n))

-- what holds below a number and of it holds below the next
pub below-next : (P : ℕ → Type 0) (n : ℕ) → ((k : ℕ) → k < n → P k) → P n → (k : ℕ) → k < n + 1 → P k
below-next P zero below here zero within = here
below-next P zero below here (suc k) within = absurd (omega arith)
below-next P (suc n) below here zero within = below zero (omega arith)
below-next P (suc n) below here (suc k) within = below-next (λ j. P (suc j)) n (λ j inside. below (suc j) (omega arith)) here k (omega arith)

-- one more job has its answer
pub more-answered : (jobs : List Standing) (n : ℕ) (a : Answer) → ((k : ℕ) → k < n → is_some (answer_of (job_at jobs (k + 1))) ≡ true) →
    answer_of (job_at jobs (n + 1)) ≡ Some a
    → (k : ℕ) → k < n + 1 → is_some (answer_of (job_at jobs (k + 1))) ≡ true
more-answered jobs n a below has = below-next (λ k. is_some (answer_of (job_at jobs (k + 1))) ≡ true) n below (ap is_some has)

index-map : {X Y : Type 0} (f : Y → X) (ys : List Y) (k : ℕ) (d : Y) → slice_index_or (map f ys) k (f d) ≡ f (slice_index_or ys k d)
index-map f [] k d = refl
index-map f (y ∷ ys) zero d = refl
index-map f (y ∷ ys) (suc k) d = index-map f ys k d

-- what holds of each image holds of each element by its image
all-unmap : {X Y : Type 0} (P : X → Type 0) (f : Y → X) (ys : List Y) → All P (map f ys) → All (λ y. P (f y)) ys
all-unmap P f ys all k d within = subst P (index-map f ys k d) (all k (f d) (omega (arith, within, length-map ys f)))

none-there : (o : Option ℕ) → not (is_some o) ≡ true → o ≡ None
none-there None is = refl
none-there (Some x) is = cc

all-at_zero : (es : List Event) → list_all is_at_zero es ≡ true → All (λ e. (e.now ≡ 0) × (e.own ≡ None)) es
all-at_zero es is k d within =
    let e : Event = slice_index_or es k d in
    let passes : is_at_zero e ≡ true = AllPass-from_list_all is_at_zero es is k d within in
    (eqb-true e.now 0 (and-first (e.now == 0) (not (is_some e.own)) passes), none-there e.own (and-second (e.now == 0) (not (is_some e.own)) passes))

-- the run of a store that was opened with jobs, each of which has its answer now
pub interleaved : (begun r : Run) → IsFresh begun → IsSince begun r → length r.calls ≡ length begun.calls
    → list_all is_at_zero (log_of r) ≡ true → IsRun r → failures_of r ≡ 0 → AllAnswered r → Interleaving begun r
interleaved begun r fresh since many at_zero run faultless answered =
    let calls : begun.calls ++ since.calls ≡ begun.calls = none-more since.calls
    (omega (arith, many, ap (λ (x : Run). length x.calls) since.is, length-append begun.calls since.calls)) in
    let is : r ≡ and_events begun since.events = since.is ∙ ap (λ cs. record begun { calls = cs; events = begun.events ++ since.events }) calls in
    let events : r.events ≡ since.events = ap (λ (x : Run). x.events) since.is ∙ ap (λ es. es ++ since.events) fresh in
    record {
      events = since.events;
      is = is;
      at_zero = subst (All (λ e. (e.event.now ≡ 0) × (e.event.own ≡ None))) events
          (all-unmap (λ (e : Event). (e.now ≡ 0) × (e.own ≡ None)) (λ (e : Occurrence). e.event) r.events (all-at_zero (log_of r) at_zero));
      is_run = run;
      faultless = faultless;
      answered = answered;
    }
  where
    none-more : (more : List Call) → length more ≡ 0 → begun.calls ++ more ≡ begun.calls
    none-more [] none = append-nil begun.calls
    none-more (x ∷ more) none = absurd (omega (arith, none))

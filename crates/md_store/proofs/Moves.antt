-- What the value behind the lock keeps at each move.
use Rattle.std.proofs.Common.{◌≡◌, ℕ, ◌+◌, ◌<◌, ◌≤◌, ◌⊎◌, Bool, true, false, List, [], ◌∷◌, ◌++◌, length, fold, refl, sym, ap, ◌∙◌, subst, ⊎_elim, inl, arith, length-append, Option, Some, None, is_some, IfSome, Ok, Err, Result, MatchResult, IfOk, OnOk, OnErr}
use Rattle.std.specs.Prelude.{slice_index_or}
use Rattle.std.specs.Option.{option_map, option_to_list}
use Rattle.std.specs.declared.alloc.AllocError.{AllocError}
use Rattle.std.proofs.lemmas.List.{append-nil}
use Rattle.logbook.specs.Pages.{Book}
use Rattle.md_jobs.specs.declared.error.CoreError.{CoreError}
use Rattle.md_jobs.specs.declared.call.Call.{Call}
use Rattle.md_core.specs.declared.world.submit.SubmitRefused.{SubmitRefused}
use Rattle.md_jobs.specs.declared.effect.Effect.{Effect}
use Rattle.md_jobs.specs.declared.step.StepOut.{StepOut}
use Rattle.md_jobs.specs.Asked.{is_fault}
use Rattle.md_core.specs.Tasks.Task.{Task}
use Rattle.md_core.specs.Machine.{Machine, Occurrence, occurrence, step_by, task_of, job_at, step_of as done_of}
use Rattle.md_core.specs.Trace.{Step}
use Rattle.md_core.specs.Runs.{Run, machine_of, and_event, and_call, effects_of}
use Rattle.md_core.specs.Stepping.{ShowsStep}
use Rattle.md_view.specs.Named.{Named, named_of}
use Rattle.md_store.specs.declared.rule.Knowledge.{Knowledge}
use Rattle.md_store.specs.Ongoing.{IsSince, GoesOn}
use Rattle.md_store.specs.Pages.{Course, Page, Note}
use Rattle.md_store.specs.Locks.{IsLocked, Lags}
use Rattle.md_store.specs.Publishing.{CanFollow, Publishes, page_after, knower}
use mathlib.Core.List.{IsPrefix}
use Rattle.md_store.proofs.Ongoing.{since_itself, since-event, since-call, goes_itself, goes_later}

-- the effects after a step, by whether it was one
abbrev Grows : Run → Run → ℕ → Bool → Type 0
Grows r s job true = (e : Effect) × (effects_of s ≡ effects_of r ++ e ∷ []) × (e.job ≡ job)
Grows r s job false = effects_of s ≡ effects_of r

-- what an event did, its own job did
done-job : (m : Machine) (e : Occurrence) (d : Step) → done_of m e ≡ Some d → d.job ≡ e.event.job
done-job m e d is = by (task_of (job_at m.jobs e.event.job)) is
  where
    by : (o : Option Task) → option_map (step_by m e) o ≡ Some d → d.job ≡ e.event.job
    by None none = cc
    by (Some task) some = let same : step_by m e task ≡ d = cc in ap (λ (x : Step). x.job) (sym same)

-- a step that is no effect leaves the effects, and one that is adds one of its job
pub grows : (r s : Run) (e : Occurrence) (out : StepOut) → ShowsStep r s e out → Grows r s e.event.job out.effect
grows r s e out h = subst (Grows r s e.event.job) (sym (ap (λ (o : StepOut). o.effect) h.shown)) (by h.what.effect h.simulates.history h.simulates.own)
  where
    by : (o : Option Effect) → effects_of s ≡ effects_of r ++ option_to_list o → IfSome o (λ x. x.job ≡ h.what.job) → Grows r s e.event.job (is_some o)
    by None is own = is ∙ append-nil (effects_of r)
    by (Some x) is own = (x, is, own ∙ done-job (machine_of r) e h.what h.at)

lags_by : (r s : Run) (job : ℕ) (b : Bool) → Grows r s job b → Lags (effects_of s) (effects_of r)
lags_by r s job true g = (g.0 ∷ [], g.1, omega arith)
lags_by r s job false g = ([], g ∙ sym (append-nil (effects_of r)), omega arith)

pub no_effect : (r s : Run) (e : Occurrence) (out : StepOut) → ShowsStep r s e out → out.effect ≡ false → effects_of s ≡ effects_of r
no_effect r s e out h off = subst (Grows r s e.event.job) off (grows r s e out h)

pub one_effect : (r s : Run) (e : Occurrence) (out : StepOut) → ShowsStep r s e out → out.effect ≡ true →
    (x : Effect) × (effects_of s ≡ effects_of r ++ x ∷ []) × (x.job ≡ e.event.job)
one_effect r s e out h on = subst (Grows r s e.event.job) on (grows r s e out h)

-- nothing waits where all is published
none_waits : (all shown : List Effect) (e : Effect) → shown ≡ all → all ≡ shown ++ e ∷ [] → {A : Type 0} → A
none_waits all shown e a b = absurd (omega (arith, ap length a, ap length b, length-append shown (e ∷ [])))

-- a run goes on by a step, whose effect is behind those before it
goes-event : (r s : Run) (e : Occurrence) (job : ℕ) (b : Bool) → s ≡ and_event r e → Grows r s job b → GoesOn r s
goes-event r s e job b event g = record { since = since-event r r s e (since_itself r r refl) event; history = by b g }
  where
    by : (b : Bool) → Grows r s job b → IsPrefix (effects_of r) (effects_of s)
    by true g = (g.0 ∷ [], sym g.1)
    by false g = ([], append-nil (effects_of r) ∙ sym g)

-- whether a step is taken or not, the run goes on from what was entered
pub goes-made : (r s noted : Run) (job now : ℕ) (own : Option ℕ) (res : Result StepOut CoreError) → GoesOn noted r
    → IfOk res (λ out. s ≡ and_event r (occurrence job now own (is_fault out.reply)))
    → IfOk res (λ out. ShowsStep r s (occurrence job now own (is_fault out.reply)) out) → OnErr res (s ≡ r) → GoesOn noted s
goes-made r s noted job now own (Ok out) goes event shows same = goes_later noted r s goes
    (goes-event r s (occurrence job now own (is_fault out.reply)) job out.effect event (grows r s (occurrence job now own (is_fault out.reply)) out shows))
goes-made r s noted job now own (Err e) goes event shows same = goes_later noted r s goes (goes_itself r s same)

module _ (begun : Run) (opening : Named) (book : Book) (shown : Page) (seat : Knowledge) (pending : List Note) where
  nothing : (r : Run) (journal : Course) → IsLocked begun opening book r shown seat journal pending → shown.front.log ≡ effects_of r → pending ≡ []
  nothing r journal k all = ⊎_elim (λ (e : pending ≡ []). e)
      (λ (n : (n : Note) × (pending ≡ n ∷ []) × CanFollow opening shown n × (n.front.log ≡ effects_of r)). none_waits
      (effects_of r) shown.front.log n.0.effect all (sym n.3 ∙ n.2.1)) k.waits

  -- the run is entered
  pub noted : (r : Run) (before after : Course) → IsLocked begun opening book r shown seat before pending → after.book ≡ before.book → after.run ≡ r
      → IsLocked begun opening book r shown seat after pending
  noted r before after k of is = record {
    since = k.since;
    image = k.image;
    book_is = k.book_is;
    seat_is = k.seat_is;
    lag = k.lag;
    journal_book = of ∙ k.journal_book;
    goes = goes_itself after.run r (sym is);
    entered = ap effects_of (sym is);
    waits = k.waits;
  }

  -- a step is taken or not, and the run is entered
  pub stepped : (r s : Run) (before after : Course) (job now : ℕ) (own : Option ℕ) (res : Result StepOut CoreError)
      → IfOk res (λ out. s ≡ and_event r (occurrence job now own (is_fault out.reply)))
      → IfOk res (λ out. ShowsStep r s (occurrence job now own (is_fault out.reply)) out) → OnErr res (s ≡ r)
      → IsLocked begun opening book r shown seat before pending → shown.front.log ≡ effects_of r → after.book ≡ before.book → after.run ≡ s
      → IsLocked begun opening book s shown seat after pending
  stepped r s before after job now own (Ok out) event shows same k all of is = record {
    since = since-event begun r s (occurrence job now own (is_fault out.reply)) k.since event;
    image = ap (λ (x : Run). named_of x.image) event ∙ k.image;
    book_is = k.book_is;
    seat_is = k.seat_is;
    lag = subst (Lags (effects_of s)) (sym all) (lags_by r s job out.effect (grows r s (occurrence job now own (is_fault out.reply)) out shows));
    journal_book = of ∙ k.journal_book;
    goes = goes_itself after.run s (sym is);
    entered = ap effects_of (sym is);
    waits = inl (nothing r before k all);
  }
  stepped r s before after job now own (Err e) event shows same k all of is =
      subst (λ (x : Run). IsLocked begun opening book x shown seat after pending) (sym same) (noted r before after k of (is ∙ same))

  -- where image and effects stay, and the run goes on
  stays : (r s : Run) (journal : Course) → IsLocked begun opening book r shown seat journal pending → IsSince begun s → IsSince r s → s.image ≡ r.image
      → effects_of s ≡ effects_of r → IsLocked begun opening book s shown seat journal pending
  stays r s journal k since later image same = record {
    since = since;
    image = ap named_of image ∙ k.image;
    book_is = k.book_is;
    seat_is = k.seat_is;
    lag = subst (λ (l : List Effect). Lags l shown.front.log) (sym same) k.lag;
    journal_book = k.journal_book;
    goes = goes_later journal.run r s k.goes (record { since = later; history = ([], append-nil (effects_of r) ∙ sym same) });
    entered = same ∙ k.entered;
    waits = subst (λ (l : List Effect). (pending ≡ []) ⊎ ((n : Note) × (pending ≡ n ∷ []) × CanFollow opening shown n × (n.front.log ≡ l))) (sym same) k.waits;
  }

  -- a call that is submitted changes neither image nor effects
  pub submitted : (r s : Run) (journal : Course) (call : Call) (res : Result ℕ SubmitRefused) → IfOk res (λ job. (s ≡ and_call r call) × (job ≡ length r.calls + 1))
      → OnOk res (effects_of s ≡ effects_of r) → OnErr res (s ≡ r) → IsLocked begun opening book r shown seat journal pending →
      IsLocked begun opening book s shown seat journal pending
  submitted r s journal call (Ok job) is effects same k = stays r s journal k (since-call begun r s call k.since is.0)
      (since-call r r s call (since_itself r r refl) is.0) (ap (λ (x : Run). x.image) is.0) effects
  submitted r s journal call (Err e) is effects same k = subst (λ (x : Run). IsLocked begun opening book x shown seat journal pending) (sym same) k

-- a beginning as long as all is all
pub whole : (all shown : List Effect) → Lags all shown → length all ≤ length shown → all ≡ shown
whole all shown ([], is, le) less = is ∙ append-nil shown
whole all shown (x ∷ rest, is, le) less = absurd (omega (arith, ap length is, length-append shown (x ∷ rest)))

index_at : (xs : List Effect) (x d : Effect) → slice_index_or (xs ++ x ∷ []) (length xs) d ≡ x
index_at [] x d = refl
index_at (y ∷ ys) x d = index_at ys x d

-- the one that is left
pub next_is : (all shown : List Effect) → Lags all shown → length shown < length all → (d : Effect) → all ≡ shown ++ slice_index_or all (length shown) d ∷ []
next_is all shown ([], is, le) less d = absurd (omega (arith, ap length is, ap length (append-nil shown)))
next_is all shown (x ∷ [], is, le) less d =
    is ∙ ap (λ (e : Effect). shown ++ e ∷ []) (sym (ap (λ l. slice_index_or l (length shown) d) is ∙ index_at shown x d))
next_is all shown (x ∷ y ∷ rest, is, le) less d = absurd (omega arith)

-- the seat after a publishing, of a writer that knew its store
seat_after : (opening : Named) (shown shown' : Page) (seat seat' : Knowledge) → seat ≡ knower opening shown → Publishes seat shown' seat' → seat' ≡ knower opening shown'
seat_after opening shown shown' seat seat' is s =
    let same : opening ≡ s.0 = sym (ap (λ (v : Knowledge). v.opening) is) ∙ s.2 (ap (λ (v : Knowledge). v.opened) is) in
    s.1 ∙ ap (λ (o : Named). knower o shown') (sym same)

pub catches : (begun : Run) (opening : Named) (book : Book) (r : Run) (journal : Course) (shown shown' : Page) (seat seat' : Knowledge) (pend pend' : List Note)
    (res : Result (Unit {0}) AllocError)
    → IsLocked begun opening book r shown seat journal pend
    → ((n : Note) × (pend ≡ n ∷ []) × CanFollow opening shown n × (n.front.log ≡ effects_of r))
    → MatchResult res (λ _. (shown' ≡ fold page_after shown pend) × (pend' ≡ []) × Publishes seat shown' seat')
    (λ _. (shown' ≡ shown) × (pend' ≡ pend) × (seat' ≡ seat))
    → IsLocked begun opening book r shown' seat' journal pend'
catches begun opening book r journal shown shown' seat seat' pend pend' (Ok u) k w t =
    let n = w.0 in
    let now : shown' ≡ page_after shown n = t.0 ∙ ap (fold page_after shown) w.1 in
    let all : shown'.front.log ≡ effects_of r = ap (λ (p : Page). p.front.log) now ∙ w.3 in
    record {
      since = k.since;
      image = k.image;
      book_is = ap (λ (p : Page). p.front.book) now ∙ (w.2.0 ∙ k.book_is);
      seat_is = seat_after opening shown shown' seat seat' k.seat_is t.2;
      lag = ([], sym all ∙ sym (append-nil shown'.front.log), omega arith);
      journal_book = k.journal_book;
      goes = k.goes;
      entered = k.entered;
      waits = inl t.1;
    }
catches begun opening book r journal shown shown' seat seat' pend pend' (Err e) k w t =
    let P : Page × (List Note × Knowledge) → Type 0 = λ x. IsLocked begun opening book r x.0 x.1.1 journal x.1.0 in
    subst P (λ i. (sym t.0 i, (sym t.1 i, sym t.2 i))) k

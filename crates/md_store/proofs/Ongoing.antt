-- Runs that go on from earlier ones, and the runs of entries.
use Rattle.std.proofs.Common.{◌≡◌, ℕ, zero, suc, ◌<◌, ◌≤◌, ◌⊎◌, ⊎_elim, inl, inr, List, [], ◌∷◌, ◌++◌, length, refl, sym, ap, ◌∙◌, subst, append-nil, append_assoc, length-append, arith}
use mathlib.Core.List.{IsPrefix}
use Rattle.md_jobs.specs.declared.call.Call.{Call}
use Rattle.md_core.specs.Machine.{Occurrence}
use Rattle.md_core.specs.Runs.{Run, and_call, and_event, effects_of}
use Rattle.md_store.specs.declared.book.Entered.{Entered}
use Rattle.md_store.specs.Ongoing.{IsSince, GoesOn, no_run}
use Rattle.md_store.specs.Rules.{last_run, run_in, AreInOrder}
use Rattle.md_store.proofs.Beginnings.{begins_itself, begins_later, shorter_begins}

pub since_itself : (begun run : Run) → run ≡ begun → IsSince begun run
since_itself begun run is = record {
  calls = [];
  events = [];
  is = is ∙ (λ i. record begun { calls = sym (append-nil begun.calls) i; events = sym (append-nil begun.events) i });
}

pub since-event : (begun r s : Run) (e : Occurrence) → IsSince begun r → s ≡ and_event r e → IsSince begun s
since-event begun r s e k is = record {
  calls = k.calls;
  events = k.events ++ e ∷ [];
  is = is
      ∙ ap (λ (x : Run). and_event x e) k.is
      ∙ ap (λ (es : List Occurrence). record begun { calls = begun.calls ++ k.calls; events = es }) (append_assoc begun.events k.events (e ∷ []));
}

pub since-call : (begun r s : Run) (call : Call) → IsSince begun r → s ≡ and_call r call → IsSince begun s
since-call begun r s call k is = record {
  calls = k.calls ++ call ∷ [];
  events = k.events;
  is = is
      ∙ ap (λ (x : Run). and_call x call) k.is
      ∙ ap (λ (cs : List Call). record begun { calls = cs; events = begun.events ++ k.events }) (append_assoc begun.calls k.calls (call ∷ []));
}

pub since-later : (a b c : Run) → IsSince a b → IsSince b c → IsSince a c
since-later a b c p q = record {
  calls = p.calls ++ q.calls;
  events = p.events ++ q.events;
  is = q.is
      ∙ ap (λ (x : Run). record x { calls = x.calls ++ q.calls; events = x.events ++ q.events }) p.is
      ∙ (λ i. record a { calls = append_assoc a.calls p.calls q.calls i; events = append_assoc a.events p.events q.events i });
}

pub goes_itself : (r s : Run) → s ≡ r → GoesOn r s
goes_itself r s is = record { since = since_itself r s is; history = subst (λ (x : Run). IsPrefix (effects_of r) (effects_of x)) (sym is) (begins_itself (effects_of r)) }

pub goes_later : (a b c : Run) → GoesOn a b → GoesOn b c → GoesOn a c
goes_later a b c p q = record {
  since = since-later a b c p.since q.since;
  history = begins_later (effects_of a) (effects_of b) (effects_of c) p.history q.history;
}

more-calls : (a b : Run) → IsSince a b → length a.calls ≤ length b.calls
more-calls a b k = omega (arith, ap (λ (x : Run). length x.calls) k.is, length-append a.calls k.calls)

more-events : (a b : Run) → IsSince a b → length a.events ≤ length b.events
more-events a b k = omega (arith, ap (λ (x : Run). length x.events) k.is, length-append a.events k.events)

no-more : {A : Type 0} (xs : List A) → length xs ≤ 0 → xs ≡ []
no-more [] none = refl
no-more (x ∷ xs) none = absurd (omega arith)

-- what goes on from a run, and has no more calls and events, is that run
same-run : (a b : Run) → IsSince a b → length b.calls ≤ length a.calls → length b.events ≤ length a.events → b ≡ a
same-run a b k calls events =
    let c : k.calls ≡ [] = no-more k.calls (omega (arith, calls, ap (λ (x : Run). length x.calls) k.is, length-append a.calls k.calls)) in
    let e : k.events ≡ [] = no-more k.events (omega (arith, events, ap (λ (x : Run). length x.events) k.is, length-append a.events k.events)) in
    k.is
    ∙ (λ i. record a { calls = a.calls ++ c i; events = a.events ++ e i })
    ∙ (λ i. record a { calls = append-nil a.calls i; events = append-nil a.events i })

abbrev pub Either : Run → Run → Type 0
Either a b = GoesOn a b ⊎ GoesOn b a

-- of two runs of one list, who has more calls or events is the later
pub by-calls : (a b : Run) → Either a b → length b.calls < length a.calls → GoesOn b a
by-calls a b one more = ⊎_elim (λ (k : GoesOn a b). absurd (omega (arith, more, more-calls a b k.since))) (λ (k : GoesOn b a). k) one

pub by-events : (a b : Run) → Either a b → length b.events < length a.events → GoesOn b a
by-events a b one more = ⊎_elim (λ (k : GoesOn a b). absurd (omega (arith, more, more-events a b k.since))) (λ (k : GoesOn b a). k) one

pub by-both : (a b : Run) → Either a b → length a.calls ≤ length b.calls → length a.events ≤ length b.events → GoesOn a b
by-both a b one calls events = ⊎_elim (λ (k : GoesOn a b). k) (λ (k : GoesOn b a). goes_itself a b (sym (same-run b a k.since calls events))) one

-- of some entries the last run is theirs alone
last-same : (r s : Run) (es : List Entered) → 0 < length es → last_run r es ≡ last_run s es
last-same r s [] some = absurd (omega arith)
last-same r s (e ∷ es) some = refl

pub last-entered : (r : Run) (es : List Entered) (e : Entered) → last_run r (es ++ e ∷ []) ≡ e.world
last-entered r [] e = refl
last-entered r (x ∷ es) e = last-entered x.world es e

goes-to-last : (r : Run) (es : List Entered) → AreInOrder r es → GoesOn r (last_run r es)
goes-to-last r [] order = goes_itself r r refl
goes-to-last r (e ∷ es) order = goes_later r e.world (last_run e.world es) order.0 (goes-to-last e.world es order.1)

-- what begins entries has come to a run from which theirs goes on
goes-from : (r : Run) (early more : List Entered) → AreInOrder r (early ++ more) → GoesOn (last_run r early) (last_run r (early ++ more))
goes-from r [] more order = goes-to-last r more order
goes-from r (e ∷ early) more order = goes-from e.world early more order.1

pub goes-between : (r : Run) (early late : List Entered) → AreInOrder r late → IsPrefix early late → 0 < length early → GoesOn (run_in early) (run_in late)
goes-between r [] late order begun some = absurd (omega arith)
goes-between r (e ∷ early) late order begun some = subst (λ (es : List Entered). GoesOn (run_in (e ∷ early)) (run_in es)) begun.1
    (goes-from r (e ∷ early) begun.0 (subst (AreInOrder r) (sym begun.1) order))

order-step : (r : Run) (es : List Entered) (e : Entered) → AreInOrder r es → GoesOn (last_run r es) e.world → AreInOrder r (es ++ e ∷ [])
order-step r [] e order goes = (goes, tt)
order-step r (x ∷ es) e order goes = (order.0, order-step x.world es e order.1 goes)

pub order-more : (r : Run) (es : List Entered) (e : Entered) → 0 < length es → AreInOrder r es → GoesOn (run_in es) e.world → AreInOrder r (es ++ e ∷ [])
order-more r es e some order goes = order-step r es e order (subst (λ (x : Run). GoesOn x e.world) (last-same no_run r es some) goes)

total : (m n : ℕ) → (m ≤ n) ⊎ (n ≤ m)
total zero n = inl (omega arith)
total (suc m) zero = inr (omega arith)
total (suc m) (suc n) = ⊎_elim (λ (l : m ≤ n). inl (omega (arith, l))) (λ (l : n ≤ m). inr (omega (arith, l))) (total m n)

pub one-goes : (r : Run) (xs ys both : List Entered) → AreInOrder r both → IsPrefix xs both → IsPrefix ys both → 0 < length xs → 0 < length ys
    → Either (run_in xs) (run_in ys)
one-goes r xs ys both order x y some other = ⊎_elim
    (λ (l : length xs ≤ length ys). inl (within r xs ys both order x y some l))
    (λ (l : length ys ≤ length xs). inr (within r ys xs both order y x other l))
    (total (length xs) (length ys))
  where
    first : (r : Run) (xs more : List Entered) → AreInOrder r (xs ++ more) → AreInOrder r xs
    first r [] more order = tt
    first r (e ∷ xs) more order = (order.0, first e.world xs more order.1)

    within : (r : Run) (xs ys both : List Entered) → AreInOrder r both → IsPrefix xs both → IsPrefix ys both → 0 < length xs → length xs ≤ length ys
        → GoesOn (run_in xs) (run_in ys)
    within r xs ys both order x y some l =
        goes-between r xs ys (first r ys y.0 (subst (AreInOrder r) (sym y.1) order)) (shorter_begins xs ys both x y l) some

-- Jobs that are run a call at a time.
use Rattle.std.proofs.Common.{◌≡◌, ◌++◌, List, [], ◌∷◌, Option, Some, None, Bool, true, false, Result, Ok, Err, OnErr, cond, is_some, map, refl, sym, ap, ◌∙◌}
use Rattle.std.proofs.lemmas.List.{append_assoc, append-nil, map-append}
use Rattle.md_jobs.specs.Asked.{Asked}
use Rattle.md_jobs.specs.Made.{Heard, Made, made, answer_in}
use Rattle.md_jobs.specs.Turn.{Turn, After}
use Rattle.md_jobs.specs.declared.answer.Answer.{Answer}
use Rattle.md_jobs.specs.declared.step.Moment.{Moment}
use Rattle.md_system.specs.Exchanges.{Exchange, heard_of, IsRun, Ran, Began}
use Rattle.md_system.specs.Steps.{Steps}

-- what holds, holds where a result is an error
pub on-err : {A E P : Type 0} (r : Result A E) → P → OnErr r P
on-err (Ok x) is = tt
on-err (Err e) is = is

module _ {T : Type 0} (turn : T → Moment → Turn T) where
  -- how far a job is that hears one reply after another
  unfoldable pub reached : T → List Heard → T
  reached t [] = t
  reached t (h ∷ hs) = reached ((turn t h.at).follows h.reply h.rows).task hs

  -- the call that a job makes when it hears a reply
  abbrev pub made_at : T → Heard → Made
  made_at t h =
      let after = (turn t h.at).follows h.reply h.rows in
      record { asked = (turn t h.at).asked; reply = h.reply; answer = after.answer; effect = after.effect }

  -- A job that was begun has made these calls, and has this task and no answer.
  pub record IsUnderWay (t : T) (old new : List Exchange) (task : T) : Type 0 where
    pub calls : List Exchange
    pub logged : new ≡ old ++ calls
    pub run : IsRun turn t calls
    pub unanswered : answer_in (made turn t (heard_of calls)) ≡ None
    pub at : reached t (heard_of calls) ≡ task

  -- the call of one reply more stands behind those before
  made-more : (t : T) (hs : List Heard) (h : Heard) → answer_in (made turn t hs) ≡ None →
      made turn t (hs ++ h ∷ []) ≡ made turn t hs ++ made_at (reached t hs) h ∷ []
  unfolding made reached answer_in
  made-more t [] h none = by (is_some ((turn t h.at).follows h.reply h.rows).answer)
    where
      by : (b : Bool) → made_at t h ∷ cond b [] [] ≡ made_at t h ∷ []
      by true = refl
      by false = refl
  made-more t (x ∷ xs) h none = by ((turn t x.at).follows x.reply x.rows) none (made-more ((turn t x.at).follows x.reply x.rows).task xs h)
    where
      by : (after : After T) →
          (let m : Made = record { asked = (turn t x.at).asked; reply = x.reply; answer = after.answer; effect = after.effect } in
          answer_in (m ∷ cond (is_some after.answer) [] (made turn after.task xs)) ≡ None →
          (answer_in (made turn after.task xs) ≡ None →
          made turn after.task (xs ++ h ∷ []) ≡ made turn after.task xs ++ made_at (reached after.task xs) h ∷ []) →
          m ∷ cond (is_some after.answer) [] (made turn after.task (xs ++ h ∷ []))
          ≡ m ∷ (cond (is_some after.answer) [] (made turn after.task xs) ++ made_at (reached after.task xs) h ∷ []))
      by after none more = of after.answer none
        where
          of : (o : Option Answer) →
              (let m : Made = record { asked = (turn t x.at).asked; reply = x.reply; answer = o; effect = after.effect } in
              answer_in (m ∷ cond (is_some o) [] (made turn after.task xs)) ≡ None →
              m ∷ cond (is_some o) [] (made turn after.task (xs ++ h ∷ []))
              ≡ m ∷ (cond (is_some o) [] (made turn after.task xs) ++ made_at (reached after.task xs) h ∷ []))
          of (Some a) is = cc
          of None is =
              ap (λ (ms : List Made). record { asked = (turn t x.at).asked; reply = x.reply; answer = None; effect = after.effect } ∷ ms) (more is)

  reached-more : (t : T) (hs : List Heard) (h : Heard) →
      reached t (hs ++ h ∷ []) ≡ ((turn (reached t hs) h.at).follows h.reply h.rows).task
  unfolding reached
  reached-more t [] h = refl
  reached-more t (x ∷ xs) h = reached-more ((turn t x.at).follows x.reply x.rows).task xs h

  -- the answer of one call more, where those before had none
  answer-more : (ms : List Made) (m : Made) → answer_in ms ≡ None → answer_in (ms ++ m ∷ []) ≡ m.answer
  unfolding answer_in
  answer-more [] m none = by m.answer
    where
      by : (o : Option Answer) → cond (is_some o) o None ≡ o
      by (Some a) = refl
      by None = refl
  answer-more (x ∷ xs) m none = by x.answer none (answer-more xs m)
    where
      by : (o : Option Answer) → cond (is_some o) o (answer_in xs) ≡ None → (answer_in xs ≡ None → answer_in (xs ++ m ∷ []) ≡ m.answer) →
          cond (is_some o) o (answer_in (xs ++ m ∷ [])) ≡ m.answer
      by (Some a) is more = cc
      by None is more = more is

  -- ---- runs

  module _ (t : T) (old : List Exchange) where
    -- before the first call
    pub begun : (task : T) → task ≡ t → IsUnderWay t old old task
    unfolding made reached answer_in
    begun task is = record { calls = []; logged = sym (append-nil old); run = refl; unanswered = refl; at = sym is }

    -- the calls of a job that has made one more
    record Longer (now new : List Exchange) (task task' : T) (answer : Option Answer) : Type 0 where
      pub calls : List Exchange
      pub logged : new ≡ old ++ calls
      pub run : IsRun turn t calls
      pub answered : answer_in (made turn t (heard_of calls)) ≡ answer
      pub at : answer ≡ None → reached t (heard_of calls) ≡ task'

    longer : (now new : List Exchange) (task task' : T) (answer : Option Answer) → IsUnderWay t old now task →
        Steps turn task now new answer task' → Longer now new task task' answer
    longer now new task task' answer far step =
        let c = step.call in
        let heard : heard_of (far.calls ++ c ∷ []) ≡ heard_of far.calls ++ c.heard ∷ [] = map-append (λ (x : Exchange). x.heard) far.calls (c ∷ []) in
        let all : made turn t (heard_of (far.calls ++ c ∷ [])) ≡ made turn t (heard_of far.calls) ++ made_at task c.heard ∷ [] =
        ap (λ (hs : List Heard). made turn t hs) heard ∙ made-more t (heard_of far.calls) c.heard far.unanswered
        ∙ ap (λ (x : T). made turn t (heard_of far.calls) ++ made_at x c.heard ∷ []) far.at in
        record {
          calls = far.calls ++ c ∷ [];
          logged = step.logged ∙ ap (λ (cs : List Exchange). cs ++ c ∷ []) far.logged ∙ append_assoc old far.calls (c ∷ []);
          run =
              ap (λ (ms : List Made). map (λ m. m.asked) ms) all
              ∙ map-append (λ (m : Made). m.asked) (made turn t (heard_of far.calls)) (made_at task c.heard ∷ [])
              ∙ ap (λ (asked : List Asked). asked ++ (turn task c.heard.at).asked ∷ []) far.run
              ∙ ap (λ (asked : Asked). map (λ x. x.asked) far.calls ++ asked ∷ []) (sym step.asked)
              ∙ sym (map-append (λ (x : Exchange). x.asked) far.calls (c ∷ []));
          answered =
              ap (λ (ms : List Made). answer_in ms) all
              ∙ answer-more (made turn t (heard_of far.calls)) (made_at task c.heard) far.unanswered ∙ step.answered;
          at = λ none.
              ap (λ (hs : List Heard). reached t hs) heard ∙ reached-more t (heard_of far.calls) c.heard
              ∙ ap (λ (x : T). ((turn x c.heard.at).follows c.heard.reply c.heard.rows).task) far.at ∙ step.goes_on none;
        }

    -- after a call that gave no answer
    pub goes : (now new : List Exchange) (task task' : T) (answer : Option Answer) → IsUnderWay t old now task →
        Steps turn task now new answer task' → answer ≡ None → IsUnderWay t old new task'
    goes now new task task' answer far step none =
        let on = longer now new task task' answer far step in
        record { calls = on.calls; logged = on.logged; run = on.run; unanswered = on.answered ∙ none; at = on.at none }

    -- after one that gave the answer
    pub answers : (now new : List Exchange) (task task' : T) (answer : Option Answer) (a : Answer) → IsUnderWay t old now task →
        Steps turn task now new answer task' → answer ≡ Some a → Ran turn t old new a
    answers now new task task' answer a far step is =
        let on = longer now new task task' answer far step in
        record { calls = on.calls; logged = on.logged; run = on.run; answered = on.answered ∙ is }

    -- where memory was wanting for the next
    pub stops : (now new : List Exchange) (task : T) → IsUnderWay t old now task → new ≡ now → Began turn t old new
    stops now new task far kept =
        record { calls = far.calls; logged = kept ∙ far.logged; run = far.run; unanswered = far.unanswered }

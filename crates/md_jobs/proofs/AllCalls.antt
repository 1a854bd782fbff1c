-- All calls that a job makes over replies: how many, and with how many effects.
use Rattle.std.proofs.Common.{ℕ, ◌≡◌, ◌<◌, ◌≤◌, ◌+◌, ◌*◌, List, [], ◌∷◌, Option, Some, None, cond, is_some, length, max, refl, sym, subst, ◌∙◌, arith}
use Rattle.md_dirs.specs.declared.rows.Row.{Row}
use Rattle.md_jobs.specs.Laws.{IsLast}
use Rattle.md_jobs.specs.Made.{Heard, made, effects}
use Rattle.md_jobs.specs.Machines.Deliver.{new_delivery, create_turn, append_turn, link_turn, delivery_turn}
use Rattle.md_jobs.specs.Machines.Deliver as delivered_by
use Rattle.md_jobs.specs.Machines.Errand.{new_errand, errand_turn, steps_left}
use Rattle.md_jobs.specs.Machines.Purposes.{first, searches}
use Rattle.md_jobs.specs.Pieces.{pieces_of}
use Rattle.md_jobs.specs.Tasks.Delivery.{Delivery, Start, Writing, Linked, Undo}
use Rattle.md_jobs.specs.Tasks.Delivery as delivery
use Rattle.md_jobs.specs.Tasks.Errand.{Errand, Look}
use Rattle.md_jobs.specs.declared.purpose.Purpose.{Purpose}
use Rattle.md_jobs.specs.declared.purpose.Purpose.TheVariants as purpose
use Rattle.md_jobs.specs.Asked.{Asked}
use Rattle.md_jobs.specs.Turn.{Turn, After}
use Rattle.md_jobs.specs.declared.answer.Answer.{Answer}
use Rattle.md_jobs.specs.declared.effect.Effect.{Effect}
use Rattle.md_jobs.specs.declared.step.DirReply.{DirReply}
use Rattle.md_jobs.specs.declared.step.DirReply.TheVariants as reply
use Rattle.md_jobs.specs.declared.step.Moment.{Moment}
use Rattle.md_jobs.proofs.Calls.{few, few-effects}
use Rattle.md_jobs.proofs.Replies.{errand-nearer, errand-left, delivery-nearer, delivery-left}
use Rattle.md_jobs.proofs.Turns.{effect-last}
use Rattle.md_jobs.proofs.Cases.{by-delivery}

-- ---- errands

-- the turn of an errand, as one of a job
abbrev pub errand_at : ℕ → Errand → Moment → Turn Errand
errand_at job e at = errand_turn job e

-- at the beginning an errand has as many calls left as its tries allow
first-left : (p : Purpose) (tries : ℕ) → steps_left (searches p) (Look (first p) tries) ≤ cond (searches p) 3 2 * max tries 1
first-left (purpose.Seen given) tries = omega arith
first-left (purpose.Flag add remove) tries = omega arith
first-left (purpose.Move to) tries = omega arith
first-left (purpose.Copy to fresh) tries = omega arith
first-left purpose.Expunge tries = omega arith

pub errand-few : (job folder : ℕ) (unique : List ℕ) (p : Purpose) (tries : ℕ) (heard : List Heard) →
    length (made (errand_at job) (new_errand folder unique p tries) heard) ≤ cond (searches p) 3 2 * max tries 1
errand-few job folder unique p tries heard =
    let few = few (errand_at job) (λ (e : Errand). e.purpose ≡ p) (λ (e : Errand). steps_left (searches p) e.stage)
    (λ e fits. errand-left (searches p) e.stage)
    (λ e at r rows fits none.
    let on = errand-nearer job e r rows none in
    let P : Purpose → Type 0 = λ q. steps_left (searches q) ((errand_turn job e).follows r rows).task.stage < steps_left (searches q) e.stage in
    (on.0 ∙ fits, subst P fits on.1))
    (new_errand folder unique p tries) heard refl in
    let begun = first-left p tries in
    omega (arith, few, begun)

-- one effect at most is left to an errand, and with it the errand has its answer
errand-spends : (e : Errand) (asked : Asked) (r : DirReply) (after : After Errand) → IsLast e.purpose after →
    length (effects (record { asked = asked; reply = r; answer = after.answer; effect = after.effect } ∷ [])) + cond (is_some after.answer) 0 1 ≤ 1
errand-spends e asked r after last = by after.answer after.effect last
  where
    by : (o : Option Answer) (x : Option Effect) → IsLast e.purpose (record { task = after.task; answer = o; effect = x }) →
        length (effects (record { asked = asked; reply = r; answer = o; effect = x } ∷ [])) + cond (is_some o) 0 1 ≤ 1
    by (Some a) (Some x) last = omega arith
    by (Some a) None last = omega arith
    by None (Some x) last = (let none = last.0 in cc)
    by None None last = omega arith

pub errand-once : (job : ℕ) (e : Errand) (heard : List Heard) → length (effects (made (errand_at job) e heard)) ≤ 1
errand-once job =
    few-effects (errand_at job) (λ (e : Errand). 1)
    (λ e at r rows. errand-spends e (errand_turn job e).asked r ((errand_turn job e).follows r rows) (effect-last job e r rows))

-- ---- deliveries

pub delivery-few : (job folder : ℕ) (unique body : List ℕ) (chunk : ℕ) → 0 < chunk → (heard : List Heard) →
    length (made (delivery_turn job) (new_delivery folder unique body chunk) heard) ≤ pieces_of (length body) chunk + 3
delivery-few job folder unique body chunk chunked heard =
    few (delivery_turn job) (λ (d : Delivery). 0 < d.chunk) (λ (d : Delivery). delivered_by.steps_left d d.stage)
    (λ d fits. delivery-left d d.stage)
    (λ d at r rows fits none.
    let on = delivery-nearer job d at r rows fits none in
    let P : ℕ → Type 0 = λ c. 0 < c in
    (subst P (sym on.0) fits, on.1.1))
    (new_delivery folder unique body chunk) heard chunked

-- how many effects a delivery may still have
abbrev effects_left : delivery.Stage → ℕ
effects_left Start = 1
effects_left (Writing start k) = 1
effects_left Linked = 0
effects_left (Undo refusal) = 0

module _ (job : ℕ) (d : Delivery) (at : Moment) (rows : List Row) where
  abbrev Spends : delivery.Stage → Turn Delivery → DirReply → Type 0
  Spends stage turn r =
      length (effects (record { asked = turn.asked; reply = r; answer = (turn.follows r rows).answer; effect = (turn.follows r rows).effect } ∷ []))
      + cond (is_some (turn.follows r rows).answer) 0 (effects_left (turn.follows r rows).task.stage) ≤ effects_left stage

  create-spends : (r : DirReply) → Spends Start (create_turn d at.own) r
  create-spends reply.Ok = omega arith
  create-spends reply.Exists = omega arith
  create-spends reply.NotFound = omega arith
  create-spends reply.Fault = omega arith

  append-spends : (start k : ℕ) (r : DirReply) → Spends (Writing start k) (append_turn d start k) r
  append-spends start k reply.Ok = omega arith
  append-spends start k reply.Exists = omega arith
  append-spends start k reply.NotFound = omega arith
  append-spends start k reply.Fault = omega arith

  link-spends : (start k : ℕ) (r : DirReply) → Spends (Writing start k) (link_turn job d) r
  link-spends start k reply.Ok = omega arith
  link-spends start k reply.Exists = omega arith
  link-spends start k reply.NotFound = omega arith
  link-spends start k reply.Fault = omega arith

  stage-spends : (stage : delivery.Stage) (r : DirReply) → Spends stage (delivered_by.stage_turn job d at stage) r
  stage-spends stage r = by-delivery job d at (λ stage turn. Spends stage turn r) (create-spends r) (λ start k more. append-spends start k r)
      (λ start k all. link-spends start k r) (λ start k. omega arith) (omega arith) (λ x. omega arith) stage

one-left : (stage : delivery.Stage) → effects_left stage ≤ 1
one-left Start = omega arith
one-left (Writing start k) = omega arith
one-left Linked = omega arith
one-left (Undo refusal) = omega arith

pub delivery-once : (job : ℕ) (d : Delivery) (heard : List Heard) → length (effects (made (delivery_turn job) d heard)) ≤ 1
delivery-once job d heard =
    let few = few-effects (delivery_turn job) (λ (d' : Delivery). effects_left d'.stage)
    (λ d' at r rows. stage-spends job d' at rows d'.stage r) d heard in
    let one = one-left d.stage in
    omega (arith, few, one)

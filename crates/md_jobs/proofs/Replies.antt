-- The laws of the machines that hold whatever the directories reply.
use Rattle.std.proofs.Common.{ℕ, ◌≡◌, ◌<◌, ◌≤◌, ◌+◌, ◌-◌, ◌++◌, List, Some, None, Bool, true, false, length, take, drop, min, refl, sym, ap, subst, ◌∙◌, arith, inl, inr}
use Rattle.std.proofs.lemmas.Bool.Decides.{nat_tests}
use Rattle.std.proofs.lemmas.List.{append_assoc, append-nil, take-append-drop, drop-drop, drop_all}
use Rattle.md_dirs.specs.declared.paths.Place.{Place}
use Rattle.md_dirs.specs.declared.paths.Place.TheVariants.{Tmp, New, Cur}
use Rattle.md_dirs.specs.declared.rows.Row.{Row}
use Rattle.md_jobs.specs.declared.answer.Answer.TheVariants as answer
use Rattle.md_jobs.specs.declared.step.DirReply.{DirReply}
use Rattle.md_jobs.specs.declared.step.DirReply.TheVariants as reply
use Rattle.md_jobs.specs.declared.step.Moment.{Moment}
use Rattle.md_jobs.specs.Laws.{IsDoneOrRefused, IsRead, IsOnRow, IsHeld, KeepsWhole, IsLinked, IsDeliveredByLink}
use Rattle.md_jobs.specs.Machines.Deliver.{create_turn, append_turn, link_turn, unlink_turn, delivery_turn}
use Rattle.md_jobs.specs.Machines.Deliver as delivered_by
use Rattle.md_jobs.specs.Machines.Errand.{steps_left, errand_turn}
use Rattle.md_jobs.specs.Machines.Errand as run_by
use Rattle.md_jobs.specs.Machines.Purposes.{first, searches, place_after, info_in, deed_by}
use Rattle.md_jobs.specs.Machines.Refusals.{refused_by}
use Rattle.md_jobs.specs.declared.purpose.Purpose.{Purpose}
use Rattle.md_jobs.specs.declared.purpose.Purpose.TheVariants as purpose
use Rattle.md_jobs.specs.Tasks.Delivery.{Delivery, Start, Writing, Linked, Undo}
use Rattle.md_jobs.specs.Tasks.Delivery as delivery
use Rattle.md_jobs.specs.Tasks.Errand.{Errand, Stage, Look, Act}
use Rattle.md_jobs.specs.declared.refusal.Refusal.{Refusal}
use Rattle.md_jobs.specs.declared.refusal.Refusal.TheVariants.{NotThere, NotTrashed, OtherInfo, NameTaken, Lost, TimedOut, TmpGone, Fault}
use Rattle.md_jobs.specs.Turn.{After}
use Rattle.md_jobs.proofs.Pieces.{pieces-less}
use Rattle.md_jobs.proofs.Cases.{by-errand, by-delivery}

-- ---- errands: an effect is at a call that was done

pub errand-done : (job : ℕ) (e : Errand) (r : DirReply) (rows : List Row) → IsDoneOrRefused r ((errand_turn job e).follows r rows)
errand-done job e r rows = by-errand job e rows (λ stage r after. IsDoneOrRefused r after)
    (λ stage r x. record { done = tt; refused = λ none. (x, refl) })
    (λ place to tries is. record { done = tt; refused = λ none. tt })
    (λ stage x info is. record { done = refl; refused = λ none. cc })
    (λ place tries row is decided. record { done = tt; refused = λ none. tt })
    (λ place row tries more. record { done = tt; refused = λ none. tt }) e.stage r

-- ---- errands: what is acted on was read

pub errand-read : (job : ℕ) (e : Errand) (r : DirReply) (rows : List Row) → ((errand_turn job e).follows r rows).answer ≡ None →
    IsRead e r rows ((errand_turn job e).follows r rows).task.stage
errand-read job e r rows = by-errand job e rows (λ stage r after. e.stage ≡ stage → after.answer ≡ None → IsRead e r rows after.task.stage)
    (λ stage r x here on. cc) (λ place to tries is here on. tt) (λ stage x info is here on. cc)
    (λ place tries row is decided here on. (refl, is, decided, (tries, here)))
    (λ place row tries more here on. tt) e.stage r refl

-- ---- errands: the path that is acted on

module _ (job : ℕ) (e : Errand) where
  act-at : (place : Place) (row : Row) (tries : ℕ) (p : Purpose) →
      IsOnRow e (run_by.asked_of (deed_by p e.folder e.unique place row.name (info_in row.name))) (Act place row tries)
  act-at place row tries (purpose.Seen given) = refl
  act-at place row tries (purpose.Flag add remove) = refl
  act-at place row tries (purpose.Move to) = refl
  act-at place row tries (purpose.Copy to fresh) = refl
  act-at place row tries purpose.Expunge = refl

  stage-at : (stage : Stage) → IsOnRow e (run_by.stage_turn job e stage).asked stage
  stage-at (Look place tries) = refl
  stage-at (Act place row tries) = act-at place row tries e.purpose

pub errand-at : (job : ℕ) (e : Errand) → IsOnRow e (errand_turn job e).asked e.stage
errand-at job e = stage-at job e e.stage

-- ---- deliveries: what is linked was written

-- the file and what follows are the body: after a piece too
grown : (file body : List ℕ) (k m : ℕ) → file ++ drop k body ≡ body → (file ++ take m (drop k body)) ++ drop (k + m) body ≡ body
grown file body k m is =
    append_assoc file (take m (drop k body)) (drop (k + m) body)
    ∙ ap (λ (l : List ℕ). file ++ (take m (drop k body) ++ l)) (sym (drop-drop m k body))
    ∙ ap (λ (l : List ℕ). file ++ l) (take-append-drop m (drop k body)) ∙ is

-- where nothing follows, the file is the body
whole : (file body : List ℕ) (k : ℕ) → file ++ drop k body ≡ body → length body ≤ k → file ≡ body
whole file body k is all = sym (append-nil file) ∙ ap (λ (l : List ℕ). file ++ l) (sym (drop_all k body all)) ∙ is

module _ (job : ℕ) (d : Delivery) (at : Moment) (file : List ℕ) (rows : List Row) where
  unlink-whole : (a : _) (r : DirReply) → IsHeld d.body file d.stage →
      KeepsWhole d file (unlink_turn d a).asked r ((unlink_turn d a).follows r rows)
  unlink-whole a reply.Ok held = record { whole = tt; body = refl; held = held }
  unlink-whole a reply.Exists held = record { whole = tt; body = refl; held = held }
  unlink-whole a reply.NotFound held = record { whole = tt; body = refl; held = held }
  unlink-whole a reply.Fault held = record { whole = tt; body = refl; held = held }

  create-whole : (r : DirReply) → IsHeld d.body file d.stage → KeepsWhole d file (create_turn d at.own).asked r ((create_turn d at.own).follows r rows)
  create-whole reply.Ok held = record { whole = tt; body = refl; held = refl }
  create-whole reply.Exists held = record { whole = tt; body = refl; held = held }
  create-whole reply.NotFound held = record { whole = tt; body = refl; held = held }
  create-whole reply.Fault held = record { whole = tt; body = refl; held = held }

  append-whole : (start k : ℕ) (r : DirReply) → IsHeld d.body file d.stage → file ++ drop k d.body ≡ d.body →
      KeepsWhole d file (append_turn d start k).asked r ((append_turn d start k).follows r rows)
  append-whole start k reply.Ok held is = record { whole = tt; body = refl; held = grown file d.body k (delivered_by.piece_len d k) is }
  append-whole start k reply.Exists held is = record { whole = tt; body = refl; held = held }
  append-whole start k reply.NotFound held is = record { whole = tt; body = refl; held = held }
  append-whole start k reply.Fault held is = record { whole = tt; body = refl; held = tt }

  link-whole : (r : DirReply) → IsHeld d.body file d.stage → file ≡ d.body → KeepsWhole d file (link_turn job d).asked r ((link_turn job d).follows r rows)
  link-whole reply.Ok held is = record { whole = is; body = refl; held = is }
  link-whole reply.Exists held is = record { whole = is; body = refl; held = tt }
  link-whole reply.NotFound held is = record { whole = is; body = refl; held = held }
  link-whole reply.Fault held is = record { whole = is; body = refl; held = tt }

pub delivery-whole : (job : ℕ) (d : Delivery) (at : Moment) (file : List ℕ) → IsHeld d.body file d.stage → (r : DirReply) (rows : List Row) →
    KeepsWhole d file (delivery_turn job d at).asked r ((delivery_turn job d at).follows r rows)
delivery-whole job d at file held r rows = by-delivery job d at
    (λ stage turn. d.stage ≡ stage → KeepsWhole d file turn.asked r (turn.follows r rows))
    (λ is. create-whole job d at file rows r held)
    (λ start k more is. append-whole job d at file rows start k r held (subst (λ s. IsHeld d.body file s) is held))
    (λ start k all is. link-whole job d at file rows r held (whole file d.body k (subst (λ s. IsHeld d.body file s) is held) all))
    (λ start k is. unlink-whole job d at file rows (refused_by TimedOut) r held)
    (λ is. unlink-whole job d at file rows answer.Delivered r held)
    (λ x is. unlink-whole job d at file rows (refused_by x) r held) d.stage refl

-- ---- deliveries: delivered by the link

module _ (job : ℕ) (d : Delivery) (at : Moment) (rows : List Row) where
  refusal-apart : (x : Refusal) → Some (refused_by x) ≡ Some answer.Delivered → ⊥
  refusal-apart NotThere is = cc
  refusal-apart NotTrashed is = cc
  refusal-apart OtherInfo is = cc
  refusal-apart NameTaken is = cc
  refusal-apart Lost is = cc
  refusal-apart TimedOut is = cc
  refusal-apart TmpGone is = cc
  refusal-apart Fault is = cc

  create-linked : (r : DirReply) → IsDeliveredByLink d (create_turn d at.own).asked r ((create_turn d at.own).follows r rows)
  create-linked reply.Ok = record { answered = λ is. cc; linked = λ on is. absurd is; effect = tt; refused = tt }
  create-linked reply.Exists = record { answered = λ is. cc; linked = λ on is. cc; effect = tt; refused = inr (NameTaken, refl) }
  create-linked reply.NotFound = record { answered = λ is. cc; linked = λ on is. cc; effect = tt; refused = inr (Fault, refl) }
  create-linked reply.Fault = record { answered = λ is. cc; linked = λ on is. cc; effect = tt; refused = inr (Fault, refl) }

  append-linked : (start k : ℕ) (r : DirReply) → IsDeliveredByLink d (append_turn d start k).asked r ((append_turn d start k).follows r rows)
  append-linked start k reply.Ok = record { answered = λ is. cc; linked = λ on is. absurd is; effect = tt; refused = tt }
  append-linked start k reply.Exists = record { answered = λ is. cc; linked = λ on is. cc; effect = tt; refused = inr (Fault, refl) }
  append-linked start k reply.NotFound = record { answered = λ is. cc; linked = λ on is. cc; effect = tt; refused = inr (TmpGone, refl) }
  append-linked start k reply.Fault = record { answered = λ is. cc; linked = λ on is. absurd is; effect = tt; refused = tt }

  link-linked : (r : DirReply) → IsDeliveredByLink d (link_turn job d).asked r ((link_turn job d).follows r rows)
  link-linked reply.Ok = record { answered = λ is. cc; linked = λ on is. (refl, refl); effect = (refl, refl); refused = tt }
  link-linked reply.Exists = record { answered = λ is. cc; linked = λ on is. absurd is; effect = tt; refused = tt }
  link-linked reply.NotFound = record { answered = λ is. cc; linked = λ on is. cc; effect = tt; refused = inr (TmpGone, refl) }
  link-linked reply.Fault = record { answered = λ is. cc; linked = λ on is. absurd is; effect = tt; refused = tt }

  undo-linked : (x : Refusal) (r : DirReply) → IsDeliveredByLink d (unlink_turn d (refused_by x)).asked r ((unlink_turn d (refused_by x)).follows r rows)
  undo-linked x r = record { answered = λ is. absurd (refusal-apart x is); linked = λ on is. cc; effect = tt; refused = inr (x, refl) }

pub delivery-linked : (job : ℕ) (d : Delivery) (at : Moment) (r : DirReply) (rows : List Row) →
    IsDeliveredByLink d (delivery_turn job d at).asked r ((delivery_turn job d at).follows r rows)
delivery-linked job d at r rows = by-delivery job d at
    (λ stage turn. d.stage ≡ stage → IsDeliveredByLink d turn.asked r (turn.follows r rows))
    (λ is. create-linked job d at rows r) (λ start k more is. append-linked job d at rows start k r) (λ start k all is. link-linked job d at rows r)
    (λ start k is. undo-linked job d at rows TimedOut r)
    (λ is. record { answered = λ said. (subst IsLinked (sym is) tt, refl); linked = λ on held. cc; effect = tt; refused = inl refl })
    (λ x is. undo-linked job d at rows x r) d.stage refl

-- ---- errands: each call leaves fewer

-- after new comes cur, which leaves less
pub next-left : (both : Bool) (place next : Place) (tries : ℕ) → place_after both place ≡ Some next →
    steps_left both (Look next tries) < steps_left both (Look place tries)
next-left true New Cur tries is = omega arith
next-left true New New tries is = cc
next-left true New Tmp tries is = cc
next-left true Tmp next tries is = cc
next-left true Cur next tries is = cc
next-left false Tmp next tries is = cc
next-left false other next tries is = cc

pub act-left : (both : Bool) (place at : Place) (row : Row) (tries : ℕ) → steps_left both (Act at row tries) < steps_left both (Look place tries)
act-left true Tmp at row tries = omega arith
act-left false Tmp at row tries = omega arith
act-left false New at row tries = omega arith
act-left false Cur at row tries = omega arith
act-left true other at row tries = omega arith

pub again-left : (both : Bool) (place at : Place) (row : Row) (tries : ℕ) → 1 < tries →
    steps_left both (Look place (tries - 1)) < steps_left both (Act at row tries)
again-left true Tmp at row tries more = omega (arith, more)
again-left false Tmp at row tries more = omega (arith, more)
again-left false New at row tries more = omega (arith, more)
again-left false Cur at row tries more = omega (arith, more)
again-left true other at row tries more = omega (arith, more)

-- where it goes on, it is for the same, and has fewer calls left
pub errand-nearer : (job : ℕ) (e : Errand) (r : DirReply) (rows : List Row) → ((errand_turn job e).follows r rows).answer ≡ None →
    (((errand_turn job e).follows r rows).task.purpose ≡ e.purpose)
    × (steps_left (searches e.purpose) ((errand_turn job e).follows r rows).task.stage < steps_left (searches e.purpose) e.stage)
errand-nearer job e r rows = by-errand job e rows (λ stage r after. after.answer ≡ None →
    (after.task.purpose ≡ e.purpose) × (steps_left (searches e.purpose) after.task.stage < steps_left (searches e.purpose) stage))
    (λ stage r x on. cc) (λ place to tries is on. (refl, next-left (searches e.purpose) place to tries is)) (λ stage x info is on. cc)
    (λ place tries row is decided on. (refl, act-left (searches e.purpose) place place row tries))
    (λ place row tries more on. (refl, again-left (searches e.purpose) (first e.purpose) place row tries (grind (arith, nat_tests)))) e.stage r

pub errand-fewer : (job : ℕ) (e : Errand) (r : DirReply) (rows : List Row) → ((errand_turn job e).follows r rows).answer ≡ None →
    steps_left (searches e.purpose) ((errand_turn job e).follows r rows).task.stage < steps_left (searches e.purpose) e.stage
errand-fewer job e r rows on = (errand-nearer job e r rows on).1

pub errand-left : (both : Bool) (stage : Stage) → 0 < steps_left both stage
errand-left true (Look New tries) = omega arith
errand-left true (Look place tries) = omega arith
errand-left true (Act place row tries) = omega arith
errand-left false (Look New tries) = omega arith
errand-left false (Look place tries) = omega arith
errand-left false (Act place row tries) = omega arith

-- ---- deliveries: each call leaves fewer

module _ (job : ℕ) (d : Delivery) (at : Moment) (rows : List Row) (chunked : 0 < d.chunk) where
  -- where it goes on, it is of the same body, and has fewer calls left
  abbrev Nearer : delivery.Stage → After Delivery → Type 0
  Nearer stage after = after.answer ≡ None →
      (after.task.chunk ≡ d.chunk) × ((after.task.body ≡ d.body) × (delivered_by.steps_left after.task after.task.stage < delivered_by.steps_left d stage))

  create-nearer : (r : DirReply) → Nearer Start ((create_turn d at.own).follows r rows)
  create-nearer reply.Ok = λ on. (refl, (refl, (let same : length d.body - 0 ≡ length d.body = omega arith in rw same (omega arith))))
  create-nearer reply.Exists = λ on. cc
  create-nearer reply.NotFound = λ on. cc
  create-nearer reply.Fault = λ on. cc

  append-nearer : (start k : ℕ) (r : DirReply) → k < length d.body → Nearer (Writing start k) ((append_turn d start k).follows r rows)
  append-nearer start k reply.Ok more = λ on. (
    refl,
    (
      refl,
      (
          let less = pieces-less (length d.body - k) d.chunk (omega (arith, more)) chunked in
          let rest : length d.body - (k + delivered_by.piece_len d k) ≡ (length d.body - k) - min d.chunk (length d.body - k) = omega arith in
          rw rest (omega (arith, less))),
    ),
  )
  append-nearer start k reply.Exists more = λ on. cc
  append-nearer start k reply.NotFound more = λ on. cc
  append-nearer start k reply.Fault more = λ on. (refl, (refl, omega arith))

  link-nearer : (start k : ℕ) (r : DirReply) → Nearer (Writing start k) ((link_turn job d).follows r rows)
  link-nearer start k reply.Ok = λ on. (refl, (refl, omega arith))
  link-nearer start k reply.Exists = λ on. (refl, (refl, omega arith))
  link-nearer start k reply.NotFound = λ on. cc
  link-nearer start k reply.Fault = λ on. (refl, (refl, omega arith))

pub delivery-nearer : (job : ℕ) (d : Delivery) (at : Moment) (r : DirReply) (rows : List Row) → 0 < d.chunk →
    ((delivery_turn job d at).follows r rows).answer ≡ None →
    (let after = ((delivery_turn job d at).follows r rows).task in
    (after.chunk ≡ d.chunk) × ((after.body ≡ d.body) × (delivered_by.steps_left after after.stage < delivered_by.steps_left d d.stage)))
delivery-nearer job d at r rows chunked = by-delivery job d at (λ stage turn. Nearer job d at rows chunked stage (turn.follows r rows))
    (create-nearer job d at rows chunked r) (λ start k more. append-nearer job d at rows chunked start k r more)
    (λ start k all. link-nearer job d at rows chunked start k r) (λ start k on. cc) (λ on. cc) (λ x on. cc) d.stage

pub delivery-left : (d : Delivery) (stage : delivery.Stage) → 0 < delivered_by.steps_left d stage
delivery-left d Start = omega arith
delivery-left d (Writing start k) = omega arith
delivery-left d Linked = omega arith
delivery-left d (Undo refusal) = omega arith

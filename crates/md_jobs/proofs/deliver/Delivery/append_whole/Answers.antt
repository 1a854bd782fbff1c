use Rattle.std.proofs.Common.{ℕ, ◌≡◌, ◌+◌, ◌<◌, ◌≤◌, List, Option, Some, None, Result, Ok, Err, OnErr, ap, subst, sym, refl, ◌∙◌, arith, length}
use Rattle.md_dirs.specs.declared.calls.DirError.{DirError}
use Rattle.md_jobs.specs.Turn.{After, reply_from}
use Rattle.md_jobs.specs.Machines.Deliver.{at_stage, after_append, piece_len}
use Rattle.md_jobs.specs.Tasks.Delivery.{Delivery as DeliveryView, Stage, Start, Writing, Linked, Undo}
use Rattle.md_jobs.specs.Tasks.Views.Bodies.{IsAtHand}
use Rattle.md_jobs.specs.declared.answer.Answer.{Answer}
use Rattle.md_jobs.specs.declared.step.DirReply.{DirReply}
use Rattle.md_jobs.specs.declared.step.DirReply.TheVariants as reply
use Rattle.md_jobs.proofs.deliver.Delivery.append_whole.Goals as goal

module _ (d : DeliveryView) (start : ℕ) (body : List ℕ) where
  -- the whole is what may be at hand
  whole-at : (stage : Stage) → body ≡ d.body → IsAtHand stage d.body body
  whole-at Start same = same
  whole-at (Writing start k) same = λ _. same
  whole-at Linked same = tt
  whole-at (Undo refusal) same = tt

  -- all is written, or all is at hand
  at-hand : (answer : Result (Unit {0}) DirError) (r : DirReply) (stage : Stage) (a : Option Answer) → reply_from answer ≡ Some r →
      OnErr answer (body ≡ d.body) → length d.body ≡ 0 + piece_len d 0 →
      after_append d start 0 r ≡ record { task = at_stage d stage; answer = a; effect = None } → IsAtHand stage d.body body
  at-hand (Ok x) r stage a is same all after =
      let done : reply.Ok ≡ r = cc in
      let written : Writing start (0 + piece_len d 0) ≡ stage = ap (λ (t : After DeliveryView). t.task.stage) (ap (after_append d start 0) done ∙ after) in
      subst (λ s. IsAtHand s d.body body) written (λ less. absurd (omega (arith, all, less)))
  at-hand (Err e) r stage a is same all after = whole-at stage same

on_err : {T E P Q : Type 0} (r : Result T E) → (P → Q) → OnErr r P → OnErr r Q
on_err (Ok x) then h = tt
on_err (Err e) then h = then h

pub invariant_of-self-2 : goal.invariant_of-self-2
invariant_of-self-2 g c =
    let i = c.self.inside in
    let d : DeliveryView = record { tmp = i.tmp; body = i.whole.value; chunk = i.chunk; stage = i.stage } in
    let same : d ≡ c.args.self.now = c.self.view_is in
    let short : length d.body ≤ d.chunk = subst (λ (x : DeliveryView). length x.body ≤ x.chunk) (sym same) c.requires.whole in
    let more : 0 < length d.body = subst (λ (x : DeliveryView). 0 < length x.body) (sym same) c.requires.more in
    let stage : i.stage ≡ Writing c.args.start 0 = ap (λ (x : DeliveryView). x.stage) same ∙ c.requires.stage in
    let whole : i.body ≡ d.body = subst (λ s. IsAtHand s d.body i.body) stage c.self.invariant.at_hand more in
    let all : length d.body ≡ 0 + piece_len d 0 = omega (arith, short) in
    record {
      sized = c.self.invariant.sized;
      at_hand = at-hand d c.args.start c.append_body.new.body c.append_body.result c.in_ok-reply.reply c.appended-answer.new.stage
          c.appended-answer.result c.in_ok-reply.ensures.ok (on_err c.append_body.result (λ kept. kept ∙ whole) c.append_body.ensures.body) all
          (c.appended-answer.ensures d 0 refl (c.self.invariant.sized ∙ all));
    }

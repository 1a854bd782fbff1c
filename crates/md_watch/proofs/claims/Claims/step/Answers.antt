use Rattle.std.proofs.Common.{ℕ, List, Some, None, subst, sym, ap, ◌∙◌}
use Rattle.md_watch.specs.Claims.{ActsAs, Acts, IsNew, actor_in}
use Rattle.md_kept.specs.Changes.{turn_of}
use Rattle.md_kept.specs.Tables.{Puts}
use Rattle.md_kept.proofs.Keys.{then}
use Rattle.md_watch.proofs.Claiming.{acts-first, acts-again, steps}
use Rattle.md_watch.proofs.claims.Claims.step.Goals as goal
use Rattle.md_watch.proofs.claims.Claims.step.Goals.{in-None, in-Some}

pub returns : goal.returns
returns c =
    let x = c.args.step.now in
    let t = turn_of c.args.change.now in
    let b = c.args.before in
    let a = c.args.after in
    let now = c.args.now in
    let old = c.args.self.now in
    let new = c.step.new.self in
    let acts : Acts x.call t b a now c.match-value.actor new = c.in_ok-step.ensures in
    let acts-as : ActsAs x.call t b a now c.take-at.result.value (Some new) = elim c.match-value.branch [
      | in-None w ↦ subst (λ o. ActsAs x.call t b a now o (Some new)) (sym w.in-None.is)
          (acts-first x.call t b a now c.match-value.actor new (subst (λ k. IsNew now k) (sym w.actor-is) w.new-actor.ensures) acts)
      | in-Some w ↦ subst (λ o. ActsAs x.call t b a now o (Some new)) (sym (w.in-Some.is ∙ ap Some (sym w.actor-is)))
          (acts-again x.call t b a now c.match-value.actor new acts)
    ] in
    then c.put_back.result
    (λ put. steps x t b a now old (record { alloc = old.alloc; actors = c.put_back.new.self }) c.take-at.new.self c.take-at.result.value new
    (c.take-at.ensures.taken ∙ ap (actor_in old) c.as_slice-name.ensures)
    (subst (λ (q : List ℕ). Puts 0 q None old.actors c.take-at.new.self) c.as_slice-name.ensures c.take-at.ensures.puts)
    (subst (λ (q : List ℕ). Puts 0 q (Some new) c.take-at.new.self c.put_back.new.self) c.as_slice-name.ensures put) acts-as)
    c.put_back.ensures

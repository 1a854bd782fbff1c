use Rattle.std.proofs.Common.{◌≡◌, ◌∙◌, ℕ, ◌+◌, List, length, Some, get_or, slice_get, refl, sym, ap, subst, arith}
use Rattle.std.proofs.lemmas.Option.{slice_get-get_or}
use Rattle.md_judge.specs.Placed.{KeepsTicks}
use Rattle.md_judge.proofs.Placing.{settled-none, places-none, has-ticks, is-next, places-next, all-placed}
use Rattle.md_judge.proofs.session.Session.judge_stretch.Goals as goal

pub returns-then-is_empty-clause-settled : goal.returns-then-is_empty-clause-settled
returns-then-is_empty-clause-settled c = λ number l w. settled-none number l c.args.self.now (c.is_empty.ensures.0 c.if-is_empty.true) w

pub loop-place-init : goal.loop-place-init
loop-place-init c = record {
  placing = λ number l w. places-none number l c.deref-at-items.result.now c.args.self.now w;
  begun = refl;
}

pub loop-place-preserved : goal.loop-place-preserved
loop-place-preserved c = record {
  placing = λ number l w.
      let p = c.loop-place.invariant.placing number l w in
      let call = c.in_ok-judge_waiting.ensures in
      let many = length w.order in
      let stretch = c.args.self.now.stretch in
      let chosen = c.deref-at-items.result.now in
      let same = c.deref-at-items.ensures.value ∙ sym c.deref.ensures.value in
      let kept : KeepsTicks stretch.steps.items chosen =
      subst (λ (o : List ℕ). KeepsTicks stretch.steps.items o) (sym same) (c.if-not-allows.ensures.ticks refl) in
      let all : length chosen ≡ length stretch.steps.items = ap length same ∙ c.if-not-allows.ensures.many refl in
      let k = c.loop-place.place in
      let at = get_or chosen k 0 in
      let is : slice_get chosen k ≡ Some at = slice_get-get_or chosen k 0 c.loop-place-test.true in
      let next = is-next number l many stretch w.waits chosen kept all k at c.loop-place.self is p call.had.0 call.had.1 in
      let now = call.judged number l p.log p.order (many + at) _ _ p.read p.judged next
      (has-ticks number l many stretch w.waits chosen kept all k at c.loop-place.self is p call.had.0 call.had.1) in
      places-next number l many stretch w.waits chosen kept all k at c.loop-place.self is p call.had.0 call.had.1 c.judge_waiting.new.self
      call.takes now.0 now.1;
  begun = c.in_ok-judge_waiting.ensures.begun ∙ c.loop-place.invariant.begun;
}

pub returns-clause-settled : goal.returns-clause-settled
returns-clause-settled c = λ number l w.
    let p = c.loop-place.invariant.placing number l w in
    let same = c.deref-at-items.ensures.value ∙ sym c.deref.ensures.value in
    let all = ap length same ∙ c.if-not-allows.ensures.many refl in
    all-placed number l (length w.order) c.loop-place.place c.args.self.now.stretch c.deref-at-items.result.now c.loop-place.self _ w.waits
    (let end = c.loop-place-test.false in let to = c.loop-place.auto.place-end in omega (arith, end, to, all)) p refl refl refl refl c.clear.ensures.moved
    c.clear.ensures.steps c.clear.ensures.lines

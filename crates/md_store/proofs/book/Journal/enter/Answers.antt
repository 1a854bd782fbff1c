use Rattle.std.proofs.Common.{◌≡◌, ◌<◌, List, [], ◌∷◌, length, sym, ◌∙◌, ap, refl, subst, arith, length-append}
use mathlib.Core.List.{IsPrefix}
use Rattle.md_core.specs.Runs.{Run, effects_of}
use Rattle.md_store.specs.declared.book.Entered.{Entered}
use Rattle.md_store.specs.Ongoing.{GoesOn}
use Rattle.md_store.specs.Pages.{Course, Log}
use Rattle.md_store.specs.Rules.{head_of, next_from, run_in}
use Rattle.md_store.proofs.Beginnings.{begins_later}
use Rattle.md_store.proofs.Entering.{enters, all-seen, next-more}
use Rattle.md_store.proofs.Ongoing.{goes-between, last-entered}
use Rattle.md_store.proofs.book.Journal.enter.Goals as goal

pub compare_exchange-found-requires : goal.compare_exchange-found-requires
compare_exchange-found-requires g c =
    let i = c.self.invariant in
    let b : c.self.inside.seen.book ≡ c.self.inside.head.book = sym (ap (λ w. w.book) i.0) in
    let both = c.learn-2.new.self in
    let first : IsPrefix c.self.inside.seen.log c.learn.new.self.log = subst (λ (es : List Entered). IsPrefix es c.learn.new.self.log) (ap (λ s. s.log) c.again-both.ensures) c.learn.ensures.2 in
    let begins : IsPrefix c.self.inside.seen.log both.log = begins_later _ _ _ first c.learn-2.ensures.2 in
    let offer = c.plain-offer.ensures in
    let goes : GoesOn (run_in c.self.inside.seen.log) c.args.world.now =
    subst (λ (x : Course). GoesOn x.run c.args.world.now) (sym c.self.view_is) c.requires.goes in (
      ap (λ w. w.tracked) i.0,
      c.learn-2.ensures.0 ∙ (c.learn.ensures.0 ∙ (ap (λ s. s.book) c.again-both.ensures ∙ b)),
      i.1 ∙ b,
      offer.0,
      rw (ap (λ w. w.key) i.0, offer.1, offer.3) (enters c.self.inside.seen.log both.log begins i.5 c.self.inside.pen.nib _ i.2 i.3 refl goes),
    )

pub invariant_of-self : goal.invariant_of-self
invariant_of-self g c =
    let i = c.self.invariant in
    let told = c.compare_exchange-found.ensures in
    let both = c.learn-2.new.self in
    let pen = c.new_pen-found.ensures.pen in
    let ask = c.plain-offer.result.ask in
    let same : both.book ≡ c.self.inside.seen.book = c.learn-2.ensures.0 ∙ (c.learn.ensures.0 ∙ ap (λ s. s.book) c.again-both.ensures) in
    let made : c.new_pen-found.result.1.book ≡ c.self.inside.seen.book = pen.0 ∙ ap (λ s. s.book) c.again.ensures in
    let now : c.compare_exchange-found.new.seen.book ≡ c.self.inside.seen.book = told.0 ∙ same in
    let is : run_in c.compare_exchange-found.new.seen.log ≡ c.args.world.now = ap run_in told.7.0 ∙ (last-entered _ both.log ask ∙ ap (λ (e : Entered). e.world) c.plain-offer.ensures.1) in (
      i.0 ∙ ap head_of (sym now),
      made ∙ sym now,
      pen.1,
      sym (ap (next_from 0) told.7.0 ∙ (next-more 0 ask both.log ∙ ap (λ (e : Entered). e.next) c.plain-offer.ensures.1)),
      ap length c.effects.ensures ∙ ap (λ (r : Run). length (effects_of r)) (sym is),
      subst (λ (es : List Entered). 0 < length es) (sym told.7.0) (omega (arith, length-append both.log (ask ∷ []))),
    )

pub returns-clause-run : goal.returns-clause-run
returns-clause-run g c =
    let told = c.compare_exchange-found.ensures in
    ap run_in told.7.0 ∙ (last-entered _ c.learn-2.new.self.log c.plain-offer.result.ask ∙ ap (λ (e : Entered). e.world) c.plain-offer.ensures.1)

pub returns-clause-covers : goal.returns-clause-covers
returns-clause-covers g c =
    let i = c.self.invariant in
    let told = c.compare_exchange-found.ensures in
    let both = c.learn-2.new.self in
    let first : IsPrefix c.self.inside.seen.log c.learn.new.self.log = subst (λ (es : List Entered). IsPrefix es c.learn.new.self.log) (ap (λ s. s.log) c.again-both.ensures) c.learn.ensures.2 in
    let begins : IsPrefix c.self.inside.seen.log both.log = begins_later _ _ _ first c.learn-2.ensures.2 in
    let all : both.log ≡ c.self.inside.seen.log = all-seen c.self.inside.seen.log both.log c.self.inside.pen.nib.key begins told.7.1 told.7.2 i.3 in
    let chained = c.learn-2.ensures.4.1 in
    let theirs : IsPrefix c.front.inside.seen.log both.log = begins_later _ _ _ c.learn.ensures.3 c.learn-2.ensures.2 in
    let goes : GoesOn (run_in c.front.inside.seen.log) (run_in both.log) =
    goes-between chained.start c.front.inside.seen.log both.log chained.order theirs c.front.invariant.1 in
    let whole : run_in both.log ≡ c.args.self.now.run = ap run_in all ∙ ap (λ (x : Course). x.run) c.self.view_is in
    subst (λ (x : Log × Run). IsPrefix x.0.log (effects_of x.1)) (λ k. (c.front.view_is k, whole k)) goes.history

pub returns-clause-from : goal.returns-clause-from
returns-clause-from g c =
    let i = c.self.invariant in
    let told = c.compare_exchange-found.ensures in
    let both = c.learn-2.new.self in
    let first : IsPrefix c.self.inside.seen.log c.learn.new.self.log = subst (λ (es : List Entered). IsPrefix es c.learn.new.self.log) (ap (λ s. s.log) c.again-both.ensures) c.learn.ensures.2 in
    let begins : IsPrefix c.self.inside.seen.log both.log = begins_later _ _ _ first c.learn-2.ensures.2 in
    let all : both.log ≡ c.self.inside.seen.log = all-seen c.self.inside.seen.log both.log c.self.inside.pen.nib.key begins told.7.1 told.7.2 i.3 in
    let chained = c.learn-2.ensures.4.1 in
    let goes : GoesOn (run_in c.moment.inside.seen.log) (run_in both.log) =
    goes-between chained.start c.moment.inside.seen.log both.log chained.order c.learn-2.ensures.3 c.moment.invariant.2 in
    let whole : run_in both.log ≡ c.args.self.now.run = ap run_in all ∙ ap (λ (x : Course). x.run) c.self.view_is in
    subst (λ (x : Course × Run). GoesOn x.0.run x.1) (λ k. (c.moment.view_is k, whole k)) goes

use Rattle.std.proofs.Common.{◌<◌, ◌≤◌, List, ap, refl, sym, subst, ◌∙◌, arith, rules}
use mathlib.Core.List.{IsPrefix}
use Rattle.md_store.specs.declared.book.Entered.{Entered}
use Rattle.md_store.specs.Ongoing.{GoesOn}
use Rattle.md_store.specs.Pages.{Course}
use Rattle.md_store.specs.Rules.{run_in}
use Rattle.md_store.proofs.Ongoing.{goes_itself, one-goes, by-calls, by-events, by-both}
use Rattle.md_store.proofs.book.Moment.later.Goals as goal

pub returns-then-self-other-clause-that : goal.returns-then-self-other-clause-that
returns-then-self-other-clause-that c =
    let both = c.learn.new.self.log in
    let l = c.learn.ensures in
    let mine : IsPrefix c.self.inside.seen.log both = subst (λ (es : List Entered). IsPrefix es both) (ap (λ s. s.log) c.again-both.ensures) l.2 in
    let one = one-goes l.4.1.start c.self.inside.seen.log c.other.inside.seen.log both l.4.1.order mine l.3 c.self.invariant.2 c.other.invariant.2 in
    let less : c.other.inside.calls < c.self.inside.calls = search rules in
    let goes = by-calls (run_in c.self.inside.seen.log) (run_in c.other.inside.seen.log) one (omega (arith, c.self.invariant.0, c.other.invariant.0, less)) in
    subst (λ (x : Course × Course). GoesOn x.0.run x.1.run) (λ i. (c.other.view_is i, (c.self.view_is ∙ sym c.again.ensures) i)) goes

pub returns-then-self-other-2-clause-that : goal.returns-then-self-other-2-clause-that
returns-then-self-other-2-clause-that c =
    let both = c.learn.new.self.log in
    let l = c.learn.ensures in
    let mine : IsPrefix c.self.inside.seen.log both = subst (λ (es : List Entered). IsPrefix es both) (ap (λ s. s.log) c.again-both.ensures) l.2 in
    let one = one-goes l.4.1.start c.self.inside.seen.log c.other.inside.seen.log both l.4.1.order mine l.3 c.self.invariant.2 c.other.invariant.2 in
    let less : c.other.inside.events < c.self.inside.events = search rules in
    let goes = by-events (run_in c.self.inside.seen.log) (run_in c.other.inside.seen.log) one (omega (arith, c.self.invariant.1, c.other.invariant.1, less)) in
    subst (λ (x : Course × Course). GoesOn x.0.run x.1.run) (λ i. (c.other.view_is i, (c.self.view_is ∙ sym c.again-then-self-other-2.ensures) i)) goes

pub returns-clause-this : goal.returns-clause-this
returns-clause-this c =
    let both = c.learn.new.self.log in
    let l = c.learn.ensures in
    let mine : IsPrefix c.self.inside.seen.log both = subst (λ (es : List Entered). IsPrefix es both) (ap (λ s. s.log) c.again-both.ensures) l.2 in
    let one = one-goes l.4.1.start c.self.inside.seen.log c.other.inside.seen.log both l.4.1.order mine l.3 c.self.invariant.2 c.other.invariant.2 in
    let calls : c.self.inside.calls ≤ c.other.inside.calls = search rules in
    let events : c.self.inside.events ≤ c.other.inside.events = search rules in
    let goes = by-both (run_in c.self.inside.seen.log) (run_in c.other.inside.seen.log) one
    (omega (arith, c.self.invariant.0, c.other.invariant.0, calls)) (omega (arith, c.self.invariant.1, c.other.invariant.1, events)) in
    subst (λ (x : Course × Course). GoesOn x.0.run x.1.run) (λ i. (c.self.view_is i, (c.other.view_is ∙ sym c.again-2.ensures) i)) goes

pub returns-then-self-other-clause-this : goal.returns-then-self-other-clause-this
returns-then-self-other-clause-this c = subst (λ (x : Course). GoesOn c.args.self.now.run x.run) (sym c.again.ensures) (goes_itself _ _ refl)

pub returns-then-self-other-2-clause-this : goal.returns-then-self-other-2-clause-this
returns-then-self-other-2-clause-this c = subst (λ (x : Course). GoesOn c.args.self.now.run x.run) (sym c.again-then-self-other-2.ensures) (goes_itself _ _ refl)

pub returns-clause-that : goal.returns-clause-that
returns-clause-that c = subst (λ (x : Course). GoesOn c.args.other.now.run x.run) (sym c.again-2.ensures) (goes_itself _ _ refl)

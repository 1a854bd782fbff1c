use Rattle.std.proofs.Common.{◌≡◌, Some, List, length, get_or, slice_get, ltb, false, sym, ap, subst, ◌∙◌}
use Rattle.std.proofs.lemmas.Option.{slice_get-get_or}
use Rattle.md_judge.specs.declared.log.Finding.{Finding}
use Rattle.md_judge.proofs.Resorted.{Entry, entries-of, entry-of, never-past, gathered-more, gathered-all, resorted, same-findings}
use Rattle.md_judge.proofs.session.Session.sort.Goals as goal
use Rattle.md_judge.proofs.session.Session.sort.Goals.{in-Some+in_ok-push-2, in_default}

pub loop-at-2-preserved : goal.loop-at-2-preserved
loop-at-2-preserved c =
    let fs = c.args.self.now.findings.items in
    let es = c.deref-at-items.result.now in
    let new = c.sort_unstable.new.self.items in
    let k = c.loop-at-2.at-index in
    let e : Entry = get_or es k (0, 0) in
    let is : slice_get es k ≡ Some e = slice_get-get_or es k (0, 0) c.loop-at-2-test.true in
    let all = entries-of fs c.deref-finding-items.result.now c.loop-at.order.items c.loop-at.at c.deref-finding-items.ensures.value
    c.loop-at-test.false c.loop-at.auto.at-end c.loop-at.invariant.long c.loop-at.invariant.each in
    let same = c.deref.ensures.value in
    elim c.match-get.branch [
      | in-Some+in_ok-push-2 w ↦
          let f = w.in-Some.finding.now in
          let found = w.in-Some.ensures.lookup in
          let there : slice_get c.deref.result.now e.1 ≡ Some f =
          slice_get-get_or c.deref.result.now e.1 f found.3.0 ∙ ap Some (sym found.1) in
          gathered-more fs c.loop-at-2.findings.items c.match-get.findings.items es k e f is
          (subst (λ (hs : List Finding). slice_get hs e.1 ≡ Some f) same there)
          ((λ i. (w.findings-is i).items) ∙ w.in_ok-push-2.ensures.items) c.loop-at-2.invariant
      | in_default w ↦
          absurd (never-past fs e
          (entry-of fs c.loop-at.order.items new all.0 all.1 c.sort_unstable.ensures.permutation c.sort_unstable.ensures.sorted k e
          (subst (λ (xs : List Entry). slice_get xs k ≡ Some e) c.deref-at-items.ensures.value is))
          (subst (λ (hs : List Finding). false ≡ ltb e.1 (length hs)) same w.in_default.ensures.lookup.0))
    ]

pub returns-clause-sorted : goal.returns-clause-sorted
returns-clause-sorted c = λ order.
    let fs = c.args.self.now.findings.items in
    let all = entries-of fs c.deref-finding-items.result.now c.loop-at.order.items c.loop-at.at c.deref-finding-items.ensures.value
    c.loop-at-test.false c.loop-at.auto.at-end c.loop-at.invariant.long c.loop-at.invariant.each in
    let done = gathered-all fs c.loop-at-2.findings.items c.deref-at-items.result.now c.sort_unstable.new.self.items c.loop-at-2.at-index
    c.deref-at-items.ensures.value c.loop-at-2-test.false c.loop-at-2.auto.at-index-end c.loop-at-2.invariant in
    resorted fs c.loop-at.order.items c.sort_unstable.new.self.items all.0 all.1 c.sort_unstable.ensures.permutation
    c.sort_unstable.ensures.sorted c.loop-at-2.findings.items done.0 done.1 order

pub returns-clause-same : goal.returns-clause-same
returns-clause-same c = λ n o.
    let fs = c.args.self.now.findings.items in
    let all = entries-of fs c.deref-finding-items.result.now c.loop-at.order.items c.loop-at.at c.deref-finding-items.ensures.value
    c.loop-at-test.false c.loop-at.auto.at-end c.loop-at.invariant.long c.loop-at.invariant.each in
    let done = gathered-all fs c.loop-at-2.findings.items c.deref-at-items.result.now c.sort_unstable.new.self.items c.loop-at-2.at-index
    c.deref-at-items.ensures.value c.loop-at-2-test.false c.loop-at-2.auto.at-index-end c.loop-at-2.invariant in
    same-findings fs c.loop-at.order.items c.sort_unstable.new.self.items all.0 all.1 c.sort_unstable.ensures.permutation
    c.sort_unstable.ensures.sorted c.loop-at-2.findings.items done.0 done.1 n o

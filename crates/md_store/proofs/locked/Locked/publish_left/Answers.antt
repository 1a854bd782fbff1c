use Rattle.std.proofs.Common.{◌≡◌, ◌≤◌, ap, ◌∙◌, sym, subst, inr, drop, length, rules}
use Rattle.left_right.specs.Sides.{view}
use Rattle.md_core.specs.Runs.{effects_of}
use Rattle.md_view.specs.Named.{Named}
use Rattle.md_store.specs.declared.rule.Knowledge.{Knowledge}
use Rattle.md_store.specs.Pages.{Page}
use Rattle.md_store.specs.Locks.{Both, Lags}
use Rattle.md_store.specs.Publishing.{CanFollow, WaitsFor, knower}
use Rattle.md_store.proofs.Moves.{catches, whole}
use Rattle.md_store.proofs.locked.Locked.publish_left.Goals as goal

pub invariant_of-self-2 : goal.invariant_of-self-2
invariant_of-self-2 g c =
    let k = c.self.invariant in
    let r = c.self.inside.world in
    let begun = g.J.Naming.begun in
    let opening = g.J.Naming.opening in
    let d = c.in_ok-post.ensures.desk in
    let p : c.self.inside.writer.desk.shown.value ≡ c.post.new.writer.desk.shown.value = sym (ap (λ x. x.shown.value) d) in
    let s : view c.self.inside.writer.desk.place ≡ view c.post.new.writer.desk.place = sym (ap (λ x. view x.place) d) in
    let o : (view c.self.inside.writer.desk.place).opening ≡ opening = ap (λ (v : Knowledge). v.opening) k.seat_is in
    let n = c.in_ok-post.ensures.pending in
    let waiting : WaitsFor (effects_of r) opening c.post.new.writer.desk.shown.value (drop c.post.new.writer.behind c.post.new.writer.log.items) =
    (n.0, n.1, subst (λ (x : Named × Page). CanFollow x.0 x.1 n.0) (λ i. (o i, p i)) n.2, n.3 ∙ c.effects-2.ensures) in
    catches begun opening g.J.Naming.book r _ c.post.new.writer.desk.shown.value c.publish.new.writer.desk.shown.value
    (view c.post.new.writer.desk.place) _ _ _ c.publish.result
    (record {
      since = k.since;
      image = k.image;
      book_is = ap (λ (x : Page). x.front.book) (sym p) ∙ k.book_is;
      seat_is = sym s ∙ (k.seat_is ∙ ap (knower opening) p);
      lag = subst (λ (x : Page). Lags (effects_of r) x.front.log) p k.lag;
      journal_book = k.journal_book;
      goes = k.goes;
      entered = k.entered;
      waits = inr waiting;
    })
    waiting c.publish.ensures

pub returns-then-len-effects-clause-published : goal.returns-then-len-effects-clause-published
returns-then-len-effects-clause-published g c =
    let less : length (effects_of c.self.inside.world) ≤ length c.self.inside.writer.desk.shown.value.front.log = search rules in
    subst (λ (v : Both). v.published ≡ effects_of v.run) c.self.view_is (sym (whole _ _ c.self.invariant.lag less))

use Rattle.std.proofs.Common.{◌≡◌, ℕ, List, Some, refl, rules, All, subst, sym, ap, ◌∙◌}
use Rattle.std.proofs.lemmas.List.Elements.{All-drop}
use Rattle.md_index.specs.declared.item.Message.{Message}
use Rattle.md_index.specs.declared.item.Indexed.{Indexed}
use Rattle.md_index.specs.Index.{IsBrought}
use Rattle.md_index.proofs.Gathering.{first-holds, first-seen}
use Rattle.md_index.proofs.worker_entries.WorkerEntries.take.Goals as goal

pub invariant_of-self-2 : goal.invariant_of-self-2
invariant_of-self-2 c =
    let P = IsBrought c.self.inside.messages.now in
    subst (All P) (sym c.pop_front.ensures.rest) (All-drop P 1 c.self.inside.brought.items c.self.invariant)

pub returns-clause-entry : goal.returns-clause-entry
returns-clause-entry c =
    let popped : ℕ × Indexed = (c.in_ok-made.field-0-0, c.in_ok-made.made) in
    let all = c.self.inside.brought.items in
    let brought = first-holds (IsBrought c.self.inside.messages.now) all c.pop_front.new.self.items popped
    (Some popped) refl c.in_ok-made.ensures.items c.self.invariant in
    let seen = first-seen all c.pop_front.new.self.items c.in_ok-next.field-0.now popped
    (Some popped) refl c.in_ok-made.ensures.items c.in_ok-next.ensures.lookup in
    let same : c.in_ok-next.next ≡ c.args.item = search rules in
    let number : popped.0 ≡ c.args.item = ap (λ p. p.0) seen ∙ (c.in_ok-next.next-is ∙ same) in
    subst (λ (x : List Message × ℕ). IsBrought x.0 (x.1, c.in_ok-made.made)) (λ i. (c.self.view_is i, number i)) brought

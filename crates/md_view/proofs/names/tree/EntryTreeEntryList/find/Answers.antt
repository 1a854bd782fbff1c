use Rattle.std.proofs.Common.{◌≡◌, Some, sym, ap, ◌∙◌}
use Rattle.md_view.specs.Held.{entry_with, named, entry_at}
use Rattle.md_view.proofs.Held.Trees.{found, found-none}
use Rattle.md_view.proofs.names.tree.EntryTreeEntryList.find.Goals as goal

pub returns-then-is_behind : goal.returns-then-is_behind
returns-then-is_behind c = sym (c.is_behind.ensures c.if-is_behind.true)

pub returns-in_err-unique : goal.returns-in_err-unique
returns-in_err-unique c =
    let u = c.args.unique.now in
    let none = found-none u c.self.inside.leaves.entries (sym c.in_err-unique.ensures.value) in
    c.from_residual.ensures ∙ sym (ap (entry_with u) (sym c.self.view_is) ∙ none)

pub returns : goal.returns
returns c =
    let u = c.args.unique.now in
    let leaf = c.in_ok-unique.leaf.now in
    let is = found u c.in_ok-unique.unique.now leaf c.self.inside.leaves.entries (sym c.in_ok-unique.ensures.key) (sym c.in_ok-unique.ensures.value) in
    let shown : c.lent.result ≡ entry_at (c.in_ok-unique.unique.now, leaf) =
    c.lent.ensures ∙ ap (λ u. named u leaf) c.as_slice.ensures.value in
    ap Some shown ∙ sym (ap (entry_with u) (sym c.self.view_is) ∙ is)

use Rattle.std.proofs.Common.{ℕ, ◌≡◌, ◌<◌, List, [], ◌∷◌, Vec, None, false, true, length, refl, sym, ap, ◌∙◌, arith}
use Rattle.std.specs.Ordering.{is_lt}
use Rattle.std.proofs.lemmas.List.Elements.{recursion_from_All}
use Rattle.md_core.specs.Mailbox.{name_cmp}
use Rattle.md_view.specs.declared.names.tree.Leaf.{Leaf}
use Rattle.md_view.specs.Held.{entry_with, entries_in}
use Rattle.md_listing.proofs.Keyed.{less, ordered}
use Rattle.md_view.proofs.Held.Trees.{behind-none}
use Rattle.md_view.proofs.names.tree.EntryTree.is_behind.Goals as goal

none-of-none : {A : Type 0} (u : List ℕ) (ls : List (Vec ℕ A × Leaf)) → (0 < length ls → false ≡ true) → entry_with u (entries_in ls) ≡ None
none-of-none u [] none = refl
none-of-none u (l ∷ ls) none = let never : false ≡ true = none (omega arith) in cc

pub returns-in-Some : goal.returns-in-Some
returns-in-Some c = λ passes.
    let u = c.args.unique.now in
    let last = c.in-Some.last.now.items in
    let above : is_lt (name_cmp last u) ≡ true =
    ap (λ (w : List ℕ). is_lt (name_cmp w u)) (sym c.as_slice.ensures.value) ∙ ap is_lt (sym c.cmp.ensures) ∙ sym c.is_lt.ensures ∙ passes in
    ap (entry_with u) (sym c.self.view_is)
    ∙ behind-none u last c.self.inside.leaves.entries (less _ (ordered _ above)) (recursion_from_All _ _ c.in-Some.ensures.all_up_to)

pub returns-in-None : goal.returns-in-None
returns-in-None c = λ passes.
    let u = c.args.unique.now in
    ap (entry_with u) (sym c.self.view_is) ∙ none-of-none u c.self.inside.leaves.entries c.in-None.ensures.variant.1

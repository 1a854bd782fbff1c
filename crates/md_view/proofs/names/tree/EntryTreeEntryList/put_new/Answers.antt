use Rattle.std.proofs.Common.{◌≡◌, List, ℕ, Some, None, IsSome, refl, sym, subst, ap, ◌∙◌}
use Rattle.std.specs.Prelude.{unwrap_or}
use Rattle.std.specs.Map.{lookup, set_value}
use Rattle.std.specs.Option.{option_copied_mut}
use Rattle.md_view.specs.declared.names.tree.EntryTree.TheInside.{Inside as EntryTree}
use Rattle.md_listing.specs.declared.entry.Entry.{Entry}
use Rattle.md_view.specs.declared.names.tree.Leaf.{Leaf}
use Rattle.md_listing.specs.Readings.{IsInOrder}
use Rattle.md_view.specs.Held.{entry_with, DiffersAt, named, entries_in}
use Rattle.md_view.proofs.Held.Trees.{is_key, inserted-new, put-back, inserted-there}
use Rattle.md_view.proofs.names.tree.EntryTreeEntryList.put_new.Goals as goal
use Rattle.md_view.proofs.names.tree.EntryTreeEntryList.put_new.Goals.{in-Some-get_mut+in-Some-1, in-Some-get_mut+in-None-1, in_default-get_mut+in-Some-1, in_default-get_mut+in-None-1}

-- what is shown of a key and a leaf is shown of the entry that they make
comes : (e : Entry) (u : List ℕ) (leaf : Leaf) (es shown new : List Entry) → u ≡ e.unique → named e.unique leaf ≡ e → es ≡ shown
    → DiffersAt u (Some (unwrap_or (entry_with u es) (named u leaf))) es new
    → DiffersAt e.unique (Some (unwrap_or (entry_with e.unique shown) e)) shown new
comes e u leaf es shown new same own view is =
    subst (λ (l : List Entry). DiffersAt e.unique (Some (unwrap_or (entry_with e.unique l) e)) l new) view
    (subst (λ (x : Entry). DiffersAt e.unique (Some (unwrap_or (entry_with e.unique es) x)) es new) own
    (subst (λ (v : List ℕ). DiffersAt v (Some (unwrap_or (entry_with v es) (named v leaf))) es new) same is))

pub returns-in_default-clause-ok : goal.returns-in_default-clause-ok
returns-in_default-clause-ok c =
    let old = c.self.inside.leaves.entries in
    let new = c.insert.new.self.entries in
    let k = c.into_vec.result in
    let leaf = c.in_ok-leaf.leaf in
    comes c.args.entry k.items leaf (entries_in old) c.args.self.now (entries_in new)
    (c.into_vec.ensures ∙ c.in_ok-unique.ensures ∙ c.unique.ensures) c.in_ok-leaf.ensures c.self.view_is
    (inserted-new k leaf old new (subst IsInOrder (sym c.self.view_is) c.requires)
    (sym c.in_ok-old.ensures.old ∙ c.in_default.is) c.in_ok-old.ensures.entries)

pub returns-clause-ok : goal.returns-clause-ok
returns-clause-ok c =
    let old = c.self.inside.leaves.entries in
    let mid = c.insert.new.self.entries in
    let new = c.match-get_mut.self-inside.leaves.entries in
    let k = c.into_vec.result in
    let leaf = c.in_ok-leaf.leaf in
    let sorted : IsInOrder (entries_in old) = subst IsInOrder (sym c.self.view_is) c.requires in
    let key : c.unique-2.result.now ≡ k.items = c.unique-2.ensures ∙ sym (c.into_vec.ensures ∙ c.in_ok-unique.ensures ∙ c.unique.ensures) in
    let was = sym c.in_ok-old.ensures.old ∙ c.in-Some.is in
    let back : IsSome (lookup (is_key k.items) mid) → new ≡ set_value (is_key k.items) mid c.in-Some.old
    → DiffersAt c.args.entry.unique (Some (unwrap_or (entry_with c.args.entry.unique c.args.self.now) c.args.entry)) c.args.self.now (entries_in new)
    = λ some made.
    comes c.args.entry k.items leaf (entries_in old) c.args.self.now (entries_in new)
    (c.into_vec.ensures ∙ c.in_ok-unique.ensures ∙ c.unique.ensures) c.in_ok-leaf.ensures c.self.view_is
    (put-back k leaf c.in-Some.old old mid new sorted was c.in_ok-old.ensures.entries some made) in
    let there : (kept : Leaf) → lookup (is_key c.unique-2.result.now) mid ≡ Some kept
    → new ≡ set_value (is_key c.unique-2.result.now) mid c.in-Some.old
    → DiffersAt c.args.entry.unique (Some (unwrap_or (entry_with c.args.entry.unique c.args.self.now) c.args.entry)) c.args.self.now (entries_in new)
    = λ kept is made.
    back (subst IsSome (sym is ∙ ap (λ u. lookup (is_key u) mid) key) refl) (made ∙ ap (λ u. set_value (is_key u) mid c.in-Some.old) key) in
    let gone : lookup (is_key c.unique-2.result.now) mid ≡ None → ⊥
    = λ none. inserted-there k leaf old mid sorted c.in_ok-old.ensures.entries (ap (λ u. lookup (is_key u) mid) (sym key) ∙ none) in
    elim c.match-get_mut.branch [
      | in-Some-get_mut+in-Some-1 w ↦
          there w.in-Some-get_mut.kept.now (sym c.get_mut.ensures.value ∙ ap option_copied_mut w.in-Some-get_mut.is)
          (ap (λ (m : EntryTree). m.leaves.entries) w.self-inside-is ∙ (c.get_mut.follows.holds c.in-Some.old).0)
      | in-Some-get_mut+in-None-1 w ↦
          there w.in-Some-get_mut.kept.now (sym c.get_mut.ensures.value ∙ ap option_copied_mut w.in-Some-get_mut.is)
          (ap (λ (m : EntryTree). m.leaves.entries) w.self-inside-is ∙ (c.get_mut.follows.holds c.in-Some.old).0)
      | in_default-get_mut+in-Some-1 w ↦ absurd (gone (sym c.get_mut.ensures.value ∙ ap option_copied_mut w.in_default-get_mut.is))
      | in_default-get_mut+in-None-1 w ↦ absurd (gone (sym c.get_mut.ensures.value ∙ ap option_copied_mut w.in_default-get_mut.is))
    ]

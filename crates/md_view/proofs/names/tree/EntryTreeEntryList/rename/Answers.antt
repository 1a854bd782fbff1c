use Rattle.std.proofs.Common.{◌≡◌, List, Option, sym, subst, ap, ◌∙◌}
use Rattle.std.proofs.lemmas.Result.{on_ok_weaker, on_err_weaker}
use Rattle.std.specs.Map.{set_value}
use Rattle.std.specs.Prelude.{OnOk, OnErr}
use Rattle.std.specs.Option.{option_map, option_copied_mut}
use Rattle.md_view.specs.declared.names.tree.EntryTree.TheInside.{Inside as EntryTree}
use Rattle.md_listing.specs.declared.entry.Entry.{Entry}
use Rattle.md_listing.specs.Readings.{IsInOrder}
use Rattle.md_view.specs.Held.{entry_with, renamed, DiffersAt, entries_in}
use Rattle.md_view.proofs.Held.Trees.{is_key, kept, renames, renames-none}
use Rattle.md_view.proofs.names.tree.EntryTreeEntryList.rename.Goals as goal
use Rattle.md_view.proofs.names.tree.EntryTreeEntryList.rename.Goals.{in-None, in-Some}

pub returns-clause-ok : goal.returns-clause-ok
returns-clause-ok c =
    let old = c.self.inside.leaves.entries in
    let new = c.match-get_mut.self-inside.leaves.entries in
    let u = c.args.unique.now in
    let name = c.args.name.now in
    let to_name = c.args.to_name.now in
    let sorted : IsInOrder (entries_in old) = subst IsInOrder (sym c.self.view_is) c.requires in
    let what : List Entry → Option Entry = λ es. option_map (renamed name to_name) (entry_with u es) in
    let shows : List Entry → Type 0 = λ es. DiffersAt u (what c.args.self.now) c.args.self.now es in
    elim c.match-get_mut.branch [
      | in-None w ↦
          let none = sym c.get_mut.ensures.value ∙ ap option_copied_mut w.in-None.is in
          let same = ap (λ (m : EntryTree). entries_in m.leaves.entries) w.self-inside-is ∙ ap (λ m. entries_in m.entries) c.get_mut.follows.holds-at-none in
          subst (λ r. OnOk r (shows (entries_in new))) (sym w.result-is)
          (subst shows (sym (same ∙ c.self.view_is))
          (subst (λ (es : List Entry). DiffersAt u (what es) es es) c.self.view_is (renames-none u name to_name old sorted none)))
      | in-Some w ↦
          let is = sym c.get_mut.ensures.value ∙ ap option_copied_mut w.in-Some.is in
          let made = ap (λ (m : EntryTree). m.leaves.entries) w.self-inside-is ∙ (c.get_mut.follows.holds w.rename.new.self).0 in
          subst (λ r. OnOk r (shows (entries_in new))) (sym w.result-is)
          (on_ok_weaker w.rename.result
          (λ given. subst (λ (es : List Entry). DiffersAt u (what es) es (entries_in new)) c.self.view_is
          (renames u name to_name w.in-Some.leaf.now old new sorted is (made ∙ ap (set_value (is_key u) old) given)))
          w.rename.ensures.ok)
    ]

pub returns-clause-err : goal.returns-clause-err
returns-clause-err c =
    let old = c.self.inside.leaves.entries in
    let new = c.match-get_mut.self-inside.leaves.entries in
    let u = c.args.unique.now in
    elim c.match-get_mut.branch [
      | in-None w ↦ subst (λ r. OnErr r (entries_in new ≡ c.args.self.now)) (sym w.result-is) tt
      | in-Some w ↦
          let is = sym c.get_mut.ensures.value ∙ ap option_copied_mut w.in-Some.is in
          let made = ap (λ (m : EntryTree). m.leaves.entries) w.self-inside-is ∙ (c.get_mut.follows.holds w.rename.new.self).0 in
          subst (λ r. OnErr r (entries_in new ≡ c.args.self.now)) (sym w.result-is)
          (on_err_weaker w.rename.result
          (λ same. kept u w.in-Some.leaf.now old new is (made ∙ ap (set_value (is_key u) old) same) ∙ c.self.view_is)
          w.rename.ensures.err)
    ]

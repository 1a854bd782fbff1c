use Rattle.std.proofs.Common.{inl, None, ◌∙◌, sym, ap}
use Rattle.std.specs.Option.{option_or}
use Rattle.md_dirs.specs.Index.{get_name}
use Rattle.md_dirs.proofs.NameRows.{taken-loose}
use Rattle.md_dirs.proofs.Alike.{get-both, changed-others, taken-row}
use Rattle.md_dirs.proofs.index.names.Names.take.Goals as goal

pub returns-in_default-clause-file : goal.returns-in_default-clause-file
returns-in_default-clause-file c =
    let rows = c.self.inside.table.keys in
    let others = c.self.inside.others.entries in
    rw (← c.self.view_is) (c.take_beside.ensures.file ∙ ap (λ o. option_or o (get_name others c.args.name.now)) c.in_default.ensures.file ∙ sym (get-both rows others c.args.name.now))

pub returns-in_default-clause-gone : goal.returns-in_default-clause-gone
returns-in_default-clause-gone c =
    let rows = c.self.inside.table.keys in
    let others = c.self.inside.others.entries in
    let new = c.take_beside.new.others.entries in
    let name = c.args.name.now in
    rw (← c.self.view_is) (taken-loose _ _ name (changed-others rows others new name None (sym c.in_default.ensures.file) c.take_beside.ensures.names))

pub invariant_of-self-2 : goal.invariant_of-self-2
invariant_of-self-2 c =
    let rows = c.self.inside.table.keys in
    let others = c.self.inside.others.entries in
    let keys = rw (c.swap_remove_index-gone.ensures.key ∙ c.in-Some.ensures.there) at c.swap_remove_index-gone.ensures.keys in
    let taken = taken-row rows others c.swap_remove_index-gone.new.self.keys c.in-Some.at c.args.name.now c.in-Some.file c.place_near.ensures.apart
    c.in-Some.ensures.there (sym c.in-Some.ensures.file) keys c.self.invariant.apart in
    record { apart = taken.1; ordered = inl c.clear.ensures.items }

pub returns-clause-file : goal.returns-clause-file
returns-clause-file c =
    let rows = c.self.inside.table.keys in
    let others = c.self.inside.others.entries in
    rw (← c.self.view_is) (ap (λ o. option_or o (get_name others c.args.name.now)) c.in-Some.ensures.file ∙ sym (get-both rows others c.args.name.now))

pub returns-clause-gone : goal.returns-clause-gone
returns-clause-gone c =
    let rows = c.self.inside.table.keys in
    let others = c.self.inside.others.entries in
    let keys = rw (c.swap_remove_index-gone.ensures.key ∙ c.in-Some.ensures.there) at c.swap_remove_index-gone.ensures.keys in
    let taken = taken-row rows others c.swap_remove_index-gone.new.self.keys c.in-Some.at c.args.name.now c.in-Some.file c.place_near.ensures.apart
    c.in-Some.ensures.there (sym c.in-Some.ensures.file) keys c.self.invariant.apart in
    rw (← c.self.view_is) taken.0

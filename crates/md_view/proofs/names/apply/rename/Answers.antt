use Rattle.md_name.specs.Names.{unique_of, info_of, is_message_name}
use Rattle.md_jobs.specs.declared.effect.Change.TheVariants.{Rename}
use Rattle.md_view.specs.Held.{held_names}
use Rattle.md_view.proofs.Held.Applying.{there-other, no-parts}
use Rattle.md_view.proofs.Held.Renaming.{unfit-held, unfit-there, unfit-name}
use Rattle.md_view.proofs.names.apply.rename.Goals as goal

pub returns-in_default-clause-ok : goal.returns-in_default-clause-ok
returns-in_default-clause-ok g c =
    let fs = c.args.folders.now.items in
    let n = held_names fs in
    let name = c.args.name.now in
    let to_name = c.args.to_name.now in
    let other = no-parts (is_message_name name) (unique_of name, info_of name) c.in_default.ensures in
    let none = there-other n fs c.requires c.args.folder c.args.place name other in
    unfit-held n fs c.requires (Rename c.args.folder c.args.place name c.args.to_folder c.args.to_place to_name)
    (unfit-there n fs c.requires c.args.folder c.args.place name c.args.to_folder c.args.to_place to_name none)

pub returns-in_default-split-clause-ok : goal.returns-in_default-split-clause-ok
returns-in_default-split-clause-ok g c =
    let fs = c.args.folders.now.items in
    let n = held_names fs in
    let name = c.args.name.now in
    let to_name = c.args.to_name.now in
    let other = no-parts (is_message_name to_name) (unique_of to_name, info_of to_name) c.in_default-split.ensures in
    unfit-held n fs c.requires (Rename c.args.folder c.args.place name c.args.to_folder c.args.to_place to_name)
    (unfit-name n fs c.requires c.args.folder c.args.place name c.args.to_folder c.args.to_place to_name other)

use Rattle.std.proofs.Common.{ℕ, ◌<◌, List, Ok, Err, length, refl, slice_set, sym, subst, ◌∙◌, arith}
use Rattle.std.specs.Option.{option_map}
use Rattle.std.specs.Result.{OnOk}
use Rattle.std.proofs.lemmas.Option.{slice_get_read}
use Rattle.md_jobs.specs.declared.effect.Change.TheVariants.{Rename}
use Rattle.md_view.specs.Named.{after_change}
use Rattle.md_view.specs.Held.{list_of, entry_with, renamed, DiffersIn, AreHeld, held_names}
use Rattle.md_view.proofs.Held.Renaming.{here-held}
use Rattle.md_view.proofs.names.apply.rename_here.Goals as goal

pub returns-clause-ok : goal.returns-clause-ok
returns-clause-ok g c =
    let fs = c.args.folders.now.items in
    let n = held_names fs in
    let name = c.args.name.now in
    let to_name = c.args.to_name.now in
    let f = c.index_mut-lists.result.now in
    let f' = c.rename.new.self in
    let low = c.if-folder-len.false in
    let len = c.len.ensures in
    let within : c.args.folder < length fs = omega (arith, low, len) in
    let at = slice_get_read fs _ c.args.folder f refl within c.index_mut-lists.ensures.value in
    elim c.rename.result
    as (λ r. OnOk r (DiffersIn c.args.place c.args.unique.now (option_map (renamed name to_name) (entry_with c.args.unique.now (list_of c.args.place f))) f f')
    → OnOk r (AreHeld (after_change n (Rename c.args.folder c.args.place name c.args.folder c.args.place to_name)) (slice_set fs c.args.folder f'))) [
      | Ok _ ↦ λ shows.
          here-held n fs c.requires.names c.args.folder c.args.place name to_name c.requires.message
          (c.requires.unique.1 ∙ sym c.requires.unique.0) f f' at within
          (subst (λ (u : List ℕ). DiffersIn c.args.place u (option_map (renamed name to_name) (entry_with u (list_of c.args.place f))) f f')
          (sym c.requires.unique.0) shows)
      | Err _ ↦ λ _. tt
    ] c.rename.ensures.ok

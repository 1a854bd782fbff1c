use Rattle.std.proofs.Common.{rules, List, ◌≡◌, true, false, length, refl, sym, ap, subst, ◌∙◌}
use Rattle.std.proofs.lemmas.Cmp.{nat_list_cmp_total}
use Rattle.std.proofs.lemmas.List.Sorted.{ranks_by, answers_always}
use Rattle.md_dirs.specs.State.{State}
use Rattle.md_dirs.specs.declared.paths.Place.{Place}
use Rattle.md_dirs.specs.declared.paths.Place.TheVariants.{Tmp, New, Cur}
use Rattle.md_core.specs.History.{names_of}
use Rattle.md_core.specs.Mailbox.{mailbox_of, HasOnePath}
use Rattle.md_used.specs.Paths.{is_tmp}
use Rattle.md_core.specs.Runs.{Run, dirs_of}
use Rattle.md_core.specs.Interleaving.{Interleaves}
use Rattle.md_core.specs.Tracing.{trace_of, IsShown}
use Rattle.md_listing.specs.declared.entry.Entry.{Entry}
use Rattle.md_listing.specs.Readings.{reading_of, IsInOrder}
use Rattle.md_listing.proofs.Keyed.{in-order, ordered}
use Rattle.md_listing.proofs.Readings.{reading-sorted}
use Rattle.md_listing.proofs.Ordered.{is_under}
use Rattle.md_listing.proofs.Made.{reading-tmp, reading-in_order, reading-sorted_by}
use Rattle.md_listing.proofs.read.lent_reading.Goals as goal
use Rattle.md_listing.proofs.read.lent_reading.Goals.{then-not-is_in_order, else-not-is_in_order}

one_path : (r : Run) → IsShown r → Interleaves (trace_of r) → HasOnePath (dirs_of r)
one_path r shown all = subst HasOnePath shown.dirs (all.one_path (length r.events))

-- only tmp is tmp
tmp_is : (p : Place) → is_tmp p ≡ true → Tmp ≡ p
tmp_is Tmp is = refl
tmp_is New is = cc
tmp_is Cur is = cc

pub returns-then-is_tmp-clause-entries : goal.returns-then-is_tmp-clause-entries
returns-then-is_tmp-clause-entries g c =
    c.new.ensures.items ∙ reading-tmp (dirs_of c.args.world.now) (c.names_show_their_directories.ensures.shown (dirs_of c.args.world.now)) c.args.folder
    ∙ ap (λ (p : Place). reading_of (names_of (mailbox_of (dirs_of c.args.world.now))) c.args.folder p)
    (tmp_is c.args.place (sym c.is_tmp.ensures ∙ c.if-is_tmp.true))

pub returns-clause-entries : goal.returns-clause-entries
returns-clause-entries g c =
    let s : State = dirs_of c.args.world.now in
    let one : HasOnePath s = one_path c.args.world.now c.interleaves.ensures.shown c.interleaves.ensures.theorem in
    let of_paths = c.names_show_their_directories.ensures.shown s in
    let are_listed = c.names_show_their_directories.ensures.listed s one in
    let not_tmp : is_tmp c.args.place ≡ false = sym c.is_tmp.ensures ∙ c.if-is_tmp.false in
    elim c.if-not-is_in_order.branch [
      | then-not-is_in_order w ↦
          ap (λ v. v.items) w.all-is
          ∙ reading-sorted_by s of_paths are_listed one c.args.folder c.args.place not_tmp c.in_ok-all.all.items w.sort_unstable_by.new.self.items
          c.in_ok-all.ensures.entries w.sort_unstable_by.ensures.permutation
          (w.sort_unstable_by.ensures.sorted is_under (ranks_by nat_list_cmp_total (λ (e : Entry). e.unique))
          (answers_always _ _ _ (λ f a r f' k. search rules)))
      | else-not-is_in_order w ↦
          ap (λ v. v.items) w.all-is
          ∙ reading-in_order s of_paths are_listed one c.args.folder c.args.place not_tmp c.in_ok-all.all.items c.in_ok-all.ensures.entries
          (ordered _ (c.in_ok-all.ensures.order w.if-not-is_in_order.false))
    ]

pub returns-clause-order : goal.returns-clause-order
returns-clause-order g c =
    subst (λ (es : List Entry). IsInOrder es) (sym (returns-clause-entries g c))
    (in-order _ (reading-sorted c.args.folder c.args.place (names_of (mailbox_of (dirs_of c.args.world.now)))))

use Rattle.std.proofs.Common.{◌≡◌, List, length, ap, sym, subst, ◌∙◌}
use Rattle.md_dirs.specs.declared.paths.Place.TheVariants.{New, Cur}
use Rattle.md_core.specs.History.{Names}
use Rattle.md_listing.specs.declared.entry.Entry.{Entry}
use Rattle.md_listing.specs.Readings.{reading_of, join_of, IsInOrder}
use Rattle.md_listing.specs.Law.{names_at, IsGoodListing}
use Rattle.md_listing.proofs.Keyed.{in-order}
use Rattle.md_listing.proofs.LawHolds.{good-run}
use Rattle.md_listing.proofs.Readings.{reading-sorted}
use Rattle.md_listing.proofs.Waiting.{names-now}
use Rattle.md_listing.proofs.listing.BegunListing.finish_lent.Goals as goal

pub of-requires-clause-new : goal.of-requires-clause-new
of-requires-clause-new g c =
    subst (λ (es : List Entry). IsInOrder es) (sym (c.in_ok-new.ensures ∙ c.requires.new))
    (in-order _ (reading-sorted c.args.self.now.folder New (names_at c.args.world.now c.args.self.now.begun)))

pub returns-clause-law : goal.returns-clause-law
returns-clause-law g c =
    let r = c.args.world.now in
    let folder = c.args.self.now.folder in
    let begun = c.args.self.now.begun in
    let new : c.in_ok-new.new.items ≡ reading_of (names_at r begun) folder New =
    c.in_ok-new.ensures ∙ c.requires.new in
    let cur : c.in_ok-cur.cur.items ≡ reading_of (names_at r (length r.events)) folder Cur =
    c.in_ok-cur.ensures.entries ∙ ap (λ (n : Names). reading_of n folder Cur) (names-now r c.interleaves.ensures.shown) in
    subst (IsGoodListing (names_at r) folder begun (length r.events)) (sym (c.of.ensures ∙ (λ i. join_of (new i) (cur i))))
    (good-run c.names_show_their_directories.ensures.shown c.legal_histories_keep_messages_out_of_new.ensures r c.interleaves.ensures.theorem
    folder begun (length r.events) c.requires.past)

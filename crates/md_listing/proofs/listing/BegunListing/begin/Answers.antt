use Rattle.std.proofs.Common.{◌≡◌, ◌∙◌, sym, ap, length, arith}
use Rattle.std.proofs.lemmas.List.{length-map}
use Rattle.md_dirs.specs.declared.paths.Place.TheVariants.{New}
use Rattle.md_core.specs.History.{Names}
use Rattle.md_core.specs.Machine.{Occurrence}
use Rattle.md_listing.specs.Readings.{reading_of}
use Rattle.md_listing.specs.Law.{names_at}
use Rattle.md_listing.proofs.Waiting.{names-now}
use Rattle.md_listing.proofs.listing.BegunListing.begin.Goals as goal

pub returns-clause-begun : goal.returns-clause-begun
returns-clause-begun g c =
    let r = c.args.world.now in
    let steps : length c.log-begun.result.now ≡ length r.events = ap length c.log-begun.ensures ∙ length-map r.events (λ (e : Occurrence). e.event) in
    record {
      past = omega (arith, steps);
      new = c.in_ok-new-2.ensures ∙ c.deref.ensures.value ∙ c.in_ok-new.ensures.entries ∙ ap (λ (n : Names). reading_of n c.args.folder New) (names-now r c.interleaves.ensures.shown)
          ∙ ap (λ k. reading_of (names_at r k) c.args.folder New) (sym steps);
    }

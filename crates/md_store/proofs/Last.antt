-- What is listed at the end of a run.
use Rattle.std.proofs.Common.{◌≡◌, List, sym, ap, ◌∙◌, length, arith}
use Rattle.md_dirs.specs.declared.paths.Place.TheVariants.{New, Cur}
use Rattle.md_jobs.specs.declared.effect.Effect.{Effect}
use Rattle.md_core.specs.History.{Names, names_of, names_after}
use Rattle.md_core.specs.Interleaving.{Interleaves}
use Rattle.md_core.specs.Tracing.{trace_of, IsShown}
use Rattle.md_core.specs.Mailbox.{mailbox_of}
use Rattle.md_core.specs.Runs.{Run, dirs_of, effects_of}
use Rattle.md_view.specs.Named.{Named, named_of}
use Rattle.md_listing.specs.Readings.{reading_of, join_of}
use Rattle.md_store.specs.Listing.{listing, ShowsLast}
use Rattle.md_store.proofs.Beginnings.{all_of_it, no_longer}

-- the effects of a run give the names at its end
last-names : (r : Run) → IsShown r → Interleaves (trace_of r) → names_after (names_of (mailbox_of r.image)) (effects_of r) ≡ names_of (mailbox_of (dirs_of r))
last-names r shown theorem = (λ i. names_after (names_of (mailbox_of r.image)) (sym shown.effects i)) ∙ theorem.names (length r.events)
    ∙ (λ i. names_of (mailbox_of (shown.dirs i)))

pub shows_last : (opening : Named) (held : List Effect) (r : Run) → named_of r.image ≡ opening → IsShown r → Interleaves (trace_of r) → held ≡ effects_of r → ShowsLast opening held r
shows_last opening held r image shown theorem all = record {
  shows = λ folder before entries lists many.
      let first : lists.h1 ≡ held = all_of_it lists.h1 held lists.h1_begins (omega (arith, many, no_longer before lists.h1 lists.held_begins)) in
      let names : names_after opening.names held ≡ names_of (mailbox_of (dirs_of r)) =
      (λ i. names_after (sym image i).names (all i)) ∙ last-names r shown theorem in
      lists.entries_are
      ∙ ap (λ h1. listing folder opening h1 held) first
      ∙ ap (λ (n : Names). join_of (reading_of n folder New) (reading_of n folder Cur)) names;
}

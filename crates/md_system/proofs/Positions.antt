-- What is told of a name by its position.
use Rattle.std.proofs.Common.{ℕ, ◌≡◌, ◌∙◌, List, Some, slice_get, true, sym, ap}
use Rattle.std.proofs.lemmas.Option.{same_Some, slice_get_within, get_or_from_slice_get}
use Rattle.md_name.specs.Names.{unique_of}
use Rattle.md_dirs.specs.declared.paths.Place.{Place}
use Rattle.md_system.specs.declared.found.Found.TheVariants.{One}
use Rattle.md_system.specs.declared.read_ahead.ReadAhead.{ReadAhead}
use Rattle.md_system.specs.Hints.{Showed, names_ahead}
use Rattle.md_system.specs.Shown.{HasAt}

-- the name that is taken of a message's position is the message's
pub one_shown : (ahead : ReadAhead) (place : Place) (u : List ℕ) (at : ℕ) (name : List ℕ) → ahead.counts ≡ true
    → HasAt (names_ahead ahead place) u at → slice_get (names_ahead ahead place) at ≡ Some name → Showed ahead place u (One name)
one_shown ahead place u at name counts has is =
    let names = names_ahead ahead place in
    record {
      counts = counts;
      shown = (
        (at, slice_get_within names at name is, get_or_from_slice_get names at name name is),
        ap unique_of (same_Some name has.name (sym is ∙ has.is)) ∙ has.named,
      );
    }

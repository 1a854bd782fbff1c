use Rattle.std.proofs.Common.{subst, IfOk, option_map}
use Rattle.left_right.specs.Sides.{view}
use Rattle.md_store.specs.Listing.{IsLooked}
use Rattle.md_store.specs.Pages.{Page}
use Rattle.md_store.proofs.Keeps.{enters}
use Rattle.md_store.proofs.Looking.{all-looks}
use Rattle.md_store.proofs.pass.entered.Goals as goal

pub enter_as-requires : goal.enter_as-requires
enter_as-requires c = enters _ _

pub returns-in-Ok-clause-entries : goal.returns-in-Ok-clause-entries
returns-in-Ok-clause-entries c =
    let new = option_map (λ entries. entries.now) c.args.x.2 in
    all-looks (view c.args.reader.place)
    (view c.in-Ok.reading.place) c.in-Ok.reading.part.value c.in-Ok.ensures.1 c.requires.seat.0 c.args.x.3.now.log c.args.x.1 new
    (λ r. r.0.items) (λ r. r.1) c.look-looked.result
    (subst (λ (p : Page). IfOk c.look-looked.result (λ r. IsLooked p c.args.x.3.now.log c.args.x.1 new r.0.items r.1)) c.get.ensures c.look-looked.ensures.ok)

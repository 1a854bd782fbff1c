use Rattle.md_core.specs.History.{names_after, WasNowhere}
use Rattle.md_view.proofs.Held.Fitting.{allowed-fits, nowhere}
use Rattle.md_view.proofs.laws.what_is_allowed_fits.Goals as goal

pub returns : goal.returns
returns c opening history next are allowed =
    allowed-fits (record opening { names = names_after opening.names history }) are (WasNowhere opening.names history) (nowhere opening.names history)
    next.answer next.change allowed

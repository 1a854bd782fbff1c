use Rattle.md_view.specs.Named.{named_of}
use Rattle.examples.proofs.server.round.Given as goal

-- the store that was just prepared
abbrev pub ghosts-round_in : goal.ghosts-round_in
ghosts-round_in g a = record { begun = a.prepared.run; opening = named_of a.prepared.run.image; book = a.prepared.book }

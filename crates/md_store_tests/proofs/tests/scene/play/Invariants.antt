use Rattle.md_view.specs.Named.{named_of}
use Rattle.md_store_tests.proofs.tests.scene.play.Given as goal

-- the store that was just prepared
abbrev pub ghosts-play_in : goal.ghosts-play_in
ghosts-play_in g a = record { begun = a.prepared.run; opening = named_of a.prepared.run.image; book = a.prepared.book }

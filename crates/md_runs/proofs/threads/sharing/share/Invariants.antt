use Rattle.md_view.specs.Named.{named_of}
use Rattle.md_runs.proofs.threads.sharing.share.Given as goal

-- the store that was just prepared
abbrev pub ghosts-share_opened : goal.ghosts-share_opened
ghosts-share_opened g a = record { begun = a.prepared.run; opening = named_of a.prepared.run.image; book = a.prepared.book }

use Rattle.std.proofs.Common.{ℕ, ap}
use Rattle.md_watch.proofs.Beginning.{put-folder}
use Rattle.md_watch.proofs.watch.Watch.put_folder.Goals as goal

pub returns : goal.returns
returns c = λ m holds.
    let w = c.args.self.now in
    put-folder m w (record w { folders = c.in-Some.folders }) holds (ap (λ (n : ℕ). record w { folders = n }) c.in-Some.ensures.1)

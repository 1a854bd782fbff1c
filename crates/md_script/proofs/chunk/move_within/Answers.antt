use Rattle.std.proofs.Common.{◌∙◌, ◌-◌, take, ap}
use Rattle.md_script.proofs.Chunks.{moved_front}
use Rattle.md_script.proofs.chunk.move_within.Goals as goal

pub returns : goal.returns
returns c = record {
  moved = ap (λ xs. take (c.args.end - c.args.start) xs) c.copy_within.ensures.after
      ∙ moved_front c.args.room.now c.args.start c.args.end c.requires.ordered c.requires.there;
}

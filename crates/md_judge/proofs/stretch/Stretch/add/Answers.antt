use Rattle.std.proofs.Common.{refl}
use Rattle.md_judge.proofs.stretch.Stretch.add.Goals as goal

pub returns : goal.returns
returns c = record {
  waiting = c.in_ok-waiting.waiting;
  same = c.in_ok-waiting.ensures;
  steps = c.in_ok-push.ensures.items;
  lines = c.in_ok-push-2.ensures.items;
  moved = refl;
}

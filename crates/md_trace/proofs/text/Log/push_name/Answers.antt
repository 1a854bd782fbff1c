use Rattle.md_trace.proofs.Grown.{also_byte}
use Rattle.md_trace.proofs.text.Log.push_name.Goals as goal

pub loop-byte-preserved : goal.loop-byte-preserved
loop-byte-preserved c = also_byte c.args.name.now c.loop-byte.byte-index _ c.loop-byte-test.true c.loop-byte.invariant c.push_byte.ensures

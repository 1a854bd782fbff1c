use Rattle.std.proofs.Common.{◌≡◌, arith, ◌<◌, ◌-◌, ◌+◌, ◌*◌, ◌^◌, get_or, add-one}
use Rattle.std.proofs.Math.Facts.{Fits-of_lt}
use Rattle.md_dirs.proofs.Keys.{are-bytes, rest-step, rest-done, key-grows, key-fits}
use Rattle.md_dirs.proofs.index.key.short_key.Goals as goal
use Rattle.md_dirs.proofs.index.key.short_key.Goals.{After-byte_at-byte}

fits : (c : After-byte_at-byte) → c.loop-at.key * 256 + c.byte_at-byte.result < 2 ^ 128
fits c = key-fits c.loop-at.key c.byte_at-byte.result c.loop-at.at c.loop-at-test.true c.byte_at-byte.type_inv c.loop-at.invariant.small

pub overflow_mul-key : goal.overflow_mul-key
overflow_mul-key c = let h = fits c in Fits-of_lt (omega (arith, h))

pub overflow_add-key : goal.overflow_add-key
overflow_add-key c = Fits-of_lt (fits c)

pub loop-at-preserved : goal.loop-at-preserved
loop-at-preserved c =
    let name = c.args.name.now in
    let byte : c.byte_at-byte.result ≡ get_or name c.loop-at.at 0 = c.byte_at-byte.ensures in
    record {
      within = omega arith;
      small = key-grows c.loop-at.key c.byte_at-byte.result c.loop-at.at (c.loop-at.at + 1) (add-one _) c.byte_at-byte.type_inv c.loop-at.invariant.small;
      rest = rest-step c.loop-at.key c.byte_at-byte.result (16 - c.loop-at.at) (16 - (c.loop-at.at + 1)) c.loop-at.at (c.loop-at.at + 1) _ name
          (omega arith) (add-one _) byte c.loop-at.invariant.rest;
    }

pub returns : goal.returns
returns c = record {
  key = rest-done c.loop-at.key c.loop-at.at _ c.args.name.now (omega (arith, c.loop-at.invariant.within, c.loop-at-test.false)) c.loop-at.invariant.rest;
  bytes = are-bytes c.args.name.now c.type_inv.name;
}

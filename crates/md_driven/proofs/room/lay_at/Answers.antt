use Rattle.std.proofs.Common.{arith, ◌≡◌, ◌+◌, ◌-◌, length, ap, ◌∙◌}
use Rattle.std.proofs.lemmas.Slice.{drop-put_mid}
use Rattle.md_driven.proofs.room.lay_at.Goals as goal

-- src/room.rt:22:1
pub returns-clause-rest : goal.returns-clause-rest
returns-clause-rest c =
    let at = c.args.at in
    let long = length c.args.bytes.now in
    let many : at + long - at ≡ long = omega arith in
    let laid : length c.copy_from_slice.new.self ≡ at + long - at = ap length c.copy_from_slice.ensures.after ∙ (omega arith) in
    drop-put_mid at (at + long - at) c.args.out.now c.copy_from_slice.new.self (at + long) (omega arith) (omega (arith, c.requires)) laid

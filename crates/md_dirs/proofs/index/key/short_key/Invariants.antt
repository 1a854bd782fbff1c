use Rattle.std.proofs.Common.{◌≡◌, ◌+◌, ◌-◌, ◌*◌, ◌^◌, ◌<◌, ◌≤◌, drop}
use Rattle.md_dirs.specs.Keys.{key_from}
use Rattle.md_dirs.proofs.index.key.short_key.Given as goal

abbrev pub invariant-loop-at : goal.invariant-loop-at
invariant-loop-at l = record {
  within : l.at ≤ 16;
  small : l.key < 256 ^ l.at;
  rest : l.key * 256 ^ (16 - l.at) + key_from (16 - l.at) (drop l.at l.name) ≡ key_from 16 l.name;
}

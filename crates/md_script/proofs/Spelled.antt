-- The spelling of no flags.
use Rattle.std.proofs.Common.{◌≡◌, []}
use Rattle.std.specs.Ordering.{nat_cmp}
use Rattle.std.specs.FinSet as set
use Rattle.md_name.specs.Letters.{letters, spelling}

pub spelled_none : spelling set.empty ≡ []
unfolding spelling letters
spelled_none = simp (set.contains-empty nat_cmp)

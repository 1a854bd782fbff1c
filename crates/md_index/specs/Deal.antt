-- How the numbers of the messages are dealt out by a deque.
use Rattle.std.specs.Prelude.{◌≡◌, ℕ, ◌<◌, List, ◌++◌, length, IsPermutation}
use Rattle.std.specs.List.{flat_map, range_with_len}
use mathlib.Core.Option.{some}
use lib.ListN.{get_elem?}
use Rattle.md_index.specs.declared.deal.Hand.{Hand}

-- what one worker pushed and took
abbrev pub hand : ℕ → List ℕ → Hand
hand pushed taken = record { pushed = pushed; taken = taken }

-- all numbers that were taken, hand by hand
abbrev pub taken_by : List Hand → List ℕ
taken_by hands = flat_map (λ h. h.taken) hands

-- The numbers in all hands and those that are left are, in some order, the numbers that were pushed: 0, 1, 2 and so on, each once.
-- The first hand is the owner's, which pushes them.
pub record IsDealt (left : List ℕ) (hands : List Hand) : Type 0 where
  pub pushed : ℕ
  pub each_once : IsPermutation (taken_by hands ++ left) (range_with_len 0 pushed)
  pub owner : (first : Hand) → get_elem? hands 0 ≡ some first → first.pushed ≡ pushed
  pub some_hand : 0 < length hands

-- A look at the rows of a directory as they lie.
use Rattle.std.proofs.Common.{ℕ, ◌≡◌, ◌+◌, ◌≤◌, List, Some, None, ◌||◌, max, length, slice_get}
use Rattle.std.specs.List.Sorted.{IsPermutation}
use Rattle.md_core.proofs.Values.{State, Place, Row, path_of, place_index, rows_of, is_among, Seen, IsLookOf, fault_after, is_message_of, is_tmp_of, entries_before}
use Rattle.md_core.proofs.Worlds.Loading.Lying.{IsThrough, Behind, behind-none, behind-row, behind-all}
use Rattle.md_core.proofs.Worlds.Loading.Permuted.{look-moved}
use Rattle.md_core.proofs.Worlds.Loading.Rows.{look-row}

module _ (s : State) (f : ℕ) (p : Place) (rows : List Row) where
  -- What was seen of the entries before a directory, and of its first rows as they lie.
  abbrev pub IsLookThrough : ℕ → Seen → Type 0
  IsLookThrough at seen = IsThrough s f p (Behind s f p (λ es. IsLookOf s es seen)) rows at

  pub through-none : (seen : Seen) → IsPermutation (rows_of s f p) rows → IsLookOf s (entries_before s f (place_index p)) seen → IsLookThrough 0 seen
  through-none seen = behind-none s f p rows (λ es. IsLookOf s es seen)

  module _ (at : ℕ) (seen : Seen) (through : IsLookThrough at seen) where
    -- one more row, which has no fault
    pub through-row : (r : Row) → slice_get rows at ≡ Some r → (seen' : Seen) → fault_after seen.messages (path_of 0 p r.name) ≡ None
        → ((u : List ℕ) → is_among u seen'.messages ≡ (is_message_of u (path_of 0 p r.name) || is_among u seen.messages)) →
        ((u : List ℕ) → is_among u seen'.tmp ≡ (is_tmp_of u (path_of 0 p r.name) || is_among u seen.tmp))
        → seen'.clock ≡ max seen.clock r.stamp → IsLookThrough (at + 1) seen'
    through-row r is seen' fault messages tmp clock =
        behind-row s f p rows (λ es. IsLookOf s es seen) at through (λ es. IsLookOf s es seen') r is
        (λ es e path stamp look. look-row s f p es seen look e r path stamp seen' fault messages tmp clock)

    -- behind the last row all entries of the directory were seen
    pub through-all : length rows ≤ at → IsLookOf s (entries_before s f (place_index p + 1)) seen
    through-all end = behind-all s f p rows (λ es. IsLookOf s es seen) at through end (λ es fs. look-moved s es fs seen)

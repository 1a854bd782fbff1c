-- The rows of a directory's table, which are told apart by the unique parts of their names.
use Rattle.std.specs.Prelude.{ℕ, ◌≡◌, ◌⊎◌, List, [], Bool, None, IsSome, length}
use Rattle.std.specs.Cmp.{IsEquivalence}
use Rattle.std.specs.Cmp.Lexicographic.{nat_list_eq_equiv}
use Rattle.std.specs.Str.{bytes_eq}
use Rattle.md_name.specs.Names.{unique_of}
use Rattle.std.specs.FinMap as finmap
use Rattle.md_dirs.specs.Index.{name_cmp, get_name, IsOrderOf}
use Rattle.md_dirs.specs.Plain.{IsGap}

-- a name and the number of its file
abbrev pub Row : Type 0
Row = List ℕ × ℕ

-- two rows whose names have the same unique part
abbrev pub is_alike : Row → Row → Bool
is_alike x y = bytes_eq (unique_of x.0) (unique_of y.0)

-- that is an equivalence, as a table asks for
pub alike_equiv : IsEquivalence is_alike
alike_equiv = record {
  refl = λ x. nat_list_eq_equiv.refl (unique_of x.0);
  symm = λ x y. nat_list_eq_equiv.symm (unique_of x.0) (unique_of y.0);
  congr = λ x y z. nat_list_eq_equiv.congr (unique_of x.0) (unique_of y.0) (unique_of z.0);
}

-- The names of a directory: the rows of its table, no two alike, and beside it those names whose unique part a row of the table had when
-- they came. The order of the table's rows is made, or it is still to be made.
pub record AreNames (rows others : List Row) (order : List ℕ) : Type 0 where
  pub apart : (name : List ℕ) → IsSome (get_name others name) → get_name rows name ≡ None
  pub ordered : (order ≡ []) ⊎ IsOrderOf rows order

-- a name goes behind all rows of a table whose order is made
pub record GoesLast (rows : List Row) (order : List ℕ) (name : List ℕ) : Type 0 where
  pub ordered : IsOrderOf rows order
  pub gap : IsGap name_cmp (finmap.entries {R = name_cmp} (finmap.from_entries rows)) name (length order)

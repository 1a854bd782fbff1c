-- The instant that a date gives.
use Rattle.std.specs.Prelude.{ℕ, ℤ, pos, List, Option, Some, None, Result, Ok, Err, cond, false}
use Rattle.std.specs.Option.{option_and_then}
use Rattle.std.specs.Str.{is_utf8}
use Rattle.std.specs.Int.{int_div_euclid}
use Rattle.jiff_fmt.specs.Rfc2822.{timestamp}
use Rattle.jiff_core.specs.declared.error.Error.{Error}

-- the whole seconds of an instant in nanoseconds, rounded down
abbrev pub whole_seconds : Result ℤ Error → Option ℤ
whole_seconds (Ok nanoseconds) = Some (int_div_euclid nanoseconds (pos 1000000000))
whole_seconds (Err e) = None

-- The seconds since 1970 of a text that jiff's strict reader of RFC 2822 dates takes; none for one that it refuses, and for
-- bytes that are no UTF-8.
abbrev pub seconds_of_date : List ℕ → Option ℤ
seconds_of_date text = cond (is_utf8 text) (whole_seconds (timestamp false text)) None

-- the seconds of a date, if there is one
abbrev pub seconds_of : Option (List ℕ) → Option ℤ
seconds_of date = option_and_then seconds_of_date date

-- The instant of a date: what the reader gives for it, in whole seconds.
use Rattle.std.proofs.Common.{◌≡◌, ◌∙◌, ap, sym, true, false, cond, List, ℕ, Some, None, Result, Ok, Err}
use Rattle.std.specs.Prelude.{ℤ, pos}
use Rattle.std.specs.Int.{int_div_euclid}
use Rattle.std.specs.Result.{result_ok}
use Rattle.std.specs.Str.{is_utf8}
use Rattle.jiff_core.specs.declared.timestamp.Timestamp.{Timestamp}
use Rattle.jiff_core.specs.declared.error.Error.{Error}
use Rattle.jiff_fmt.specs.Rfc2822.{timestamp}
use Rattle.md_head.specs.Dates.{seconds_of_date, whole_seconds}

pub no_text : (text : List ℕ) → is_utf8 text ≡ false → None ≡ seconds_of_date text
no_text text other = sym (ap (λ u. cond u (whole_seconds (timestamp false text)) None) other)

pub read : (text : List ℕ) (nanos z : ℤ) → is_utf8 text ≡ true → Ok nanos ≡ timestamp false text → z ≡ int_div_euclid nanos (pos 1000000000)
    → Some z ≡ seconds_of_date text
read text nanos z utf8 told is =
    ap Some is ∙ ap whole_seconds told ∙ sym (ap (λ u. cond u (whole_seconds (timestamp false text)) None) utf8)

some_is : {A : Type 0} {x y : A} → Some x ≡ Some y → x ≡ y
some_is e = cc

-- what stands in a result that has a value
pub given : (r : Result Timestamp Error) (instant : Timestamp) → result_ok r ≡ Some instant → r ≡ Ok instant
given (Ok found) instant is = ap Ok (some_is is)
given (Err e) instant is = cc

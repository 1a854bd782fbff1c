use Rattle.std.proofs.Common.{◌≡◌, ap, sym, ◌∙◌, FitsSigned, w64, arith}
use Rattle.std.proofs.lemmas.Int.{to_z-of_z, ints}
use Rattle.std.proofs.lemmas.Str.{is_utf8-from_IsUtf8, IsUtf8-from_is_utf8}
use Rattle.std.proofs.lemmas.Bool.{false_from_ne_true}
use Rattle.jiff_fmt.specs.Rfc2822.{timestamp}
use Rattle.jiff_fmt.specs.Temporal.{timestamp_view}
use Rattle.md_head.proofs.Instants.{no_text, read, given}
use Rattle.md_head.proofs.date.seconds_of.Goals as goal

pub returns-in_default : goal.returns-in_default
returns-in_default c = no_text c.args.date.now (false_from_ne_true _ (λ yes. c.in_default.ensures.cases.0 (IsUtf8-from_is_utf8 c.args.date.now yes)))

pub returns : goal.returns
returns c =
    let fits : FitsSigned w64 c.floor_second.result = omega (arith, ints) in
    let same : c.as_bytes.result.now ≡ c.args.date.now = c.as_bytes.ensures.value ∙ c.in-Ok.ensures.cases.0 in
    rw (to_z-of_z w64 c.floor_second.result fits)
    (read c.args.date.now c.in_ok-instant.instant.nanosecond c.floor_second.result (is_utf8-from_IsUtf8 c.args.date.now c.in-Ok.ensures.cases.1)
    (sym (ap timestamp_view (given c.parse_timestamp.result c.in_ok-instant.instant (sym c.ok.ensures.value ∙ c.in_ok-instant.was)))
    ∙ c.parse_timestamp.ensures ∙ ap (λ r. timestamp r c.as_bytes.result.now) c.new.ensures ∙ ap (timestamp _) same)
    c.floor_second.ensures)

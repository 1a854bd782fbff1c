use Rattle.std.proofs.Common.{◌≡◌, ◌==◌, ℕ, Bool, true, false, Some, None, Vec, Global, length, sym, subst, ap, refl, ◌∙◌}
use Rattle.std.specs.Prelude.{option_map, if◌then◌else◌}
use Rattle.std.specs.Bool.{then_some}
use Rattle.md_command.specs.Escapes.{ReadsBack}
use Rattle.md_command.specs.Unescaping.{onto, unescaped}
use Rattle.md_command.proofs.Unescaping.{onto_nothing, goes_on, ends, read_back}
use Rattle.md_command.proofs.escape.unescaped.Goals as goal

pub loop-byte-init : goal.loop-byte-init
loop-byte-init c =
    let shown = unescaped c.args.column.now in
    ap (λ bytes. onto bytes shown) c.in_ok-bytes.ensures.items ∙ onto_nothing shown

pub loop-byte-preserved : goal.loop-byte-preserved
loop-byte-preserved c =
    let more = c.in-Some.more.now in
    ap (λ bytes. onto bytes (unescaped more)) c.in_ok-push.ensures.items
    ∙ goes_on _ _ _ c.loop-byte.invariant c.in-Some.byte more (sym c.in-Some.ensures.value)

items_if : (whole : Bool) (bytes : Vec ℕ Global)
    → option_map (λ (bytes : Vec ℕ Global). bytes.items) (then_some whole bytes) ≡ (if whole then Some bytes.items else None)
items_if true bytes = refl
items_if false bytes = refl

pub returns : goal.returns
returns c =
    let bytes = c.loop-byte.bytes in
    let read : c.then_some.result ≡ then_some (length c.loop-byte.rest.now == 0) bytes =
    c.then_some.ensures ∙ ap (λ whole. then_some whole bytes) c.is_empty.ensures in
    let value : option_map (λ (bytes : Vec ℕ Global). bytes.items) c.then_some.result ≡ unescaped c.args.column.now =
    ap (option_map (λ (bytes : Vec ℕ Global). bytes.items)) read ∙ items_if (length c.loop-byte.rest.now == 0) bytes
    ∙ sym (ends _ _ _ c.loop-byte.invariant (sym c.in_default.ensures.value)) in
    record { value = value; back = subst (ReadsBack c.args.column.now) (sym value) (read_back c.args.column.now) }

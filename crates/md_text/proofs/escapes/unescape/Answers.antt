use Rattle.std.proofs.Common.{subst, ◌≡◌, ◌+◌, ◌-◌, ◌<◌, ◌++◌, ◌∷◌, [], ◌∙◌, Some, length, take, drop, ap, sym, arith, length-take-le, length-drop}
use Rattle.std.proofs.lemmas.List.{take_rest}
use Rattle.memchr.specs.Find.{IsFirstByte, is_byte}
use Rattle.md_text.specs.Escapes.{onto, unescaped}
use Rattle.md_text.proofs.Escaping.{reads_on, ends_early, refused_at, taken}
use Rattle.md_text.proofs.escapes.unescape.Goals as goal

pub returns-then-left-at-lt2 : goal.returns-then-left-at-lt2
returns-then-left-at-lt2 c =
    let found = subst (IsFirstByte (is_byte 92) c.loop-next.left.now) c.in-Some.is c.loop-next.invariant.2 in
    sym (ends_early _ _ _ _ c.loop-next.invariant.0 _ found (omega (arith, c.if-left-at-lt2.true, found.0.high)))

pub returns-in_default-meant_by : goal.returns-in_default-meant_by
returns-in_default-meant_by c =
    let found = subst (IsFirstByte (is_byte 92) c.loop-next.left.now) c.in-Some.is c.loop-next.invariant.2 in
    sym (refused_at _ _ _ _ c.loop-next.invariant.0 _ found (omega (arith, c.if-left-at-lt2.false)) (sym c.in_default-meant_by.ensures))

pub loop-next-preserved : goal.loop-next-preserved
loop-next-preserved c =
    let left = c.loop-next.left.now in
    let at = c.in-Some.at in
    let b = c.in-Some-meant_by.byte in
    let found = subst (IsFirstByte (is_byte 92) left) c.in-Some.is c.loop-next.invariant.2 in
    let items : c.push_reserved.new.self.items ≡ (c.loop-next.bytes.items ++ take at left) ++ b ∷ [] =
    c.push_reserved.ensures.items ∙ ap (λ xs. xs ++ b ∷ []) c.in_ok-extend_from_slice.ensures.items in
    let more : at + 1 < length left = omega (arith, c.if-left-at-lt2.false) in
    let front : length (take at left) ≡ at = length-take-le at left (omega (arith, more)) in
    let rest : length (take (length left - (at + 2)) (drop (at + 2) left)) ≡ length left - (at + 2) =
    ap length (take_rest left (at + 2)) ∙ length-drop (at + 2) left in (
      ap (λ xs. onto xs (unescaped c.args.spaces (take (length left - (at + 2)) (drop (at + 2) left)))) items
          ∙ taken _ _ _ _ c.loop-next.invariant.0 _ found more b (sym c.in-Some-meant_by.ensures),
      omega (
        arith,
        front,
        rest,
        more,
        c.loop-next.invariant.1,
        c.in_ok-extend_from_slice.ensures.len,
        c.in_ok-extend_from_slice.ensures.capacity,
        c.push_reserved.ensures.len,
        c.push_reserved.ensures.capacity,
      ),
      c.first-next.ensures,
    )

pub returns : goal.returns
returns c = sym (reads_on _ _ _ _ c.loop-next.invariant.0 (subst (IsFirstByte (is_byte 92) c.loop-next.left.now) c.in_default.is c.loop-next.invariant.2) ∙ ap Some (sym c.in_ok-extend_from_slice-2.ensures.items))

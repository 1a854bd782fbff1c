use Rattle.std.proofs.Common.{◌≡◌, ◌∙◌, ◌+◌, ◌∷◌, [], suc, ap, sym, refl, slice_index_or, take, take-suc}
use native.Mathlib.Omega.{arith}
use Rattle.std.specs.List.{fold}
use Rattle.std.proofs.lemmas.List.Sums.{fold-append}
use Rattle.md_dirs.specs.Hashing.{short_word, with_byte}
use Rattle.md_dirs.proofs.hashing.short_word.Goals as goal

pub loop-byte-init : goal.loop-byte-init
unfolding short_word
loop-byte-init c = refl

pub loop-byte-preserved : goal.loop-byte-preserved
unfolding short_word
loop-byte-preserved c =
    let bytes = c.args.bytes.now in
    let at = c.loop-byte.byte-index in
    let byte = slice_index_or bytes at 0 in
    let next : at + 1 ≡ suc at = omega arith in
    ap (λ word. with_byte word byte) c.loop-byte.invariant
    ∙ sym (ap (λ k. fold with_byte 0 (take k bytes)) next
    ∙ ap (fold with_byte 0) (take-suc bytes at 0 c.loop-byte-test.true)
    ∙ fold-append with_byte 0 (take at bytes) (byte ∷ []))

use Rattle.std.proofs.Common.{refl}
use Rattle.std.proofs.lemmas.Simd.{zip2_splat}
use Rattle.memchr.specs.Find.{is_byte}
use Rattle.md_name.proofs.Marks.{masked}
use Rattle.md_text.proofs.escapes.BackslashWanted.marks.Goals as goal

pub returns : goal.returns
returns c = let v = c.args.block in masked _ (is_byte 92) refl v _ c.fits-block (zip2_splat _ v 16 92 c.fits-block.0)

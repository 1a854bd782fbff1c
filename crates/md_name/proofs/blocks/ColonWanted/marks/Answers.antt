use Rattle.std.proofs.Common.{refl}
use Rattle.std.proofs.lemmas.Simd.{zip2_splat}
use Rattle.md_name.specs.Names.{is_colon}
use Rattle.md_name.proofs.Marks.{masked}
use Rattle.md_name.proofs.blocks.ColonWanted.marks.Goals as goal

pub returns : goal.returns
returns c = let v = c.args.block in masked _ is_colon refl v _ c.fits-block (zip2_splat _ v 16 58 c.fits-block.0)

use Rattle.std.proofs.Common.{◌||◌, refl}
use Rattle.std.proofs.lemmas.Simd.{zip2_splat, zip2_of_maps}
use Rattle.md_name.specs.Names.{is_slash, is_terminator}
use Rattle.md_name.proofs.Marks.{masked}
use Rattle.md_name.proofs.blocks.SeparatorWanted.marks.Goals as goal

pub returns : goal.returns
returns c =
    let v = c.args.block in
    let long = c.fits-block.0 in
    let paths = zip2_of_maps _ _ _ v (zip2_splat _ v 16 47 long) (zip2_splat _ v 16 0 long) in
    let lines = zip2_of_maps _ _ _ v paths (zip2_splat _ v 16 10 long) in
    masked _ (λ b. is_slash b || is_terminator b) refl v _ c.fits-block (zip2_of_maps _ _ _ v lines (zip2_splat _ v 16 13 long))

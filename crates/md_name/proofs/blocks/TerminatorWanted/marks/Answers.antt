use Rattle.std.proofs.Common.{refl}
use Rattle.std.proofs.lemmas.Simd.{zip2_splat, zip2_of_maps}
use Rattle.md_name.specs.Names.{is_terminator}
use Rattle.md_name.proofs.Marks.{masked}
use Rattle.md_name.proofs.blocks.TerminatorWanted.marks.Goals as goal

pub returns : goal.returns
returns c =
    let v = c.args.block in
    let long = c.fits-block.0 in
    masked _ is_terminator refl v _ c.fits-block
    (zip2_of_maps _ _ _ v (zip2_of_maps _ _ _ v (zip2_splat _ v 16 0 long) (zip2_splat _ v 16 10 long)) (zip2_splat _ v 16 13 long))

use Rattle.std.proofs.Common.{◌≡◌, None}
use Rattle.md_dirs.specs.Image.{image_state, image_refusal}
use Rattle.md_dirs.proofs.index.IndexDirs.from_image_with_seed.Given as goal

abbrev pub invariant-loop-file : goal.invariant-loop-file
invariant-loop-file l =
    record { made : l.dirs.state ≡ image_state l.folders l.yielded; calls : l.dirs.calls ≡ 0; accepted : image_refusal l.folders l.yielded ≡ None }

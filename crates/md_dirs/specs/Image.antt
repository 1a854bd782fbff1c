-- The directories that a list of files is, the files made in their order.
use Rattle.std.specs.Prelude.{ℕ, List, [], ◌∷◌, Option, None, fold}
use Rattle.std.specs.Option.{option_or}
use Rattle.md_dirs.specs.State.{State, bare}
use Rattle.md_dirs.specs.Calls.{Ask, create_as}
use Rattle.md_dirs.specs.declared.image.ImageFile.{ImageFile}
use Rattle.md_dirs.specs.declared.calls.DirError.{DirError}

-- A file is made with its bytes and its stamp, and refused where create would be refused. Its number is its place in the list.
abbrev pub put : ImageFile → Ask
put file = create_as file.path (record { bytes = file.bytes; stamp = file.stamp })

-- the state with the files, made in their order
abbrev pub state_with : State → List ImageFile → State
state_with s files = fold (λ t file. (put file).after t) s files

-- the refusal of the first file that is refused, where those before it are made
abbrev pub refusal_with : State → List ImageFile → Option DirError
refusal_with s [] = None
refusal_with s (file ∷ files) = option_or ((put file).refusal s) (refusal_with ((put file).after s) files)

-- the directories that the files are
abbrev pub image_state : ℕ → List ImageFile → State
image_state folders files = state_with (bare folders) files

-- NotFound or Exists, at the first file whose folder isn't there or whose path was met before
abbrev pub image_refusal : ℕ → List ImageFile → Option DirError
image_refusal folders files = refusal_with (bare folders) files

-- The laws of the calls.
use Rattle.std.proofs.Common.{ℕ, ◌≡◌, ◌++◌, List, [], ◌∷◌, Option, Some, None, Bool, true, false, cond, is_some, refl, sym, ap, subst, ◌∙◌, length, slice_set, ◌<◌, nat_lt, arith}
use Rattle.std.proofs.lemmas.Bool.Decides.{nat_tests}
use Rattle.md_dirs.specs.State.{State, IsSound, file_at, has_folder}
use Rattle.md_dirs.specs.Calls.{create, append, link, rename, with_path, create_as, after_create, after_append, file_with_more, empty_file}
use Rattle.md_dirs.specs.Image.{put, state_with, refusal_with}
use Rattle.md_dirs.specs.Laws.{KeepsSound}
use Rattle.md_dirs.specs.declared.paths.Path.{Path}
use Rattle.md_dirs.specs.declared.paths.File.{File}
use Rattle.md_dirs.specs.declared.image.ImageFile.{ImageFile}
use Rattle.md_dirs.specs.declared.calls.DirError.{DirError}
use Rattle.md_dirs.specs.declared.calls.DirError.TheVariants.{Exists, NotFound}
use Rattle.md_dirs.proofs.PathOrder.{path_total, path_exact}
use Rattle.lists.proofs.Maps as maps
use Rattle.md_dirs.proofs.Sound.{sound-placed, sound-named, sound-moved, file_by-last}
use Rattle.lists.proofs.Options.{neither}

free-of : (b : Bool) (o : Option ℕ) → cond b (cond (is_some o) (Some Exists) None) (Some NotFound) ≡ None → o ≡ None
free-of true None is = refl
free-of true (Some n) is = cc
free-of false o is = cc

within-of : (a b : ℕ) (other : Option DirError) → cond (nat_lt a b) other (Some NotFound) ≡ None → a < b
within-of a b other is = by (nat_lt a b) refl is
  where
    by : (t : Bool) → nat_lt a b ≡ t → cond t other (Some NotFound) ≡ None → a < b
    by true below h = grind (arith, nat_tests)
    by false below h = cc

there-of : (o : Option ℕ) (other : Option DirError) → cond (is_some o) other (Some NotFound) ≡ None → (n : ℕ) × (o ≡ Some n)
there-of None other is = cc
there-of (Some n) other is = (n, refl)

rest-of : (o : Option ℕ) (other : Option DirError) → cond (is_some o) other (Some NotFound) ≡ None → other ≡ None
rest-of None other is = cc
rest-of (Some n) other is = is

pub make-sound : (p : Path) (file : File) → KeepsSound (create_as p file)
make-sound p file s sound accepted = sound-placed s sound p file (within-of p.folder s.folders _ accepted) (free-of (has_folder s p) (file_at s p) accepted)

pub link-sound : (o n : Path) → KeepsSound (link o n)
link-sound o n s sound accepted =
    let old = there-of (file_at s o) _ accepted in
    let rest = rest-of (file_at s o) _ accepted in
    let free = free-of (has_folder s n) (file_at s n) rest in
    subst (λ (x : Option ℕ). IsSound (with_path n s x)) (sym old.1) (sound-named s sound n o old.0 (within-of n.folder s.folders _ rest) free old.1)

pub rename-sound : (o n : Path) → KeepsSound (rename o n)
rename-sound o n s sound accepted =
    let old = there-of (file_at s o) _ accepted in
    sound-moved s sound o n old.0 (within-of n.folder s.folders None (rest-of (file_at s o) _ accepted)) old.1

pub with-sound : (s : State) (files : List ImageFile) → IsSound s → refusal_with s files ≡ None → IsSound (state_with s files)
with-sound s [] sound accepted = sound
with-sound s (file ∷ files) sound accepted =
    let parts = neither _ _ accepted in
    with-sound ((put file).after s) files (make-sound file.path (record { bytes = file.bytes; stamp = file.stamp }) s sound parts.0) parts.1

set-last : {X : Type 0} (xs : List X) (x y : X) → slice_set (xs ++ x ∷ []) (length xs) y ≡ xs ++ y ∷ []
set-last [] x y = refl
set-last (z ∷ zs) x y = ap (λ ys. z ∷ ys) (set-last zs x y)

-- a file that is created, and given its bytes at once
pub put-is : (file : ImageFile) (s : State) → (put file).after s ≡ (append file.path file.bytes file.stamp).after ((create file.path file.stamp).after s)
put-is file s =
    let n = length s.files in
    let empty = empty_file file.stamp in
    let t = after_create file.path file.stamp s in
    let at : file_at t file.path ≡ Some n = maps.at_put path_total path_exact s.names file.path file.path n refl in
    sym (ap (after_append file.bytes file.stamp t) at
    ∙ ap (λ (o : Option File). record t { files = slice_set t.files n (file_with_more file.bytes file.stamp o) }) (file_by-last s.files (Some empty))
    ∙ ap (λ (fs : List (Option File)). record t { files = fs }) (set-last s.files (Some empty) (Some (record { bytes = file.bytes; stamp = file.stamp }))))

use Rattle.std.proofs.Common.{◌≡◌, ◌++◌, ℕ, List, OnOk, length}
use Rattle.md_text.specs.Folders.{names_of}
use Rattle.md_script.specs.Indexing.{of_folders}
use Rattle.md_script.proofs.indexing.folders_text.Given as goal

abbrev pub invariant-loop-left : goal.invariant-loop-left
invariant-loop-left g l = (text : ℕ → List ℕ → List ℕ)
    → ((folder : _) (name : _) (out : _) (r : _) (after : _) → goal.F-post g l.push folder name out r after
    → OnOk r (after.now.items ≡ out.now.items ++ text folder name.now))
    → l.text.items ++ of_folders text l.folder (names_of l.left) ≡ of_folders text 0 (names_of l.names)

abbrev pub decreases-loop-left : goal.decreases-loop-left
decreases-loop-left g l = length l.left

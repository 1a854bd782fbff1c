-- Files of records, one more behind those that were read.
use Rattle.std.proofs.Common.{ℕ, ◌≡◌, ◌⊎◌, ◌==◌, List, [], ◌∷◌, ◌++◌, Ok, Err, true, false, inl, inr, length, refl, subst}
use Rattle.md_dirs.specs.declared.image.ImageFile.{ImageFile}
use Rattle.md_script.specs.declared.error.PlayKind.TheVariants.{NoMemory}
use Rattle.md_ffi.specs.Files.{file_in, AreFiles, StopsAt}
use Rattle.md_driven.specs.declared.refusal.Refusal.{Refusal}
use Rattle.md_driven.specs.declared.refusal.Refusal.TheVariants.{Kind}
use Rattle.md_ffi.proofs.Records.{empty, not-empty}

pub more : (files : List ImageFile) (bytes left : List ℕ) → AreFiles files bytes left → (file : ImageFile) (rest : List ℕ)
    → file_in left ≡ Ok (file, rest) → AreFiles (files ++ file ∷ []) bytes rest
more [] bytes left before file rest is = (rest, subst (λ (b : List ℕ). file_in b ≡ Ok (file, rest)) before is, refl)
more (x ∷ xs) bytes left before file rest is = (before.0, before.1, more xs before.0 left before.2 file rest is)

pub stops : (files : List ImageFile) (bytes left : List ℕ) → AreFiles files bytes left → (length left == 0) ≡ false → (e : Refusal)
    → (e ≡ Kind NoMemory) ⊎ (file_in left ≡ Err e) → (e ≡ Kind NoMemory) ⊎ StopsAt bytes e
stops files bytes left before some e (inl memory) = inl memory
stops files bytes left before some e (inr is) =
    inr (record { files = files; left = left; before = before; some = not-empty left some; refused = is })

pub ends : (files : List ImageFile) (bytes left : List ℕ) → AreFiles files bytes left → (length left == 0) ≡ true → AreFiles files bytes []
ends files bytes left before none = subst (λ (b : List ℕ). AreFiles files bytes b) (empty left none) before

-- Files that C loads a world from, each a record of bytes, and what such a load comes to.
use Rattle.std.specs.Prelude.{ℕ, ◌≡◌, ◌≢◌, ◌⊎◌, List, [], ◌∷◌, Option, Some, None, Result, Ok, Err, ok_or}
use Rattle.md_dirs.specs.declared.image.ImageFile.{ImageFile}
use Rattle.md_dirs.specs.declared.paths.Place.{Place}
use Rattle.md_core.specs.Runs.{Run}
use Rattle.md_script.specs.Sessions.{run_over}
use Rattle.md_script.specs.declared.error.PlayKind.{PlayKind}
use Rattle.md_text.specs.Bind.{◌>>=◌}
use Rattle.md_driven.specs.Numbers.{kind_number, refusal_number}
use Rattle.md_driven.specs.Shown.{place_at}
use Rattle.md_ffi.specs.Records.{cut, eight_at, four_at}
use Rattle.md_ffi.specs.declared.held.Held.{Held}
use Rattle.md_driven.specs.declared.refusal.Refusal.{Refusal}
use Rattle.md_driven.specs.declared.refusal.Refusal.TheVariants.{NoPlace}

-- the file of a record's head, with this place, name and bytes
abbrev pub file_of : List ℕ → Place → List ℕ → List ℕ → ImageFile
file_of head place name body = record {
  path = record { folder = four_at 0 head; place = place; name = name };
  bytes = body;
  stamp = eight_at 8 head;
}

-- The file of the first record of these bytes, and what follows that: a head of 32 bytes, which says how long the name and the bytes are,
-- and these two.
unfoldable pub file_in : List ℕ → Result (ImageFile × List ℕ) Refusal
file_in bytes =
    cut 32 bytes >>= (λ head.
    cut (eight_at 16 head.0) head.1 >>= (λ name.
    cut (eight_at 24 head.0) name.1 >>= (λ body.
    ok_or (place_at (four_at 4 head.0)) NoPlace >>= (λ place.
    Ok (file_of head.0 place name.0 body.0, body.1)))))

-- these files are those of the records at the front of these bytes, one after another, and these bytes are left
abbrev pub AreFiles : List ImageFile → List ℕ → List ℕ → Type 0
AreFiles [] bytes left = left ≡ bytes
AreFiles (file ∷ more) bytes left = (rest : List ℕ) × (file_in bytes ≡ Ok (file, rest)) × AreFiles more rest left

-- behind some files bytes are left whose first record is refused so
pub record StopsAt (bytes : List ℕ) (refusal : Refusal) : Type 0 where
  pub files : List ImageFile
  pub left : List ℕ
  pub before : AreFiles files bytes left
  pub some : left ≢ []
  pub refused : file_in left ≡ Err refusal

-- a store over files is held, or is refused and nothing is held
abbrev pub HoldsStore : Result Run PlayKind → Option Held → ℕ → Type 0
HoldsStore (Ok run) held status = (held ≡ Some (record { world = run })) × (status ≡ 0)
HoldsStore (Err kind) held status = (held ≡ None) × (status ≡ kind_number kind)

-- A load of files: each record is one, and the store over them is held or refused; or a record is refused; or memory ran out.
abbrev pub GivesStore : ℕ → List ℕ → Option Held → ℕ → Type 0
GivesStore folders bytes held status =
    ((files : List ImageFile) × AreFiles files bytes [] × HoldsStore (run_over folders files) held status)
    ⊎ ((e : Refusal) × StopsAt bytes e × (held ≡ None) × (status ≡ refusal_number e))
    ⊎ ((held ≡ None) × (status ≡ 4))

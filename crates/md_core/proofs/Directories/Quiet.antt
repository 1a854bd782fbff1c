-- A call that changes no message: all that it does to directories, by the name whose paths it acts on.
use Rattle.std.proofs.Common.{ℕ, ◌≡◌, ◌<◌, inl, inr, List, Some, refl}
use Rattle.md_core.proofs.Values.{State, IsSound, file_at, Path, Tmp, after_create, after_append, after_unlink}
use Rattle.md_core.proofs.Induction.Good.{IsUnused, IsAlone}
use Rattle.md_core.proofs.Mailbox.Changes.{Keeps}
use Rattle.md_core.proofs.Directories.Frames.{Frame}
use Rattle.md_core.proofs.Directories.Spares.{Spares, spares-all}
use Rattle.md_core.proofs.Directories.Calls.Create.{create-frame, create-sound, create-spares, create-keeps}
use Rattle.md_core.proofs.Directories.Calls.Append.{append-frame, append-sound, append-spares, append-keeps}
use Rattle.md_core.proofs.Directories.Calls.Unlink.{unlink-frame, unlink-sound, unlink-spares, unlink-keeps}

pub record Quiet (s s' : State) (u : List ℕ) : Type 0 where
  pub frame : Frame s s' u
  pub sound : IsSound s'
  pub spares : Spares s s'
  pub keeps : Keeps s s'

-- nothing changes
pub quiet-stays : (s : State) (u : List ℕ) → IsSound s → Quiet s s u
quiet-stays s u sound = record {
  frame = record { names = λ q not. refl; bytes = λ q m not at. refl; origin = λ q m is at. inr (q, inl is, at) };
  sound = sound;
  spares = spares-all s s refl (λ q. refl);
  keeps = record { names = λ q m. refl; bytes = λ q message m at. refl };
}

module _ (s : State) (tmp : Path) (in_tmp : tmp.place ≡ Tmp) (sound : IsSound s) where
  pub quiet-create : (now : ℕ) → tmp.folder < s.folders → IsUnused s tmp.name → Quiet s (after_create tmp now s) tmp.name
  quiet-create now within unused = record {
    frame = create-frame s tmp now in_tmp sound unused;
    sound = create-sound s tmp now in_tmp sound unused within;
    spares = create-spares s tmp now in_tmp sound unused;
    keeps = create-keeps s tmp now in_tmp sound unused;
  }

  pub quiet-append : (now : ℕ) (more bytes : List ℕ) (n : ℕ) → file_at s tmp ≡ Some n → IsAlone s tmp bytes → Quiet s (after_append more now s (Some n)) tmp.name
  quiet-append now more bytes n there alone = record {
    frame = append-frame s tmp now more bytes n in_tmp sound there alone;
    sound = append-sound s tmp now more bytes n in_tmp sound there alone;
    spares = append-spares s tmp now more bytes n in_tmp sound there alone;
    keeps = append-keeps s tmp now more bytes n in_tmp sound there alone;
  }

  pub quiet-unlink : Quiet s (after_unlink tmp s) tmp.name
  quiet-unlink = record {
    frame = unlink-frame s tmp in_tmp sound;
    sound = unlink-sound s tmp in_tmp sound;
    spares = unlink-spares s tmp in_tmp sound;
    keeps = unlink-keeps s tmp in_tmp sound;
  }

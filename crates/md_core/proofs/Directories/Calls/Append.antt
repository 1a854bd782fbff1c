-- Bytes added to a file in tmp that has no other name.
use Rattle.std.proofs.Common.{ℕ, ◌≡◌, ◌≢◌, ◌++◌, inl, inr, List, Option, Some, None, refl, ap, ◌∙◌, IsSome}
use Rattle.md_core.proofs.Values.{State, file_at, IsSound, file_by, Path, Tmp, bytes_of, after_append, file_with_more, File}
use Rattle.md_dirs.proofs.Sound.{file_by-set_same, file_by-set_other, number-within, sound-appended}
use Rattle.md_core.proofs.Induction.Good.{bytes_at, IsAlone}
use Rattle.md_core.proofs.Mailbox.Changes.{Keeps}
use Rattle.md_core.proofs.Directories.Frames.{Frame, tmp-key, not_tmp, other_key}
use Rattle.md_core.proofs.Directories.Spares.{Spares, spares-all}

grown-bytes : (more : List ℕ) (now : ℕ) (o : Option File) → IsSome o → bytes_of (file_with_more more now o) ≡ bytes_of o ++ more
grown-bytes more now None is = cc
grown-bytes more now (Some file) is = refl

module _ (s : State) (tmp : Path) (now : ℕ) (more bytes : List ℕ) (n : ℕ) (in_tmp : tmp.place ≡ Tmp) (sound : IsSound s)
    (here : file_at s tmp ≡ Some n) (alone : IsAlone s tmp bytes) where
  abbrev after : State
  after = after_append more now s (Some n)

  bytes_here : bytes_at after n ≡ bytes ++ more
  bytes_here =
      ap bytes_of (file_by-set_same s.files n (file_with_more more now (file_by s.files n)) (number-within s sound tmp n here))
      ∙ grown-bytes more now (file_by s.files n) (sound.filed tmp n here) ∙ ap (λ (b : List ℕ). b ++ more) (alone.holds n here)

  bytes_other : (m : ℕ) → m ≢ n → bytes_at after m ≡ bytes_at s m
  bytes_other m not = ap bytes_of (file_by-set_other s.files n m (file_with_more more now (file_by s.files n)) not)

  beside : (q : Path) (m : ℕ) → q ≢ tmp → file_at s q ≡ Some m → m ≢ n
  beside q m not at same = not (alone.only n q here (at ∙ ap Some same))

  pub append-spares : Spares s after
  append-spares = spares-all s after refl (λ q. refl)

  pub append-keeps : Keeps s after
  append-keeps = record {
    names = λ q m. refl;
    bytes = λ q message m at. bytes_other m (beside q m (not_tmp q tmp in_tmp message) at);
  }

  pub append-frame : Frame s after tmp.name
  append-frame = record {
    names = λ q not. refl;
    bytes = λ q m not at. bytes_other m (beside q m (other_key q tmp tmp.name (tmp-key tmp in_tmp) not) at);
    origin = λ q m is at. inr (q, inl is, at);
  }

  pub append-alone : IsAlone after tmp (bytes ++ more)
  append-alone = record {
    holds = λ m at. let same : m ≡ n = (let h = here in cc) in ap (bytes_at after) same ∙ bytes_here;
    only = λ m q at there. alone.only m q at there;
  }

  pub append-sound : IsSound after
  append-sound = sound-appended s sound more now (Some n)

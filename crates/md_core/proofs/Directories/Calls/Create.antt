-- A name made in tmp, one that no path uses.
use Rattle.std.proofs.Common.{ℕ, ◌≡◌, ◌≢◌, ◌<◌, inl, inr, [], Some, None, refl, sym, ap, ◌∙◌, length}
use Rattle.md_core.proofs.Values.{State, file_at, IsSound, Path, Tmp, is_tmp, bytes_of, after_create}
use Rattle.md_dirs.proofs.PathOrder.{path_total, path_exact}
use Rattle.lists.proofs.Maps as maps
use Rattle.md_dirs.proofs.Sound.{by_path, file_by-push, file_by-last, number-within, new_number, sound-created}
use Rattle.md_core.proofs.Induction.Good.{bytes_at, IsUnused, HasNoMessage, IsAlone}
use Rattle.md_core.proofs.Mailbox.Changes.{Keeps}
use Rattle.md_core.proofs.Directories.Frames.{Frame, message-key, tmp-key, not_tmp, other_key}
use Rattle.md_core.proofs.Directories.Spares.{Spares, spares-one}

module _ (s : State) (tmp : Path) (now : ℕ) (in_tmp : tmp.place ≡ Tmp) (sound : IsSound s) (unused : IsUnused s tmp.name) where
  abbrev after : State
  after = after_create tmp now s

  beside : (q : Path) → q ≢ tmp → file_at after q ≡ file_at s q
  beside q not = maps.beside_put path_total path_exact s.names tmp q (length s.files) not

  here : (q : Path) → q ≡ tmp → file_at after q ≡ Some (length s.files)
  here q is = maps.at_put path_total path_exact s.names tmp q (length s.files) is

  bytes : (q : Path) (m : ℕ) → file_at s q ≡ Some m → bytes_at after m ≡ bytes_at s m
  bytes q m at = ap bytes_of (file_by-push s.files (Some (record { bytes = []; stamp = now })) m (number-within s sound q m at))

  was_not : file_at s tmp ≡ None
  was_not = unused tmp (tmp-key tmp in_tmp)

  pub create-spares : Spares s after
  create-spares = spares-one s after tmp refl beside (inl was_not) (inl (ap is_tmp in_tmp))

  pub create-keeps : Keeps s after
  create-keeps = record {
    names = λ q m. beside q (not_tmp q tmp in_tmp m);
    bytes = λ q _ m at. bytes q m at;
  }

  pub create-frame : Frame s after tmp.name
  create-frame = record {
    names = λ q not. beside q (other_key q tmp tmp.name (tmp-key tmp in_tmp) not);
    bytes = λ q m not at. bytes q m at;
    origin = λ q m is at. by_path q tmp
        (λ same. let number : length s.files ≡ m = (let h = here q same in cc) in inl (λ r atr. new_number s sound r (atr ∙ ap Some (sym number))))
        (λ not. inr (q, inl is, sym (beside q not) ∙ at));
  }

  pub create-sound : tmp.folder < s.folders → IsSound after
  create-sound within = sound-created s sound tmp now within was_not

  pub create-alone : IsAlone after tmp []
  create-alone = record {
    holds = λ n at. let number : length s.files ≡ n = (let h = here tmp refl in cc) in
        ap (bytes_at after) (sym number) ∙ ap bytes_of (file_by-last s.files (Some (record { bytes = []; stamp = now })));
    only = λ n q at there. by_path q tmp (λ same. same)
        (λ not.
        let number : length s.files ≡ n = (let h = here tmp refl in cc) in
        absurd (new_number s sound q (sym (beside q not) ∙ there ∙ ap Some (sym number))));
  }

  pub create-no_message : HasNoMessage after tmp.name
  create-no_message q m is = beside q (not_tmp q tmp in_tmp m) ∙ unused q (message-key q m ∙ is)

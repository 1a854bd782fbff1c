-- A name in tmp taken away.
use Rattle.std.proofs.Common.{ℕ, ◌≡◌, ◌≢◌, inl, inr, Some, None, refl, sym, ap, ◌∙◌}
use Rattle.md_core.proofs.Values.{State, file_at, IsSound, Path, Tmp, is_tmp, bytes_of, without_path, after_unlink}
use Rattle.md_dirs.proofs.PathOrder.{path_total, path_exact}
use Rattle.lists.proofs.Maps as maps
use Rattle.md_dirs.proofs.Sound.{by_path, swept-kept, sound-without}
use Rattle.md_core.proofs.Induction.Good.{bytes_at}
use Rattle.md_core.proofs.Mailbox.Changes.{Keeps}
use Rattle.md_core.proofs.Directories.Frames.{Frame, Shrinks, tmp-key, not_tmp, other_key}
use Rattle.md_core.proofs.Directories.Spares.{Spares, spares-one}

module _ (s : State) (tmp : Path) (in_tmp : tmp.place ≡ Tmp) (sound : IsSound s) where
  abbrev after : State
  after = after_unlink tmp s

  beside : (q : Path) → q ≢ tmp → file_at after q ≡ file_at s q
  beside q not = maps.beside_drop path_total path_exact s.names tmp q not

  here : (q : Path) → q ≡ tmp → file_at after q ≡ None
  here q is = maps.at_drop path_total path_exact s.names tmp q is

  -- the file of another path is kept
  bytes : (q : Path) (m : ℕ) → q ≢ tmp → file_at s q ≡ Some m → bytes_at after m ≡ bytes_at s m
  bytes q m not at = ap bytes_of (swept-kept (file_at s tmp) (without_path tmp s) q m (beside q not ∙ at))

  pub unlink-spares : Spares s after
  unlink-spares = spares-one s after tmp refl beside (inr (here tmp refl)) (inl (ap is_tmp in_tmp))

  pub unlink-keeps : Keeps s after
  unlink-keeps = record {
    names = λ q m. beside q (not_tmp q tmp in_tmp m);
    bytes = λ q message m at. bytes q m (not_tmp q tmp in_tmp message) at;
  }

  pub unlink-frame : Frame s after tmp.name
  unlink-frame = record {
    names = λ q not. beside q (other_key q tmp tmp.name (tmp-key tmp in_tmp) not);
    bytes = λ q m not at. bytes q m (other_key q tmp tmp.name (tmp-key tmp in_tmp) not) at;
    origin = λ q m is at. by_path q tmp
        (λ same. let h = here q same in cc)
        (λ not. inr (q, inl is, sym (beside q not) ∙ at));
  }

  pub unlink-shrinks : Shrinks s after
  unlink-shrinks = record {
    folders = refl;
    names = λ q n is. by_path q tmp (λ same. let gone = here q same in cc) (λ not. sym (beside q not) ∙ is);
    bytes = λ q n is. by_path q tmp (λ same. let gone = here q same in cc) (λ not. bytes q n not (sym (beside q not) ∙ is));
  }

  pub unlink-sound : IsSound after
  unlink-sound = sound-without s sound tmp

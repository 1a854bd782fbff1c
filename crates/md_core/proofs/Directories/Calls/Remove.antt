-- A message taken away.
use Rattle.std.proofs.Common.{ℕ, ◌≡◌, ◌≢◌, inl, inr, Option, Some, None, true, refl, sym, ap, ◌∙◌}
use Rattle.md_core.proofs.Values.{State, file_at, IsSound, Path, unique_of, is_message, bytes_of, HasOnePath, without_path, after_unlink}
use Rattle.md_dirs.proofs.PathOrder.{path_total, path_exact}
use Rattle.lists.proofs.Maps as maps
use Rattle.md_dirs.proofs.Sound.{by_path, swept-kept, sound-without}
use Rattle.md_core.proofs.Induction.Good.{bytes_at}
use Rattle.md_core.proofs.Mailbox.Changes.{Drops}
use Rattle.md_core.proofs.Directories.Frames.{Frame, message-key, other_key}
use Rattle.md_core.proofs.Directories.Spares.{Spares, spares-one}

module _ (s : State) (p : Path) (k : ℕ) (one : HasOnePath s) (message : is_message p ≡ true) (at : file_at s p ≡ Some k) where
  abbrev after : State
  after = after_unlink p s

  beside : (q : Path) → q ≢ p → file_at after q ≡ file_at s q
  beside q not = maps.beside_drop path_total path_exact s.names p q not

  here : (q : Path) → q ≡ p → file_at after q ≡ None
  here q is = maps.at_drop path_total path_exact s.names p q is

  before : (q : Path) (m : ℕ) → file_at after q ≡ Some m → file_at s q ≡ Some m
  before q m there = by_path q p (λ is. let h = here q is in cc) (λ not. sym (beside q not) ∙ there)

  -- the file of another path is kept
  bytes : (q : Path) (m : ℕ) → q ≢ p → file_at s q ≡ Some m → bytes_at after m ≡ bytes_at s m
  bytes q m not there = ap bytes_of (swept-kept (file_at s p) (without_path p s) q m (beside q not ∙ there))

  not_by : (q : Path) → unique_of q.name ≢ unique_of p.name → q ≢ p
  not_by q not is = not (ap (λ (x : Path). unique_of x.name) is)

  pub remove-drops : Drops s after (unique_of p.name)
  remove-drops = record {
    gone = λ q m is. by_path q p (here q) (λ not. by q m is not (file_at after q) refl);
    others = λ q m not. beside q (not_by q not);
    bytes = λ q m not j there. bytes q j (not_by q not) there;
  }
    where
      by : (q : Path) → is_message q ≡ true → unique_of q.name ≡ unique_of p.name → q ≢ p → (o : Option ℕ) → file_at after q ≡ o → file_at after q ≡ None
      by q m is not None there = there
      by q m is not (Some j) there = absurd (not (one q p j k (before q j there) at m message is))

  pub remove-frame : Frame s after (unique_of p.name)
  remove-frame = record {
    names = λ q not. beside q (other_key q p (unique_of p.name) (message-key p message) not);
    bytes = λ q m not there. bytes q m (other_key q p (unique_of p.name) (message-key p message) not) there;
    origin = λ q m is there. inr (q, inl is, before q m there);
  }

  pub remove-sound : IsSound s → IsSound after
  remove-sound sound = sound-without s sound p

  pub remove-spares : Spares s after
  remove-spares = spares-one s after p refl beside (inr (here p refl)) (inr message)

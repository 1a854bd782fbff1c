-- What a call leaves whatever it does: the number of folders, the file of each path that stays, and names that are no messages.
use Rattle.std.proofs.Common.{◌≡◌, ◌≢◌, ◌⊎◌, inl, inr, None, true, false, sym, subst}
use Rattle.md_core.proofs.Values.{State, file_at, Path, is_tmp, is_message, NoneOverwritten}
use Rattle.md_dirs.proofs.Sound.{by_path}

pub record Spares (s s' : State) : Type 0 where
  pub folders : s'.folders ≡ s.folders
  pub none_overwritten : NoneOverwritten s s'
  pub no_messages : (p : Path) → is_tmp p.place ≡ false → is_message p ≡ false → file_at s' p ≡ file_at s p

-- a path in tmp, or of a message
abbrev pub IsOurs : Path → Type 0
IsOurs p = (is_tmp p.place ≡ true) ⊎ (is_message p ≡ true)

-- where each path stays, or is one of ours that was not there or is gone
pub spares-by : (s s' : State) → s'.folders ≡ s.folders →
    ((q : Path) → (file_at s' q ≡ file_at s q) ⊎ (IsOurs q × ((file_at s q ≡ None) ⊎ (file_at s' q ≡ None)))) → Spares s s'
spares-by s s' folders by = record {
  folders = folders;
  none_overwritten = λ p m n at at'. elim (by p) [
    | inl stays ↦ (cc)
    | inr changes ↦ elim changes.1 [ inl was_not ↦ (cc) | inr gone ↦ (cc) ]
  ];
  no_messages = λ p no_tmp none. elim (by p) [
    | inl stays ↦ stays
    | inr changes ↦ elim changes.0 [ inl in_tmp ↦ (cc) | inr message ↦ (cc) ]
  ];
}

-- where all paths stay
pub spares-all : (s s' : State) → s'.folders ≡ s.folders → ((q : Path) → file_at s' q ≡ file_at s q) → Spares s s'
spares-all s s' folders same = spares-by s s' folders (λ q. inl (same q))

-- where all paths stay but one of ours, which was not there or is gone
pub spares-one : (s s' : State) (x : Path) → s'.folders ≡ s.folders → ((q : Path) → q ≢ x → file_at s' q ≡ file_at s q) →
    (file_at s x ≡ None) ⊎ (file_at s' x ≡ None) → IsOurs x → Spares s s'
spares-one s s' x folders beside changes ours = spares-by s s' folders (λ q. by_path q x
    (λ is. inr (subst (λ (y : Path). IsOurs y × ((file_at s y ≡ None) ⊎ (file_at s' y ≡ None))) (sym is) (ours, changes)))
    (λ not. inl (beside q not)))

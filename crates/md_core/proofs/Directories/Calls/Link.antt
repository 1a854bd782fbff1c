-- A file in tmp linked to a message of its name, or a message's to a message of another, where no message has the name.
use Rattle.std.proofs.Common.{ℕ, ◌≡◌, ◌≢◌, ◌<◌, ◌⊎◌, inl, inr, List, Some, None, true, refl, sym, ap, ◌∙◌}
use Rattle.md_core.proofs.Values.{State, file_at, IsSound, Path, unique_of, is_message, name_used, with_path}
use Rattle.md_dirs.proofs.PathOrder.{path_total, path_exact}
use Rattle.lists.proofs.Maps as maps
use Rattle.md_dirs.proofs.Sound.{by_path, sound-named}
use Rattle.md_core.proofs.Induction.Good.{bytes_at, HasNoMessage}
use Rattle.md_core.proofs.Mailbox.Changes.{Puts}
use Rattle.md_core.proofs.Directories.Frames.{Frame, message-key, other_key}
use Rattle.md_core.proofs.Directories.Spares.{Spares, spares-one}

-- the message of a name is at a path, and holds these bytes
pub record Lands (s s' : State) (u : List ℕ) (new : Path) (n : ℕ) (bytes : List ℕ) : Type 0 where
  pub frame : Frame s s' u
  pub sound : IsSound s'
  pub spares : Spares s s'
  pub puts : Puts s s' new n
  pub holds : bytes_at s' n ≡ bytes

-- the old path is one of the name, or of a message
module _ (s : State) (old new : Path) (u bytes : List ℕ) (n : ℕ) (from : (name_used old ≡ u) ⊎ (is_message old ≡ true)) (sound : IsSound s)
    (within : new.folder < s.folders) (there : file_at s old ≡ Some n) (holds : bytes_at s n ≡ bytes)
    (none : HasNoMessage s u) (message : is_message new ≡ true) (name : unique_of new.name ≡ u) where
  abbrev after : State
  after = with_path new s (Some n)

  was_not : file_at s new ≡ None
  was_not = none new message name

  beside : (q : Path) → q ≢ new → file_at after q ≡ file_at s q
  beside q not = maps.beside_put path_total path_exact s.names new q n not

  here : (q : Path) → q ≡ new → file_at after q ≡ Some n
  here q is = maps.at_put path_total path_exact s.names new q n is

  link-spares : Spares s after
  link-spares = spares-one s after new refl beside (inl was_not) (inr message)

  link-puts : Puts s after new n
  link-puts = record {
    message = message;
    there = here new refl;
    others = λ q m not. beside q (λ is. not (ap (λ (p : Path). unique_of p.name) is));
    alone = λ q m other is at. by_path q new (λ h. h) (λ not. let gone = none q other (is ∙ name) in let back = sym (beside q not) ∙ at in cc);
    bytes = λ q _ m at. refl;
  }

  link-frame : Frame s after u
  link-frame = record {
    names = λ q not. beside q (other_key q new u (message-key new message ∙ name) not);
    bytes = λ q m not at. refl;
    origin = λ q m is at. by_path q new
        (λ same. let number : n ≡ m = (let h = here q same in cc) in inr (old, from, there ∙ ap Some number))
        (λ not. inr (q, inl is, sym (beside q not) ∙ at));
  }

  link-sound : IsSound after
  link-sound = sound-named s sound new old n within was_not there

  pub link-lands : Lands s after u new n bytes
  link-lands = record { frame = link-frame; sound = link-sound; spares = link-spares; puts = link-puts; holds = holds }

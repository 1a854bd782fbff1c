-- A message moved to another path of its unique name, whatever call did it.
use Rattle.std.proofs.Common.{ℕ, ◌≡◌, ◌≢◌, ◌<◌, inl, inr, List, Option, Some, None, true, false, cond, refl, sym, ap, subst, ◌∙◌}
use Rattle.std.specs.FinMap as finmap
use Rattle.md_core.proofs.Values.{State, file_at, IsSound, Path, unique_of, is_message, HasOnePath, name_used, after_rename, with_path, without_path, with_files_still_named, is_one_file}
use Rattle.md_dirs.proofs.PathOrder.{path_total, path_exact}
use Rattle.lists.proofs.Maps as maps
use Rattle.md_dirs.proofs.Sound.{by_path, sound-moved}
use Rattle.md_core.proofs.Mailbox.Changes.{Puts}
use Rattle.md_core.proofs.Directories.Frames.{Frame, message-key, other_key}
use Rattle.md_core.proofs.Directories.Spares.{Spares, spares-by}

-- the state after a rename to a path that is not there, by its parts
abbrev pub shifted : Path → Path → State → ℕ → State
shifted o n s k = with_path n (without_path o s) (Some k)

module _ (s : State) (o n : Path) (k : ℕ) (one : HasOnePath s) (mo : is_message o ≡ true) (mn : is_message n ≡ true)
    (same : unique_of o.name ≡ unique_of n.name) (differ : o ≢ n) (at : file_at s o ≡ Some k) where
  abbrev after : State
  after = shifted o n s k

  -- the target isn't there, since the name has one path
  pub target-free : file_at s n ≡ None
  target-free = by (file_at s n) refl
    where
      by : (x : Option ℕ) → file_at s n ≡ x → file_at s n ≡ None
      by None is = is
      by (Some j) is = absurd (differ (one o n k j at is mo mn same))

  -- so the call does nothing else
  pub moved-is : after_rename o n s ≡ after
  moved-is =
      let apart : is_one_file (file_at s o) (file_at s n) ≡ false = (λ i. is_one_file (at i) (target-free i)) in
      ap (λ b. cond b s (with_files_still_named (file_at s n) (with_path n (without_path o s) (file_at s o)))) apart ∙ (λ i. with_files_still_named (target-free i) (with_path n (without_path o s) (at i)))

  here : (q : Path) → q ≡ n → file_at after q ≡ Some k
  here q is = maps.at_put path_total path_exact (finmap.remove s.names o) n q k is

  gone : (q : Path) → q ≢ n → q ≡ o → file_at after q ≡ None
  gone q not is = maps.beside_put path_total path_exact (finmap.remove s.names o) n q k not ∙ maps.at_drop path_total path_exact s.names o q is

  beside : (q : Path) → q ≢ n → q ≢ o → file_at after q ≡ file_at s q
  beside q notn noto = maps.beside_put path_total path_exact (finmap.remove s.names o) n q k notn ∙ maps.beside_drop path_total path_exact s.names o q noto

  not_by : (q p : Path) (u : List ℕ) → unique_of p.name ≡ u → unique_of q.name ≢ u → q ≢ p
  not_by q p u is not e = not (ap (λ (x : Path). unique_of x.name) e ∙ is)

  pub rename-puts : Puts s after n k
  rename-puts = record {
    message = mn;
    there = here n refl;
    others = λ q m not. beside q (not_by q n (unique_of n.name) refl not) (not_by q o (unique_of n.name) same not);
    alone = λ q m message is there. by_path q n (λ h. h) (λ notn. by_path q o
        (λ iso. let h = gone q notn iso in cc)
        (λ noto. let before = sym (beside q notn noto) ∙ there in absurd (noto (one q o m k before at message mo (is ∙ sym same)))));
    bytes = λ q _ m there. refl;
  }

  key_n : name_used n ≡ unique_of n.name
  key_n = message-key n mn

  key_o : name_used o ≡ unique_of n.name
  key_o = message-key o mo ∙ same

  pub rename-frame : Frame s after (unique_of n.name)
  rename-frame = record {
    names = λ q not. beside q (other_key q n (unique_of n.name) key_n not) (other_key q o (unique_of n.name) key_o not);
    bytes = λ q m not there. refl;
    origin = λ q m is there. by_path q n
        (λ isn. let number : k ≡ m = (let h = here q isn in cc) in inr (o, inl key_o, at ∙ ap Some number))
        (λ notn. by_path q o (λ iso. let h = gone q notn iso in cc) (λ noto. inr (q, inl is, sym (beside q notn noto) ∙ there)));
  }

  pub rename-sound : n.folder < s.folders → IsSound s → IsSound after
  rename-sound within sound = subst IsSound moved-is (sound-moved s sound o n k within at)

  pub rename-spares : Spares s after
  rename-spares = spares-by s after refl (λ q. by_path q n
      (λ isn. inr (inr (ap is_message isn ∙ mn), inl (ap (file_at s) isn ∙ target-free)))
      (λ notn. by_path q o (λ iso. inr (inr (ap is_message iso ∙ mo), inr (gone q notn iso))) (λ noto. inl (beside q notn noto))))

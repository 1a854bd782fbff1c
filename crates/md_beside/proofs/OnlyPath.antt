-- A delivery beside a step of another: its name in tmp is the only path of its name, and of its file.
use Rattle.std.proofs.Common.{ℕ, ◌≡◌, ◌≢◌, List, Some, None, refl, sym, ap, ◌∙◌}
use Rattle.md_dirs.proofs.Sound.{by_path, by_number}
use Rattle.md_dirs.specs.State.{State, file_at}
use Rattle.md_dirs.specs.declared.paths.Path.{Path}
use Rattle.md_dirs.specs.declared.paths.Place.TheVariants.{Tmp}
use Rattle.md_core.specs.Accepting.{name_used}
use Rattle.md_core.proofs.Induction.Good.{IsUnused, HasNoMessage}
use Rattle.md_core.proofs.Directories.Frames.{message-key, tmp-key, not_tmp}

-- the path is the only one of its name, and the only one of its file
pub record IsOnly (s : State) (tmp : Path) : Type 0 where
  pub of_name : (q : Path) (n : ℕ) → name_used q ≡ tmp.name → file_at s q ≡ Some n → q ≡ tmp
  pub of_file : (n : ℕ) (q : Path) → file_at s tmp ≡ Some n → file_at s q ≡ Some n → q ≡ tmp

module _ (s s' : State) (u : List ℕ)
    -- another brings no path of the name about
    (brought : (p : Path) (n : ℕ) → name_used p ≡ u → file_at s' p ≡ Some n → ((q : Path) → name_used q ≡ u → file_at s q ≡ Some n → ⊥) →
    ⊥) where
  pub unused-beside : IsUnused s u → IsUnused s' u
  unused-beside unused p is = elim (file_at s' p) as (λ o. file_at s' p ≡ o → o ≡ None) [
    | None ↦ λ _. refl
    | Some n ↦ λ now. absurd (brought p n is now (λ q used at. let none = unused q used in cc))
  ] refl

module _ (s s' : State) (tmp : Path) (place : tmp.place ≡ Tmp)
    (brought : (p : Path) (n : ℕ) → name_used p ≡ tmp.name → file_at s' p ≡ Some n →
    ((q : Path) → name_used q ≡ tmp.name → file_at s q ≡ Some n → ⊥) → ⊥)
    -- another gives the file of the path no path
    (named : (p : Path) (n : ℕ) → file_at s tmp ≡ Some n → file_at s' p ≡ Some n → file_at s p ≢ Some n → ⊥)
    (only : IsOnly s tmp) where
  -- where a path of the name is there after the step, the file of the delivery was there, at its path
  was : (p : Path) (n : ℕ) → name_used p ≡ tmp.name → file_at s' p ≡ Some n → (file_at s tmp ≢ Some n → ⊥)
  was p n used now not = brought p n used now (λ q used' at. not (ap (file_at s) (sym (only.of_name q n used' at)) ∙ at))

  pub kept : (n : ℕ) → file_at s' tmp ≡ Some n → file_at s tmp ≡ Some n
  kept n now = elim (file_at s tmp) as (λ o. file_at s tmp ≡ o → o ≡ Some n) [
    | None ↦ λ none. absurd (was tmp n (tmp-key tmp place) now (λ there. let clash = sym none ∙ there in cc))
    | Some m ↦ λ some. by_number m n (λ same. ap Some same)
        (λ differ. absurd (was tmp n (tmp-key tmp place) now (λ there. let clash = sym some ∙ there in differ cc)))
  ] refl

  pub only-beside : IsOnly s' tmp
  only-beside = record {
    of_name = λ q n used now. by_path q tmp (λ same. same) (λ differ. absurd (was q n used now
        (λ there. named q n there now (λ before. differ (only.of_name q n used before)))));
    of_file = λ n q there now. by_path q tmp (λ same. same) (λ differ.
        absurd (named q n (kept n there) now (λ before. differ (only.of_file n q (kept n there) before))));
  }

  pub no_message-beside : HasNoMessage s' tmp.name
  no_message-beside p message is = elim (file_at s' p) as (λ o. file_at s' p ≡ o → o ≡ None) [
    | None ↦ λ _. refl
    | Some n ↦ λ now. absurd (not_tmp p tmp place message (only-beside.of_name p n (message-key p message ∙ is) now))
  ] refl

-- The paths that each row of the table makes load: a change of flags makes one of the message's name, a move keeps the name, and a copy makes
-- one of a fresh name.
use Rattle.std.proofs.Common.{ℕ, ◌≡◌, List, true, refl}
use Rattle.md_core.proofs.Values.{State, Info, path_of as path, Place, is_unique_name, asked_of, deed_by, name_copied, Purpose}
use Rattle.md_name.specs.declared.info.Info.TheVariants.{Two}
use Rattle.md_jobs.specs.declared.purpose.Purpose.TheVariants.{Move, Copy, Seen, Flag}
use Rattle.md_core.proofs.Settling.Loadable.{IsGoodPath, IsLoadable}
use Rattle.md_core.proofs.Settling.Leaving.{MakesGood}
use Rattle.md_core.proofs.Settling.Names.{unique-good, flagged-good}
use Rattle.md_core.proofs.Machines.Errand.Table.Calls.{IsFor}

module _ (s : State) (clock : ℕ) (h : IsLoadable s clock) where
  copied-good : (to : ℕ) (place : Place) (fresh : List ℕ) (info : Info) → is_unique_name fresh ≡ true → IsGoodPath (path to place (name_copied fresh info))
  copied-good to place fresh (Two flags) valid = flagged-good (path to place (name_copied fresh (Two flags))) fresh flags valid refl
  copied-good to place fresh other valid = unique-good (path to place fresh) valid

  pub deed-good : (p : Purpose) (folder : ℕ) (u : List ℕ) (place : Place) (name : List ℕ) (info : Info) → is_unique_name u ≡ true → IsFor folder p →
      MakesGood s (asked_of (deed_by p folder u place name info))
  deed-good (Seen given) folder u place name info valid for = λ n there. flagged-good _ u _ valid refl
  deed-good (Flag add remove) folder u place name info valid for = λ n there. flagged-good _ u _ valid refl
  deed-good (Move to) folder u place name info valid for = λ n there.
      let old = h.good (path folder place name) n there in record { name = old.name; short = old.short }
  deed-good (Copy to fresh) folder u place name info valid for = copied-good to place fresh info for
  deed-good other folder u place name info valid for = tt

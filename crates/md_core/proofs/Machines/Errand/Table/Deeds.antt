-- What each row of the table acts on: paths in new and cur, in folders that are there; and what a link makes is not there.
use Rattle.std.proofs.Common.{ℕ, ◌≡◌, List, false, refl, ◌<◌, None}
use Rattle.md_core.proofs.Values.{State, file_at, Path, Place, Row, Info, Call, path_of, Asked, link, rename, unlink, list, is_tmp, Act, Purpose, deed_by, info_in, asked_of, Deed}
use Rattle.md_jobs.specs.declared.purpose.Purpose.TheVariants.{Move, Copy, Seen, Flag}
use Rattle.md_jobs.specs.Tasks.Deed as deed
use Rattle.md_core.proofs.Induction.Good.{ErrandFits}
use Rattle.md_core.proofs.Machines.Errand.Copied.{unused}

-- a call that looks, or that acts on paths in new and cur alone
abbrev pub IsOfMail : Asked → Type 0
IsOfMail (list folder place) = Unit {0}
IsOfMail (rename old new) = (is_tmp old.place ≡ false) × (is_tmp new.place ≡ false)
IsOfMail (link old new) = is_tmp new.place ≡ false
IsOfMail (unlink old) = is_tmp old.place ≡ false
IsOfMail other = ⊥

pub deed-of-mail : (p : Purpose) (folder : ℕ) (u : List ℕ) (place : Place) (name : List ℕ) (info : Info) → is_tmp place ≡ false →
    IsOfMail (asked_of (deed_by p folder u place name info))
deed-of-mail (Seen given) folder u place name info at = (at, refl)
deed-of-mail (Flag add remove) folder u place name info at = (at, refl)
deed-of-mail (Move to) folder u place name info at = (at, at)
deed-of-mail other folder u place name info at = at

-- what the directories have of a deed on a path
abbrev pub FitsDeed : State → Path → Deed → Type 0
FitsDeed s p (deed.Rename old new) = (old ≡ p) × (new.folder < s.folders)
FitsDeed s p (deed.Link old new) = (old ≡ p) × (new.folder < s.folders) × (file_at s new ≡ None)
FitsDeed s p (deed.Unlink old) = old ≡ p

module _ (s : State) (asked : Call) (folder : ℕ) (u : List ℕ) (place : Place) (row : Row) (tries : ℕ) where
  pub deed-fits : (p : Purpose) → ErrandFits s asked (record { folder = folder; unique = u; purpose = p; stage = Act place row tries }) →
      FitsDeed s (path_of folder place row.name) (deed_by p folder u place row.name (info_in row.name))
  deed-fits (Seen given) fits = (refl, fits.in_folder)
  deed-fits (Flag add remove) fits = (refl, fits.in_folder)
  deed-fits (Move to) fits = (refl, fits.to_folder)
  deed-fits (Copy to fresh) fits = (refl, fits.to_folder, unused s asked folder u to fresh place row tries fits)
  deed-fits other fits = refl

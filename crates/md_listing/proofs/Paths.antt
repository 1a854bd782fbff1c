-- What the names of a mailbox show of its directories, as lemmas here take it from the law.
use Rattle.std.proofs.Common.{◌≡◌, ◌≢◌, ℕ, List, Some, T, not, sym, ap, subst, ◌∙◌}
use Rattle.std.specs.FinMap.{get}
use Rattle.md_dirs.specs.State.{State}
use Rattle.md_dirs.specs.declared.paths.Place.{Place}
use Rattle.md_dirs.specs.declared.paths.Place.TheVariants.{Tmp}
use Rattle.md_core.specs.Mailbox.{mailbox_of}
use Rattle.md_used.specs.Paths.{is_tmp}
use Rattle.md_core.specs.History.{Listed, names_of}
use Rattle.md_core.specs.Laws.{HasPath}
use Rattle.md_listing.proofs.Keyed.{first}

-- what is listed has a path, and what has a path is listed
abbrev pub AreOfPaths : State → Type 0
AreOfPaths s = (u : List ℕ) (x : Listed) → get (names_of (mailbox_of s)) u ≡ Some x → HasPath s u x

abbrev pub AreListed : State → Type 0
AreListed s = (u : List ℕ) (x : Listed) → HasPath s u x → get (names_of (mailbox_of s)) u ≡ Some x

-- a message is in new or cur
pub not_in_tmp : (s : State) (u : List ℕ) (x : Listed) → HasPath s u x → x.place ≢ Tmp
not_in_tmp s u x h in_tmp =
    let place : h.path.place ≡ Tmp = ap (λ (y : Listed). y.place) h.shown ∙ in_tmp in
    let never : T (not (is_tmp Tmp)) = subst (λ (p : Place). T (not (is_tmp p))) place (first _ _ (subst T (sym h.message) tt)) in
    never

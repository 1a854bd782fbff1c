-- The directory calls of an errand: it lists, and acts on paths in new and cur alone.
use Rattle.std.proofs.Common.{ℕ, ◌≡◌, List, true, ap, ◌∙◌}
use Rattle.md_core.proofs.Values.{Path, Tmp, Asked, create, append, unlink, is_tmp, info_in}
use Rattle.md_jobs.specs.Tasks.Errand.{Errand, Stage, Look, Act}
use Rattle.md_jobs.specs.Machines.Errand.{errand_turn, stage_turn}
use Rattle.md_core.proofs.Induction.Good.{IsAtStage}
use Rattle.md_core.proofs.Machines.Errand.Table.Rows.{not-tmp}
use Rattle.md_core.proofs.Machines.Errand.Table.Deeds.{IsOfMail, deed-of-mail}

pub errand-of-mail : (number : ℕ) (e : Errand) → IsAtStage e.unique e.purpose e.stage → IsOfMail (errand_turn number e).asked
errand-of-mail number e = by e.stage
  where
    by : (stage : Stage) → IsAtStage e.unique e.purpose stage → IsOfMail (stage_turn number e stage).asked
    by (Look place tries) fits = tt
    by (Act place row tries) fits =
        deed-of-mail e.purpose e.folder e.unique place row.name (info_in row.name) (not-tmp e.purpose place fits.at)

-- such a call makes no file, writes to none, and takes none of tmp away
pub no-create : (asked : Asked) (p : Path) → IsOfMail asked → asked ≡ create p → ⊥
no-create (create q) p mail is = absurd mail
no-create (append q bytes) p mail is = absurd mail
no-create other p mail is = cc

pub no-append : (asked : Asked) (p : Path) (bytes : List ℕ) → IsOfMail asked → asked ≡ append p bytes → ⊥
no-append (create q) p bytes mail is = absurd mail
no-append (append q more) p bytes mail is = absurd mail
no-append other p bytes mail is = cc

pub no-unlink : (asked : Asked) (p : Path) → p.place ≡ Tmp → IsOfMail asked → asked ≡ unlink p → ⊥
no-unlink (unlink old) p in_tmp mail is =
    let same : old ≡ p = cc in
    let hit : is_tmp old.place ≡ true = ap (λ (q : Path). is_tmp q.place) same ∙ ap is_tmp in_tmp in
    cc
no-unlink (create q) p in_tmp mail is = absurd mail
no-unlink (append q bytes) p in_tmp mail is = absurd mail
no-unlink other p in_tmp mail is = cc

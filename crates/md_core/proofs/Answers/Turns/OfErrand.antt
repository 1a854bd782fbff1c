-- What each turn of an errand says, by its stage, the reply and what is decided.
use Rattle.std.proofs.Common.{ℕ, ◌≡◌, ◌-◌, ◌<◌, List, Option, Some, None, Bool, true, false, cond, nat_le, refl, sym, ap, subst, ◌∙◌, arith}
use Rattle.std.proofs.lemmas.Bool.Decides.{nat_tests}
use Rattle.md_dirs.specs.Calls as dirs
use Rattle.md_core.proofs.Values.{State, file_at, path_of, Path, New, Cur, Row, Call, DirReply, Moment, Errand, rows_of, row_named, Place, mailbox_of, HasOnePath, entry_if, is_in_place, Turn, After, goes_on, rows_for, reply_of, ask_of, state_by, as_task, get, Purpose, first, searches, place_after, info_in, decide, deed_by, refuses, Deed, Rename, Link, Unlink}
use Rattle.md_jobs.specs.Tasks.Errand.{Errand as ErrandOf, Stage, Look, Act}
use Rattle.md_jobs.specs.declared.purpose.Decision.{Decision}
use Rattle.md_jobs.specs.declared.purpose.Decision.TheVariants as decision
use Rattle.md_jobs.specs.declared.refusal.Refusal.TheVariants as refusal
use Rattle.md_jobs.specs.declared.step.DirReply.TheVariants as reply
use Rattle.md_jobs.specs.Machines.Errand.{at_stage, asked_of, after_none, after_decision, after_row, look_turn, stage_turn, errand_turn}
use Rattle.md_core.proofs.Induction.Good.{ErrandFits}
use Rattle.md_core.proofs.Looking.LookUps.{IsRow, found-row, row-message, no-entry}
use Rattle.md_core.proofs.Machines.Stays.{as_after}
use Rattle.md_core.proofs.Machines.Errand.Table.Rows.{not-tmp, new-first, next-place}
use Rattle.md_core.proofs.Answers.Turns.Refusals.{list-exists, list-not_found, rename-exists, rename-not_found, link-exists, link-not_found, unlink-exists, unlink-not_found}
use Rattle.md_core.proofs.Answers.Turns.OneMessage.{TurnSays}
use Rattle.md_core.proofs.Machines.Errand.Table.Calls.{sought, sought-by, on}
use Rattle.md_core.proofs.Machines.Errand.Table.Says.{refuse-says, success-tells}
use Rattle.md_core.proofs.Machines.Errand.Table.Deeds.{FitsDeed, deed-fits}

-- what a turn of an errand says at a reply
abbrev pub SaysBy : State → Call → ErrandOf → ℕ → Turn ErrandOf → DirReply → Type 0
SaysBy s asked e clock turn r =
    TurnSays s (state_by (ask_of turn.asked clock) s r) asked (Errand e) r ((as_task Errand turn).follows r (rows_for turn.asked s))

-- ---- the turns

module _ (s : State) (number : ℕ) (asked : Call) (clock : ℕ) (one : HasOnePath s) (faulted : Bool) (folder : ℕ) (u : List ℕ) where
  module _ (place : Place) (tries : ℕ) where
    module _ (p : Purpose) (fits : ErrandFits s asked (on folder u p (Look place tries))) where
      abbrev x : ErrandOf
      x = on folder u p (Look place tries)

      abbrev SaysLook : After ErrandOf → Type 0
      SaysLook after = TurnSays s s asked (Errand x) reply.Ok (as_after Errand after)

      none-says : row_named u (rows_of s folder place) ≡ None → (o : Option Place) → place_after (searches p) place ≡ o →
          SaysLook (after_none x tries o)
      none-says none None is = (no-entry s folder place u none, is)
      none-says none (Some next) is =
          let h = next-place (searches p) place next is in
          record {
            tries = refl;
            looked = λ both cur.
                subst (λ (q : Place). entry_if (is_in_place q folder) (get (mailbox_of s) u) ≡ None) h.2
                (no-entry s folder place u none);
          }

      decision-says : (row : Row) (h : IsRow s folder place u row) (d : Decision) → decide p (info_in row.name) ≡ d →
          SaysLook (after_decision number x place tries row d)
      decision-says row h (decision.Refuse a) is = refuse-says s asked one folder u place tries row h p fits a is
      decision-says row h decision.Keep is = success-tells s asked x reply.Ok p (info_in row.name)
      decision-says row h decision.Act is = record {
        tries = (
          refl,
          record {
            file = h.file;
            there = h.there;
            message = row-message s folder place u row (not-tmp p place fits.stage) h;
            unique = h.unique ∙ sym (sought-by p folder u fits.tries) ∙ ap sought (sym fits.of);
          },
        );
        looked = tt;
      }

      row-says : (o : Option Row) → row_named u (rows_of s folder place) ≡ o → SaysLook (after_row number x place tries o)
      row-says None is = none-says is (place_after (searches p) place) refl
      row-says (Some row) is = decision-says row (found-row s folder place u row fits.valid is) (decide p (info_in row.name)) refl

      look-says : (r : DirReply) → r ≡ reply_of (dirs.list folder place) s faulted → SaysBy s asked x clock (look_turn number x place tries) r
      look-says reply.Ok replied = row-says (row_named u (rows_of s folder place)) refl
      look-says reply.Exists replied = absurd (list-exists s faulted folder place fits.in_folder replied)
      look-says reply.NotFound replied = absurd (list-not_found s faulted folder place fits.in_folder replied)
      look-says reply.Fault replied = refl

  -- the name is acted on
  module _ (place : Place) (row : Row) (tries : ℕ) where
    abbrev acting : Purpose → ErrandOf
    acting p = on folder u p (Act place row tries)

    -- A name is never there, and the act is not done only where its own name is gone.
    deed-exists : (d : Deed) → FitsDeed s (path_of folder place row.name) d → reply.Exists ≡ reply_of (ask_of (asked_of d) clock) s faulted → ⊥
    deed-exists (Rename old new) fits is = rename-exists s faulted old new is
    deed-exists (Link old new) fits is = link-exists s faulted old new fits.2 is
    deed-exists (Unlink old) fits is = unlink-exists s faulted old is

    deed-gone : (d : Deed) → FitsDeed s (path_of folder place row.name) d → reply.NotFound ≡ reply_of (ask_of (asked_of d) clock) s faulted →
        file_at s (path_of folder place row.name) ≡ None
    deed-gone (Rename old new) fits is = subst (λ (q : Path). file_at s q ≡ None) fits.0 (rename-not_found s faulted old new fits.1 is)
    deed-gone (Link old new) fits is = subst (λ (q : Path). file_at s q ≡ None) fits.0 (link-not_found s faulted old new fits.2 fits.1 is)
    deed-gone (Unlink old) fits is = subst (λ (q : Path). file_at s q ≡ None) fits (unlink-not_found s faulted old is)

    module _ (p : Purpose) (fits : ErrandFits s asked (acting p)) where
      abbrev d : Deed
      d = deed_by p folder u place row.name (info_in row.name)

      fits-deed : FitsDeed s (path_of folder place row.name) d
      fits-deed = deed-fits s asked folder u place row tries p fits

      again : file_at s (path_of folder place row.name) ≡ None → (b : Bool) → nat_le tries 1 ≡ b → TurnSays s s asked (Errand (acting p)) reply.NotFound
          (as_after Errand (cond b (refuses (acting p) refusal.Lost) (goes_on (at_stage (acting p) (Look (first p) (tries - 1))))))
      again none true is = (grind (arith, nat_tests), none)
      again none false is =
          let more : 1 < tries = grind (arith, nat_tests) in
          record { tries = (omega (arith, more), none); looked = λ both cur. (let new = new-first p both in let e : New ≡ Cur = sym new ∙ cur in cc) }

      act-says : (r : DirReply) → r ≡ reply_of (ask_of (asked_of d) clock) s faulted →
          SaysBy s asked (acting p) clock (stage_turn number (acting p) (Act place row tries)) r
      act-says reply.Ok replied = success-tells s asked (acting p) reply.Ok p (info_in row.name)
      act-says reply.Exists replied = absurd (deed-exists d fits-deed replied)
      act-says reply.NotFound replied = again (deed-gone d fits-deed replied) (nat_le tries 1) refl
      act-says reply.Fault replied = refl

  stage-says : (p : Purpose) (stage : Stage) → ErrandFits s asked (on folder u p stage) →
      SaysBy s asked (on folder u p stage) clock (stage_turn number (on folder u p stage) stage)
      (reply_of (ask_of (stage_turn number (on folder u p stage) stage).asked clock) s faulted)
  stage-says p (Look place tries) fits = look-says place tries p fits _ refl
  stage-says p (Act place row tries) fits = act-says place row tries p fits _ refl

-- What a turn of an errand says.
pub errand-says : (s : State) (number : ℕ) (asked : Call) (at : Moment) → HasOnePath s → (faulted : Bool) (e : ErrandOf) → ErrandFits s asked e →
    SaysBy s asked e at.clock (errand_turn number e) (reply_of (ask_of (errand_turn number e).asked at.clock) s faulted)
errand-says s number asked at one faulted e fits = stage-says s number asked at.clock one faulted e.folder e.unique e.purpose e.stage fits

-- What each row of the table does to the mailbox: a message is kept as it is, or its deed is done.
use Rattle.std.proofs.Common.{ℕ, ◌≡◌, List, Some, not, refl, sym, ap, subst, ◌∙◌}
use Rattle.std.proofs.lemmas.Bool.{and_from}
use Rattle.md_core.proofs.Values.{State, IsSound, file_at, path_of, Row, Set, Info, Call, DirReply, Errand, Place, info_of, flags_of, alone, MayGetFlags, Entry, mailbox_of, entry_of, HasOnePath, is_effect_at, Turn, ends_by, rows_for, list, ask_of, state_by, as_task, get, Purpose, info_in, wanted, decide, answer_by, deed_by, shown}
use Rattle.md_jobs.specs.declared.answer.Answer.TheVariants as answer
use Rattle.md_jobs.specs.Tasks.Errand.{Errand as ErrandOf, Look, Act}
use Rattle.md_jobs.specs.declared.purpose.Decision.TheVariants as decision
use Rattle.md_jobs.specs.declared.purpose.Purpose.TheVariants.{Seen, Flag, Move, Copy, Expunge}
use Rattle.md_jobs.specs.declared.step.DirReply.TheVariants as reply
use Rattle.md_jobs.specs.Machines.Errand.{asked_of, kept, stage_turn}
use Rattle.md_core.proofs.Induction.Good.{HasSize, ErrandFits, Does}
use Rattle.md_core.proofs.Looking.LookUps.{IsRow, row-entry, info-in}
use Rattle.md_core.proofs.Mailbox.Shown.{shows-mailbox}
use Rattle.md_core.proofs.Machines.Stays.{as_after}
use Rattle.md_name.proofs.SameSets.{same-sets, subset-union}
use Rattle.md_core.proofs.Machines.Errand.Table.Rows.{not-tmp, one-place, acts-flags, acts-flag, keeps-flag, test-keeps, acts-trashed}
use Rattle.md_core.proofs.Machines.Errand.Marked.{alone-seen, alone-flags, alone-keeps, keeps-it, gives-flags}
use Rattle.md_core.proofs.Machines.Errand.Moved.{rename-does}
use Rattle.md_core.proofs.Machines.Errand.Copied.{link-does}
use Rattle.md_core.proofs.Machines.Errand.Expunged.{unlink-does, alone-expunges, is_there}
use Rattle.md_core.proofs.Machines.Errand.Table.Calls.{on}

-- what a turn of an errand does at a reply
abbrev pub DoesBy : State → ℕ → Call → ErrandOf → ℕ → Turn ErrandOf → DirReply → Type 0
DoesBy s number asked e clock turn r =
    Does s (state_by (ask_of turn.asked clock) s r) number asked (Errand e) turn.asked r ((as_task Errand turn).follows r (rows_for turn.asked s))

module _ (s : State) (number : ℕ) (asked : Call) (sound : IsSound s) (one : HasOnePath s) (folder : ℕ) (u : List ℕ) (place : Place) (tries : ℕ)
  where
    -- only a Flag keeps
    pub keep-does : (p : Purpose) (fits : ErrandFits s asked (on folder u p (Look place tries))) (row : Row) (h : IsRow s folder place u row) →
        decide p (info_in row.name) ≡ decision.Keep →
        Does s s number asked (Errand (on folder u p (Look place tries))) (list folder place) reply.Ok
        (as_after Errand (ends_by (on folder u p (Look place tries)) (kept number (answer_by p (info_in row.name)))))
    keep-does (Flag add remove) fits row h is =
        let keeps = keeps-flag (Flag add remove) (flags_of (info_in row.name)) is in
        let had : Set = shown (info_in row.name) in
        let at = one-place (Flag add remove) place refl fits.stage in
        let shows : flags_of (info_of row.name) ≡ Some had = ap flags_of (sym (info-in row.name h.named)) ∙ keeps.0 in
        let no_tmp = not-tmp (Flag add remove) place fits.stage in
        keeps-it s number asked (on folder u (Flag add remove) (Look place tries)) sound one fits place row.name h.file had no_tmp h.named h.unique shows h.there
        (wanted (Flag add remove) had) at (same-sets had (wanted (Flag add remove) had) keeps.1)
        (ap (λ (c : Call). alone c (mailbox_of s)) fits.of
        ∙ alone-keeps (mailbox_of s) folder u (entry_of s (path_of folder place row.name) h.file) had (row-entry s folder place u row no_tmp one h) refl shows
        add remove fits.tries at keeps.1)
        (ap (λ (c : Call). is_effect_at c (list folder place) reply.Ok (Some (answer.Flags (wanted (Flag add remove) had)))) fits.of)
    keep-does (Move to) fits row h is = cc
    keep-does other fits row h is = absurd (test-keeps _ _ is)

module _ (s : State) (number : ℕ) (asked : Call) (sound : IsSound s) (one : HasOnePath s) (folder : ℕ) (u : List ℕ) (place : Place) (row : Row) (tries : ℕ)
    (clock : ℕ) (sized : HasSize (mailbox_of s) u row.size) where
  abbrev info : Info
  info = info_in row.name

  abbrev acting : Purpose → ErrandOf
  acting p = on folder u p (Act place row tries)

  abbrev DoesAct : Purpose → DirReply → Type 0
  DoesAct p r = DoesBy s number asked (acting p) clock (stage_turn number (acting p) (Act place row tries)) r

  abbrev had : Set
  had = shown info

  -- the message that a mark acts on
  module _ (p : Purpose) (fits : ErrandFits s asked (acting p)) (k : ℕ) (at : file_at s (path_of folder place row.name) ≡ Some k) where
    abbrev entry : Entry
    entry = entry_of s (path_of folder place row.name) k

    before : get (mailbox_of s) u ≡ Some entry
    before = shows-mailbox s u entry one (record {
      path = path_of folder place row.name;
      file = k;
      there = at;
      message = and_from _ _ (ap not (not-tmp p place fits.stage.at)) fits.stage.named;
      unique = fits.stage.unique;
      entry = refl;
    })

    shows-had : flags_of info ≡ Some had → flags_of (info_of row.name) ≡ Some had
    shows-had is = ap flags_of (sym (info-in row.name fits.stage.named)) ∙ is

  pub done-does : (p : Purpose) → ErrandFits s asked (acting p) → (k : ℕ) → file_at s (path_of folder place row.name) ≡ Some k → DoesAct p reply.Ok
  done-does (Seen given) fits k at =
      let shows = shows-had (Seen given) fits k at (acts-flags (flags_of info) fits.stage.acts) in
      let new = one-place (Seen given) place refl fits.stage.at in
      gives-flags s number asked (acting (Seen given)) sound one fits place row.name k had (not-tmp (Seen given) place fits.stage.at) fits.stage.named
      fits.stage.unique shows at (wanted (Seen given) had) row.size
      (ap (λ (c : Call). alone c (mailbox_of s)) fits.of
      ∙ alone-seen (mailbox_of s) folder u (entry (Seen given) fits k at) had (before (Seen given) fits k at) refl shows given fits.tries new)
      (ap (λ (c : Call). is_effect_at c (asked_of (deed_by (Seen given) folder u place row.name info)) reply.Ok (Some (answer_by (Seen given) info))) fits.of)
      (subst (λ (q : Place). MayGetFlags q row.name (wanted (Seen given) had)) (sym new) (had, shows, subset-union had given))
  done-does (Flag add remove) fits k at =
      let acts = acts-flag (Flag add remove) (flags_of info) fits.stage.acts in
      let shows = shows-had (Flag add remove) fits k at acts.0 in
      let cur = one-place (Flag add remove) place refl fits.stage.at in
      gives-flags s number asked (acting (Flag add remove)) sound one fits place row.name k had (not-tmp (Flag add remove) place fits.stage.at)
      fits.stage.named fits.stage.unique shows at (wanted (Flag add remove) had) row.size
      (ap (λ (c : Call). alone c (mailbox_of s)) fits.of
      ∙ alone-flags (mailbox_of s) folder u (entry (Flag add remove) fits k at) had (before (Flag add remove) fits k at) refl shows add
      remove fits.tries cur acts.1)
      (ap (λ (c : Call). is_effect_at c (asked_of (deed_by (Flag add remove) folder u place row.name info)) reply.Ok
      (Some (answer_by (Flag add remove) info))) fits.of)
      (subst (λ (q : Place). MayGetFlags q row.name (wanted (Flag add remove) had)) (sym cur) (had, shows))
  done-does (Move to) fits k at =
      rename-does s number asked folder u to place row tries k sound one fits at
  done-does (Copy to fresh) fits k at =
      link-does s number asked folder u to fresh place row tries k sound one fits sized at
  done-does Expunge fits k at =
      let trashed = acts-trashed (flags_of info) fits.stage.acts in
      let cur = one-place Expunge place refl fits.stage.at in
      let shows = ap flags_of (sym (info-in row.name fits.stage.named)) ∙ trashed.1 in
      unlink-does s number asked folder u place row tries k sound one Expunge fits at answer.Expunged refl
      (ap (λ (c : Call). alone c (mailbox_of s)) fits.of
      ∙ alone-expunges (mailbox_of s) folder u (entry Expunge fits k at) trashed.0 fits.tries (before Expunge fits k at) refl cur shows trashed.2)
      (ap (λ (c : Call). is_effect_at c (asked_of (deed_by Expunge folder u place row.name info)) reply.Ok (Some answer.Expunged)) fits.of)
      (fits.in_folder, cur, is_there s number asked folder u place row tries k sound one Expunge fits at answer.Expunged refl, (trashed.0, shows, trashed.2))
